use Rattle.std.proofs.Common.{refl, lit<, lit≤}
use Rattle.mz_keeper_tests.proofs.magazine.one_call.Goals as goal

pub alloc-requires : goal.alloc-requires
alloc-requires g c = (lit< tt, (c.quanta-n.ensures, ((8, refl), lit≤ tt)))

pub alloc-requires-in-3 : goal.alloc-requires-in-3
alloc-requires-in-3 g c = (lit< tt, (c.quanta-n.ensures, ((14, refl), lit≤ tt)))

pub alloc-requires-in-0 : goal.alloc-requires-in-0
alloc-requires-in-0 g c = (lit< tt, (c.quanta-n.ensures, ((4, refl), lit≤ tt)))
