use Rattle.std.proofs.Common.{refl, lit<, lit≤, arith}
use Rattle.mz_keeper_tests.proofs.region.one_call.Goals as goal

pub aligned-requires : goal.aligned-requires
aligned-requires g c = let few = c.requires in (lit< tt, (c.quanta-n.ensures, ((9, refl), (omega arith, lit≤ tt))))

pub aligned-requires-in-3 : goal.aligned-requires-in-3
aligned-requires-in-3 g c = let few = c.requires in (lit< tt, (c.quanta-n.ensures, ((11, refl), (omega arith, lit≤ tt))))

pub aligned-requires-in-4 : goal.aligned-requires-in-4
aligned-requires-in-4 g c = let few = c.requires in (lit< tt, (c.quanta-n.ensures, ((14, refl), (omega arith, lit≤ tt))))
