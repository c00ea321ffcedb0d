use Rattle.std.proofs.Common.{refl, lit<, lit≤}
use Rattle.mz_keeper_tests.proofs.magazine.reads_agree.Goals as goal

pub fits-requires : goal.fits-requires
fits-requires g c = (lit< tt, (c.requires, ((4, refl), lit≤ tt)))

pub fits-requires-2 : goal.fits-requires-2
fits-requires-2 g c = (lit< tt, (c.requires, ((10, refl), lit≤ tt)))
