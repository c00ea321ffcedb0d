use Rattle.std.proofs.Common.{refl, lit<}
use Rattle.mz_keeper_tests.proofs.magazine.bench.Bench+16+64.cut.Goals as goal

pub make-requires : goal.make-requires
make-requires c = (lit< tt, (4, refl))
