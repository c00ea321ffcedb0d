use Rattle.std.proofs.Common.{refl, lit<}
use Rattle.mz_keeper_tests.proofs.region.only_a_whole_block_is_taken_back.Goals as goal

pub make-requires : goal.make-requires
make-requires g c = (lit< tt, (4, refl))
