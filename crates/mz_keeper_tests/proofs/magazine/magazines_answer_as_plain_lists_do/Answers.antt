use Rattle.std.proofs.Common.{refl}
use Rattle.mz_keeper_tests.proofs.magazine.magazines_answer_as_plain_lists_do.Goals as goal

pub calls_in_one_region-requires-clause-power : goal.calls_in_one_region-requires-clause-power
calls_in_one_region-requires-clause-power g c = (4, refl)

pub calls_in_one_region-requires-2-clause-power : goal.calls_in_one_region-requires-2-clause-power
calls_in_one_region-requires-2-clause-power g c = (9, refl)
