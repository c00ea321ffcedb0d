use Rattle.std.proofs.Common.{refl}
use Rattle.mz_keeper_tests.proofs.region.regions_answer_as_a_plain_list_does.Goals as goal

pub calls_that_agree-requires-clause-power : goal.calls_that_agree-requires-clause-power
calls_that_agree-requires-clause-power g c = (4, refl)

pub calls_that_agree-requires-2-clause-power : goal.calls_that_agree-requires-2-clause-power
calls_that_agree-requires-2-clause-power g c = (4, refl)

pub calls_that_agree-requires-3-clause-power : goal.calls_that_agree-requires-3-clause-power
calls_that_agree-requires-3-clause-power g c = (4, refl)

pub calls_that_agree-requires-4-clause-power : goal.calls_that_agree-requires-4-clause-power
calls_that_agree-requires-4-clause-power g c = (9, refl)
