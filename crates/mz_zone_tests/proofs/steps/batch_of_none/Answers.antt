use Rattle.mz_zone_tests.proofs.Tested.{can_at, ready_then}
use Rattle.mz_zone_tests.proofs.steps.batch_of_none.Goals as goal

pub batch_malloc-requires-clause-can : goal.batch_malloc-requires-clause-can
batch_malloc-requires-clause-can g c = can_at _ c.args.zone.now 0 c.requires

pub returns-in-Ok : goal.returns-in-Ok
returns-in-Ok g c = record { ready = ready_then _ _ _ 0 _ c.requires c.in-Ok.ensures.answers.2.goes; held = tt }

pub returns : goal.returns
returns g c = record { ready = ready_then _ _ _ 0 _ c.requires c.in-Err.ensures.answers.2.goes; held = tt }
