use Rattle.mz_run.proofs.BuiltTexts.{never_run}
use Rattle.mz_run.proofs.laws.unbuilt_is_not_run.Goals as goal

pub returns : goal.returns
returns c = never_run c.one_trace.ensures
