use Rattle.mz_run.proofs.BuiltTexts.{unbuilt_is_one}
use Rattle.mz_run.proofs.laws.one_unbuilt_line.Goals as goal

pub returns : goal.returns
returns c = unbuilt_is_one c.one_trace.ensures
