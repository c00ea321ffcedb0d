use Rattle.mz_trace.proofs.RunHasTrace.{trace_of_run}
use Rattle.mz_trace.proofs.laws.trace_of_run.Goals as goal

pub returns : goal.returns
returns c = trace_of_run
