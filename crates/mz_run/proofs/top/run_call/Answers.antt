use Rattle.mz_run.proofs.ReplyLemmas.{run_ends}
use Rattle.mz_run.proofs.top.run_call.Goals as goal

pub returns-clause-ends : goal.returns-clause-ends
returns-clause-ends g c = run_ends c.args.job.now _ _ c.run_trace.result c.run_trace.ensures.ends
