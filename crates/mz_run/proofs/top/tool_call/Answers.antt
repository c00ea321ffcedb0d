use Rattle.mz_run.proofs.ReplyLemmas.{tool_ends}
use Rattle.mz_run.proofs.top.tool_call.Goals as goal

pub returns-clause-ends : goal.returns-clause-ends
returns-clause-ends g c = tool_ends c.args.tool.now _ _ c.check_trace.result c.check_trace.ensures.ends
