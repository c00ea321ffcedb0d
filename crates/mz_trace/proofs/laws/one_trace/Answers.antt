use Rattle.mz_trace.proofs.TextsAreTraces.{one_trace}
use Rattle.mz_trace.proofs.laws.one_trace.Goals as goal

pub returns : goal.returns
returns c = one_trace c.line_laws.ensures
