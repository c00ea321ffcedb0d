use Rattle.mz_trace.proofs.TextsAreTraces.{without_bad_line}
use Rattle.mz_trace.proofs.laws.without_bad_line.Goals as goal

pub returns : goal.returns
returns c = without_bad_line c.line_laws.ensures
