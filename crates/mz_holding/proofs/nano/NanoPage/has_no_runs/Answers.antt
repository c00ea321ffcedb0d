use Rattle.std.proofs.Common.{length, ap}
use Rattle.std.specs.Prelude.{◌==◌}
use Rattle.mz_events.specs.State.{Kept}
use Rattle.mz_holding.proofs.nano.NanoPage.has_no_runs.Goals as goal

pub returns-clause-is : goal.returns-clause-is
returns-clause-is c = ap (λ (k : Kept). length k.runs == 0) c.self.view_is
