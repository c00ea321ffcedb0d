use Rattle.std.proofs.Common.{length, ap}
use Rattle.std.specs.Prelude.{◌==◌}
use Rattle.mz_events.specs.State.{Kept}
use Rattle.mz_holding.proofs.pages.FreePages.has_no_blocks.Goals as goal

pub returns-clause-is : goal.returns-clause-is
returns-clause-is c = ap (λ (k : Kept). length k.live == 0) c.self.view_is
