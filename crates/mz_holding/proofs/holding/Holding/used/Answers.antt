use Rattle.std.proofs.Common.{ap, ◌∙◌}
use Rattle.mz_base.specs.Lists.{size_sum}
use Rattle.mz_events.specs.State.{Kept}
use Rattle.mz_holding.proofs.QueryLemmas.{used_sum}
use Rattle.mz_holding.proofs.holding.Holding.used.Goals as goal

pub returns : goal.returns
returns c = c.self.invariant.all ∙ used_sum c.self.inside.runs.items ∙ ap (λ (k : Kept). size_sum k.live) c.self.view_is
