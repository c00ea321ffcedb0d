use Rattle.std.proofs.Common.{ap, ◌∙◌, length}
use Rattle.std.specs.Prelude.{◌==◌}
use Rattle.mz_events.specs.State.{Kept}
use Rattle.mz_holding.specs.HeldRuns.{live_in_runs}
use Rattle.mz_holding.proofs.RunLemmas.{live_spread}
use Rattle.mz_holding.proofs.QueryLemmas.{used_sum, none_live}
use Rattle.mz_holding.proofs.holding.Holding.has_no_blocks.Goals as goal

pub returns : goal.returns
returns c = ap (λ u. u == 0) (c.self.invariant.all ∙ used_sum c.self.inside.runs.items) ∙ none_live (live_in_runs c.self.inside.runs.items) (live_spread c.self.inside.runs.items c.self.invariant.in_order) ∙ ap (λ (k : Kept). length k.live == 0) c.self.view_is
