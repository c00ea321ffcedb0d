use Rattle.std.proofs.Common.{map, ap, ◌∙◌}
use Rattle.mz_base.specs.Space.{Run}
use Rattle.mz_events.specs.State.{Kept}
use Rattle.mz_holding.specs.declared.extent.Extent.{Extent}
use Rattle.mz_history.proofs.ListLemmas.{firsts_here}
use Rattle.mz_history.proofs.books.Books.cached_of.Goals as goal

pub returns : goal.returns
returns c =
    c.in_ok-list.ensures ∙ ap (map (λ (e : Extent). e.first)) c.deref.ensures.value ∙ firsts_here c.in_ok-runs.runs.items _ c.in_ok-runs.ensures
    ∙ ap (λ (k : Kept). map (λ (r : Run). r.first) k.cached) c.holding.ensures
