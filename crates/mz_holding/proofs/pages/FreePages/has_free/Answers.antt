use Rattle.std.proofs.Common.{ap, ◌∙◌}
use Rattle.std.specs.Prelude.{is_some}
use Rattle.mz_base.specs.Room.{has_free}
use Rattle.mz_events.specs.State.{Kept}
use Rattle.mz_holding.specs.TakenPages.{lowest_between}
use Rattle.mz_holding.proofs.TakenLemmas.{has_free-is}
use Rattle.mz_holding.proofs.pages.FreePages.has_free.Goals as goal

pub returns : goal.returns
returns c =
    let a = c.args in
    c.is_some.ensures ∙ ap is_some (c.lowest_in.ensures ∙ ap (lowest_between a.top a.w a.al 0) c.deref.ensures.value)
    ∙ has_free-is c.multiple_is_least.ensures c.free_runs.ensures.some a.top a.w a.al c.self.inside.taken.items c.requires.aligned c.self.invariant
    ∙ ap (λ (k : Kept). has_free a.top k.taken a.w a.al) c.self.view_is
