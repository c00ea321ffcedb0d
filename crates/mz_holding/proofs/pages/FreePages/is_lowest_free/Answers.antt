use Rattle.std.proofs.Common.{ap, sym, ◌∙◌}
use Rattle.mz_base.specs.Space.{run_at}
use Rattle.mz_base.specs.Room.{is_lowest_free}
use Rattle.mz_events.specs.State.{Kept}
use Rattle.mz_holding.specs.TakenPages.{lowest_between}
use Rattle.mz_holding.proofs.TakenLemmas.{lowest_free-some, lowest_free-none}
use Rattle.mz_holding.proofs.pages.FreePages.is_lowest_free.Goals as goal

pub returns-in-Some : goal.returns-in-Some
returns-in-Some c =
    let a = c.args in
    let found = ap (lowest_between a.top a.w a.al 0) (sym c.deref.ensures.value) ∙ sym c.lowest_in.ensures ∙ c.in-Some.is in
    sym (lowest_free-some c.multiple_is_least.ensures c.free_runs.ensures.lowest a.top a.w a.al c.self.inside.taken.items a.first c.in-Some.lowest c.requires.aligned c.self.invariant found)
    ∙ ap (λ (k : Kept). is_lowest_free a.top k.taken (run_at a.first a.w) a.al) c.self.view_is

pub returns-in-None : goal.returns-in-None
returns-in-None c =
    let a = c.args in
    let found = ap (lowest_between a.top a.w a.al 0) (sym c.deref.ensures.value) ∙ sym c.lowest_in.ensures ∙ c.in-None.is in
    sym (lowest_free-none c.multiple_is_least.ensures c.free_runs.ensures.lowest a.top a.w a.al c.self.inside.taken.items a.first c.requires.aligned c.self.invariant found)
    ∙ ap (λ (k : Kept). is_lowest_free a.top k.taken (run_at a.first a.w) a.al) c.self.view_is
