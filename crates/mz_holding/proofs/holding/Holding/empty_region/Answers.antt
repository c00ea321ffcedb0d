use Rattle.std.proofs.Common.{List, length, sym, ap, ◌∙◌}
use Rattle.std.specs.Prelude.{find, ◌==◌}
use Rattle.std.specs.Option.{option_map}
use Rattle.mz_base.specs.Space.{Run}
use Rattle.mz_holding.specs.declared.held.Held.{Held}
use Rattle.mz_events.specs.declared.event.Event.TheVariants.{Back}
use Rattle.mz_events.specs.Duties.{empty_depot_region}
use Rattle.mz_holding.specs.HeldRuns.{run_of_extent, run_of_held, live_of_held}
use Rattle.mz_holding.proofs.QueryLemmas.{unused_found}
use Rattle.mz_holding.proofs.holding.Holding.empty_region.Goals as goal

pub returns-in_err-run : goal.returns-in_err-run
returns-in_err-run c =
    c.from_residual.ensures ∙ ap (option_map (λ (r : Run). Back c.args.d r.first r.pages)) (ap (option_map run_of_extent) (sym c.in_err-run.was) ∙ c.lowest_unused.ensures ∙ ap (λ (xs : List Held). option_map run_of_held (find (λ h. length (live_of_held h) == 0) xs)) c.deref.ensures.value ∙ sym (unused_found c.self.inside.runs.items c.self.invariant.in_order))
    ∙ ap (empty_depot_region c.args.d) c.self.view_is

pub returns : goal.returns
returns c =
    ap (option_map (λ (r : Run). Back c.args.d r.first r.pages)) (ap (option_map run_of_extent) (sym c.in_ok-run.was) ∙ c.lowest_unused.ensures ∙ ap (λ (xs : List Held). option_map run_of_held (find (λ h. length (live_of_held h) == 0) xs)) c.deref.ensures.value ∙ sym (unused_found c.self.inside.runs.items c.self.invariant.in_order))
    ∙ ap (empty_depot_region c.args.d) c.self.view_is
