use Rattle.std.proofs.Common.{◌*◌, List, Some, sym, ap, ◌∙◌}
use Rattle.std.specs.Prelude.{find, nat_lt}
use Rattle.std.specs.Option.{option_map}
use Rattle.mz_base.specs.Lists.{run_bytes}
use Rattle.mz_holding.specs.declared.held.Held.{Held}
use Rattle.mz_events.specs.declared.event.Event.TheVariants.{Move}
use Rattle.mz_events.specs.Places.{depot_of}
use Rattle.mz_events.specs.Duties.{is_in_excess, recirculation}
use Rattle.mz_holding.specs.HeldRuns.{run_of_held}
use Rattle.mz_holding.proofs.QueryLemmas.{recirculates}
use Rattle.mz_holding.proofs.holding.Holding.recirculation.Goals as goal

pub returns-in_err-first : goal.returns-in_err-first
returns-in_err-first c =
    let excess = ap is_in_excess c.self.view_is ∙ sym c.is_in_excess.ensures ∙ c.if-not-is_in_excess.false in
    let found = c.lowest_sparse.ensures ∙ ap (λ (xs : List Held). option_map (λ (h : Held). h.first) (find (λ h. nat_lt (4 * h.used) (3 * run_bytes (run_of_held h))) xs)) c.deref.ensures.value in
    c.from_residual.ensures ∙ ap (option_map (λ f. Move f c.args.m (depot_of c.args.m))) (sym c.in_err-first.was ∙ found)
    ∙ sym (recirculates c.args.m c.self.inside.runs.items c.self.inside.freed c.self.inside.cached.items c.self.invariant.in_order excess)
    ∙ ap (recirculation c.args.m) c.self.view_is

pub returns : goal.returns
returns c =
    let excess = ap is_in_excess c.self.view_is ∙ sym c.is_in_excess.ensures ∙ c.if-not-is_in_excess.false in
    let found = c.lowest_sparse.ensures ∙ ap (λ (xs : List Held). option_map (λ (h : Held). h.first) (find (λ h. nat_lt (4 * h.used) (3 * run_bytes (run_of_held h))) xs)) c.deref.ensures.value in
    ap (λ d. Some (Move c.in_ok-first.first c.args.m d)) c.depot_of.ensures ∙ ap (option_map (λ f. Move f c.args.m (depot_of c.args.m))) (sym c.in_ok-first.was ∙ found)
    ∙ sym (recirculates c.args.m c.self.inside.runs.items c.self.inside.freed c.self.inside.cached.items c.self.invariant.in_order excess)
    ∙ ap (recirculation c.args.m) c.self.view_is
