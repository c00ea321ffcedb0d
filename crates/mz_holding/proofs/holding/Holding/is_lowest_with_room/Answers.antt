use Rattle.std.proofs.Common.{List, sym, ap, ◌∙◌}
use Rattle.std.specs.Prelude.{find}
use Rattle.std.specs.Option.{option_map}
use Rattle.mz_base.specs.Room.{has_room}
use Rattle.mz_holding.specs.declared.held.Held.{Held}
use Rattle.mz_events.specs.State.{Kept}
use Rattle.mz_holding.specs.HeldRuns.{run_of_held, live_of_held}
use Rattle.mz_events.specs.Rules.{is_lowest_with_room}
use Rattle.mz_holding.proofs.QueryLemmas.{is_first, lowest_room}
use Rattle.mz_holding.proofs.holding.Holding.is_lowest_with_room.Goals as goal

pub returns-in-Some : goal.returns-in-Some
returns-in-Some c = ap (λ o. is_first o c.args.first) (sym c.in-Some.is ∙ c.lowest_with_room.ensures ∙ ap (λ (xs : List Held). option_map (λ (h : Held). h.first) (find (λ h. has_room (run_of_held h) (live_of_held h) c.args.n c.args.al) xs)) c.deref.ensures.value)
    ∙ lowest_room c.self.inside.runs.items c.args.first c.args.n c.args.al c.self.invariant.in_order c.requires.some c.requires.whole
    ∙ ap (λ (k : Kept). is_lowest_with_room k c.args.first (c.args.n, c.args.al)) c.self.view_is

pub returns-in-None : goal.returns-in-None
returns-in-None c = ap (λ o. is_first o c.args.first) (sym c.in-None.is ∙ c.lowest_with_room.ensures ∙ ap (λ (xs : List Held). option_map (λ (h : Held). h.first) (find (λ h. has_room (run_of_held h) (live_of_held h) c.args.n c.args.al) xs)) c.deref.ensures.value)
    ∙ lowest_room c.self.inside.runs.items c.args.first c.args.n c.args.al c.self.invariant.in_order c.requires.some c.requires.whole
    ∙ ap (λ (k : Kept). is_lowest_with_room k c.args.first (c.args.n, c.args.al)) c.self.view_is
