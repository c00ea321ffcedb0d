use Rattle.std.proofs.Common.{List, ap, ◌∙◌}
use Rattle.std.specs.Prelude.{find, is_some}
use Rattle.std.specs.Option.{option_map}
use Rattle.mz_base.specs.Room.{has_room, any_has_room}
use Rattle.mz_holding.specs.declared.held.Held.{Held}
use Rattle.mz_events.specs.State.{Kept}
use Rattle.mz_holding.specs.HeldRuns.{run_of_held, live_of_held}
use Rattle.mz_events.specs.Room.{wide}
use Rattle.mz_holding.proofs.QueryLemmas.{any_room}
use Rattle.mz_holding.proofs.holding.Holding.has_any_room.Goals as goal

pub returns : goal.returns
returns c =
    c.is_some.ensures ∙ ap is_some (c.lowest_with_room.ensures ∙ ap (λ (xs : List Held). option_map (λ (h : Held). h.first) (find (λ h. has_room (run_of_held h) (live_of_held h) c.args.n c.args.al) xs)) c.deref.ensures.value)
    ∙ any_room c.self.inside.runs.items c.args.n c.args.al c.self.invariant.in_order c.requires.some c.requires.whole
    ∙ ap (λ (k : Kept). any_has_room k.runs (wide k) c.args.n c.args.al) c.self.view_is
