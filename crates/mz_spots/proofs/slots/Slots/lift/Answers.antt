use Rattle.std.proofs.Common.{ap, ◌∙◌, List}
use Rattle.std.specs.Prelude.{slice_set}
use Rattle.mz_events.specs.Places.{Spot}
use Rattle.mz_events.specs.State.{Value, blank, write}
use Rattle.mz_spots.specs.Keys.{spot_of_key}
use Rattle.mz_spots.proofs.IndexLemmas.{written_again}
use Rattle.mz_spots.proofs.slots.Slots.lift.Goals as goal

pub returns-clause-slot : goal.returns-clause-slot
returns-clause-slot c = c.in_ok-rest.ensures.out c.in_ok-rest.slot ∙ c.in_ok-slots.ensures.here c.in_ok-rest.slot

pub returns-clause-rest : goal.returns-clause-rest
returns-clause-rest c = λ v.
    let j = spot_of_key c.args.key in
    ap (λ (l : List (Spot × Value)). write l j v) (c.in_ok-rest.ensures.put ∙ ap (slice_set c.in_ok-slots.slots c.in_ok-slots.i) c.blank.ensures)
    ∙ written_again c.args.self c.in_ok-slots.slots c.in_ok-slots.i j blank v c.in_ok-slots.ensures
