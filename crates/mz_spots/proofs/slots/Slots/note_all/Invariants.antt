use Rattle.std.proofs.Common.{◌≡◌, drop}
use Rattle.mz_events.specs.Places.{Spot}
use Rattle.mz_events.specs.State.{look_up}
use Rattle.mz_events.specs.Effect.{write_all}
use Rattle.mz_events.specs.Leaving.{left_by}
use Rattle.mz_spots.specs.Keys.{spots_of}
use Rattle.mz_spots.proofs.slots.Slots.note_all.Given as goal

abbrev pub invariant-loop-i : goal.invariant-loop-i
invariant-loop-i l = record {
  kept : (j : Spot) → (look_up l.slots j).kept ≡ (look_up l.initial.slots j).kept;
  written : write_all (λ j. left_by l.done.caller l.done.event (look_up l.initial.slots j).kept l.duty) (spots_of l.keys) l.initial.slots
      ≡ write_all (λ j. left_by l.done.caller l.done.event (look_up l.initial.slots j).kept l.duty) (spots_of (drop l.i l.keys)) l.slots;
}
