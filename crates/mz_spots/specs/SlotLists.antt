-- Lists of slots: where a spot stands, and what is written there.
use Rattle.std.specs.Prelude.{ℕ, ◌≡◌, ◌<◌, List, find, length, slice_index_or, slice_set, Option}
use Rattle.mz_events.specs.Places.{Spot, same_spot}
use Rattle.mz_events.specs.State.{Value, look_up, write}

-- the spot and its value, where the list has the spot
abbrev pub found_at : List (Spot × Value) → Spot → Option (Spot × Value)
found_at values j = find (λ pair. same_spot j pair.0) values

-- The slot of the spot stands at the index of the new list, with its value of the old list; what is written there is written
-- to the old list.
pub record IsSlotFor (old new : List (Spot × Value)) (i : ℕ) (j : Spot) : Type 0 where
  pub within : i < length new
  pub here : (d : Spot × Value) → slice_index_or new i d ≡ (j, look_up old j)
  pub writes : (v : Value) → slice_set new i (j, v) ≡ write old j v
