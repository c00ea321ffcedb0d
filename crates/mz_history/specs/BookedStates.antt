-- A state by its parts.
use Rattle.std.specs.Prelude.{ℕ, List}
use Rattle.mz_events.specs.Places.{Spot}
use Rattle.mz_events.specs.State.{Value, State}

abbrev pub state_with : List (Spot × Value) → List ℕ → ℕ → ℕ → State
state_with values zones entries greatest = record { values = values; open_zones = zones; entries = entries; greatest = greatest }
