-- What an event's lawfulness and effect depend on. This project's own.
use Rattle.std.specs.Prelude.{ℕ, ◌≡◌, Bool, true, false, ◌||◌}
use Rattle.mz_base.specs.declared.profile.Profile.{Profile}
use Rattle.mz_events.specs.declared.event.Event.{Event}
use Rattle.mz_events.specs.declared.event.Event.TheVariants.{Take}
use Rattle.mz_events.specs.Places.{depot_of, Spot, same_spot, spot_of}
use Rattle.mz_events.specs.State.{State, value_at, is_open}
use Rattle.mz_events.specs.Effect.{touches, after}
use Rattle.mz_events.specs.Rules.{Fits}

-- take reads the value of the magazine's depot, for its last entry
abbrev pub reads_besides : Event → Spot → Bool
reads_besides (Take k f w) j = same_spot j (spot_of (depot_of k))
reads_besides _ j = false

-- the rules of an event read what it touches, and little more
abbrev pub reads : Profile → Event → Spot → Bool
reads p e j = touches p e j || reads_besides e j

-- two states agree on what an event reads, and on which zones are open
pub record Agree (p : Profile) (e : Event) (s t : State) : Type 0 where
  pub values : (j : Spot) → reads p e j ≡ true → value_at s j ≡ value_at t j
  pub zones : (z : ℕ) → is_open s z ≡ is_open t z

-- An event is local where it fits each of two states that agree if it fits the other, leaves the same
-- on both where it touches them, leaves the same zones open on both, and leaves each spot that it doesn't touch as it is.
pub record IsLocal (p : Profile) (e : Event) : Type 0 where
  pub fits : (s t : State) (c : ℕ) → Agree p e s t → Fits p s c e → Fits p t c e
  pub effect : (s t : State) (c : ℕ) (j : Spot) → Agree p e s t → touches p e j ≡ true → value_at (after p s c e) j ≡ value_at (after p t c e) j
  pub zones : (s t : State) (c z : ℕ) → Agree p e s t → is_open (after p s c e) z ≡ is_open (after p t c e) z
  pub elsewhere : (s : State) (c : ℕ) (j : Spot) → touches p e j ≡ false → value_at (after p s c e) j ≡ value_at s j
