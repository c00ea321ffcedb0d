-- What a caller knows of the spots that it holds, whatever the others do. This project's own.
use Rattle.std.specs.Prelude.{◌≡◌, ◌≢◌, ℕ, Bool, true, false, List, [], ◌∷◌, if◌then◌else◌}
use Rattle.std.specs.List.{All}
use Rattle.mz_base.specs.declared.profile.Profile.{Profile}
use Rattle.mz_events.specs.declared.entry.Entry.{Entry}
use Rattle.mz_events.specs.declared.place.Place.TheVariants.{Pages}
use Rattle.mz_events.specs.declared.event.Event.{Event}
use Rattle.mz_events.specs.declared.event.Event.TheVariants.{Take, Open, Shut}
use Rattle.mz_events.specs.Places.{Spot, depot_of, spot_of}
use Rattle.mz_events.specs.State.{State, value_at, is_open}
use Rattle.mz_events.specs.Effect.{touched, touches, value_after, after}
use Rattle.mz_events.specs.Rules.{Fits}
use Rattle.mz_events.specs.History.{after_all}
use Rattle.mz_events.specs.Locality.{reads}
use Rattle.mz_events.specs.Hands.{own}

-- the spots that an event reads: those that it touches, and for a take the depot's
abbrev pub read_spots : Profile → Event → List Spot
read_spots p (Take k f w) = spot_of k ∷ spot_of Pages ∷ spot_of (depot_of k) ∷ []
read_spots p e = touched p e

-- the event opens or shuts a zone
abbrev pub changes_zones : Event → Bool
changes_zones (Open z) = true
changes_zones (Shut z) = true
changes_zones _ = false

-- what the event reads is held
abbrev pub ReadsHeld : Profile → (Spot → Bool) → Event → Type 0
ReadsHeld p held e = (j : Spot) → reads p e j ≡ true → held j ≡ true

-- the entry is of another caller than c, opens and shuts no zone, and touches no held spot
pub record IsAway (p : Profile) (c : ℕ) (held : Spot → Bool) (e : Entry) : Type 0 where
  pub other : e.caller ≢ c
  pub no_zone : changes_zones e.event ≡ false
  pub untouched : (j : Spot) → held j ≡ true → touches p e.event j ≡ false

-- and so is each of these entries
abbrev pub AreAway : Profile → ℕ → (Spot → Bool) → List Entry → Type 0
AreAway p c held entries = All (IsAway p c held) entries

-- What c knows through entries that are away from what it holds: each held spot has the value that it had, the same
-- zones are open, none of the entries is its own; and an event that reads only what is held fits after them where it
-- fitted before, and leaves what it would have left.
pub record IsKnownThrough (p : Profile) (c : ℕ) (held : Spot → Bool) (s : State) (entries : List Entry) : Type 0 where
  pub values : (j : Spot) → held j ≡ true → value_at (after_all p s entries) j ≡ value_at s j
  pub zones : (z : ℕ) → is_open (after_all p s entries) z ≡ is_open s z
  pub none_own : own c entries ≡ []
  pub fits : (d : ℕ) (e : Event) → ReadsHeld p held e → Fits p s d e → Fits p (after_all p s entries) d e
  pub touched : (d : ℕ) (e : Event) → ReadsHeld p held e → (j : Spot) → touches p e j ≡ true →
      value_at (after p (after_all p s entries) d e) j ≡ value_after s d e j
  pub untouched : (d : ℕ) (e : Event) (j : Spot) → held j ≡ true → touches p e j ≡ false →
      value_at (after p (after_all p s entries) d e) j ≡ value_at s j
  pub leaves : (d : ℕ) (e : Event) → ReadsHeld p held e → (j : Spot) → held j ≡ true
      → value_at (after p (after_all p s entries) d e) j ≡ (if touches p e j then value_after s d e j else value_at s j)
