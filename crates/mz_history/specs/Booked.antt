-- A state as code keeps it.
use Rattle.std.specs.Prelude.{ℕ, ◌≡◌, ◌==◌, Bool, true, nat_le, ◌&&◌, List, Option, Some, None, IsTrue, if◌then◌else◌}
use Rattle.std.specs.List.{list_any, list_all}
use Rattle.mz_base.specs.declared.profile.Profile.{Profile}
use Rattle.mz_base.specs.Limits.{IsWithinLimits}
use Rattle.mz_events.specs.declared.entry.Entry.{Entry}
use Rattle.mz_base.specs.Space.{Run}
use Rattle.mz_events.specs.declared.event.Event.{Event}
use Rattle.mz_events.specs.declared.event.Event.TheVariants.{Move, Full}
use Rattle.mz_events.specs.State.{Deed, Value, State, opening}
use Rattle.mz_events.specs.History.{AreLawful, after_all}

-- a state, with the profile of its space
pub record Booked : Type 0 where
  pub profile : Profile
  pub state : State

-- some entries, each lawful, leave the state from the opening state
abbrev pub IsReached : Profile → State → Type 0
IsReached p s = (entries : List Entry) × AreLawful p opening entries × (s ≡ after_all p opening entries)

-- where the last entry is a full, it asks for something at some alignment
abbrev pub is_good_claim : Option Deed → Bool
is_good_claim None = true
is_good_claim (Some d) = elim d.event [ Full k n al ↦ nat_le 1 n && nat_le 1 al | _ ↦ true ]

-- where the duty is a move, it is one of a region that is there
abbrev pub is_good_duty : Option Event → List Run → Bool
is_good_duty None runs = true
is_good_duty (Some e) runs = elim e [ Move f j k ↦ list_any (λ r. r.first == f) runs | _ ↦ true ]

abbrev pub is_sound : Value → Bool
is_sound v = is_good_claim v.last && is_good_duty v.duty v.kept.runs

-- The profile is within its limits, the state is reached, and of each spot the last entry and the duty are sound.
pub record IsBooked (p : Profile) (s : State) : Type 0 where
  pub limits : IsWithinLimits p
  pub reached : IsReached p s
  pub sound : IsTrue (list_all (λ pair. is_sound pair.1) s.values)

-- the first of two rules that is broken, by number
abbrev pub first_of_two : ℕ → Bool → ℕ → Bool → Option ℕ
first_of_two m first n second = if first then (if second then None else Some n) else Some m
