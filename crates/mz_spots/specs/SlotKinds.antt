-- The kinds of spots.
use Rattle.std.specs.Prelude.{ℕ, ◌≡◌, false, Option, None, if◌then◌else◌}
use Rattle.mz_events.specs.declared.place.Place.{Place}
use Rattle.mz_events.specs.declared.event.Event.{Event}
use Rattle.mz_events.specs.Places.{Spot, keeper_at, nano_page, is_pages, is_depot}
use Rattle.mz_events.specs.Duties.{empty_depot_region}
use Rattle.mz_events.specs.State.{Kept}
use Rattle.mz_holding.specs.HeldRuns.{IsRoomAt}
use Rattle.mz_holding.specs.NanoPages.{IsSlotAmong}

-- the spot of a place that can have runs
abbrev pub IsOfRuns : Spot → Type 0
IsOfRuns j = (k : Place) × (j ≡ keeper_at k) × (is_pages k ≡ false)

-- there is room for the n bytes from a
abbrev pub HasRoomFor : Spot → Kept → ℕ → ℕ → Type 0
HasRoomFor (keeper_at k) kept a n = IsRoomAt kept a n
HasRoomFor (nano_page i) kept a n = IsSlotAmong kept.live a n

-- the duty that a region which comes or goes leaves at the place, which keeps this now
abbrev pub duty_of_region : Place → Kept → Option Event
duty_of_region k kept = if is_depot k then empty_depot_region k kept else None
