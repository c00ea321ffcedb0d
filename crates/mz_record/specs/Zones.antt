-- What a state has in each zone: live blocks, and runs. That a zone is destroyed with all its runs is after libmalloc;
-- the numbers of zones, and the order in which runs go back, are this project's own.
use Rattle.std.specs.Prelude.{ℕ, ◌==◌, List, [], ◌∷◌, filter, find, length, map, Option}
use Rattle.mz_base.specs.Space.{Block, Run}
use Rattle.mz_base.specs.Lists.{insert_by}
use Rattle.mz_events.specs.declared.event.Event.{Event}
use Rattle.mz_events.specs.declared.event.Event.TheVariants.{Back, Shut}
use Rattle.mz_events.specs.Places.{Spot, place_of, zone_of}
use Rattle.mz_events.specs.State.{State, live_blocks, placed_runs}

-- the zone of a spot
abbrev pub zone_at : Spot → ℕ
zone_at j = zone_of (place_of j)

-- the live block that begins at the address, with its spot, or none
abbrev pub live_from : State → ℕ → Option (Spot × Block)
live_from s a = find (λ x. x.1.first == a) (live_blocks s)

-- how many blocks of the zone are live
abbrev pub live_in_zone : State → ℕ → ℕ
live_in_zone s z = length (filter (λ x. zone_at x.0 == z) (live_blocks s))

-- in ascending order of first pages
unfoldable pub by_page : List (Spot × Run) → List (Spot × Run)
by_page [] = []
by_page (x ∷ xs) = insert_by (λ y. y.1.first) x (by_page xs)

-- the runs of a zone, each with its spot
abbrev pub runs_of_zone : State → ℕ → List (Spot × Run)
runs_of_zone s z = by_page (filter (λ x. zone_at x.0 == z) (placed_runs s))

-- the events by which the zone is destroyed in this state: it is shut, and each of its runs goes back
abbrev pub destroying : State → ℕ → List Event
destroying s z = Shut z ∷ map (λ x. Back (place_of x.0) x.1.first x.1.pages) (runs_of_zone s z)
