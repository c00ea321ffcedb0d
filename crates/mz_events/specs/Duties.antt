-- A duty is one event that stands at named spots until it comes. That sparse regions go to a depot, and freed large
-- runs into a cache, is after libmalloc; that they have to, and when, is this project's own.
use Rattle.std.specs.Prelude.{◌-◌, ◌*◌, ◌/◌, ◌==◌, Bool, true, false, nat_lt, ◌&&◌, List, [], ◌∷◌, find, length, sum_by, Option, Some, None, if◌then◌else◌}
use Rattle.std.specs.List.{list_any}
use Rattle.std.specs.Option.{option_map}
use Rattle.mz_base.specs.Space.{Block, Run}
use Rattle.mz_base.specs.Lists.{blocks_in, size_sum, run_bytes}
use Rattle.mz_events.specs.declared.place.Place.{Place}
use Rattle.mz_events.specs.declared.place.Place.TheVariants.{Large}
use Rattle.mz_events.specs.declared.event.Event.{Event}
use Rattle.mz_events.specs.declared.event.Event.TheVariants.{Take, Back, Move, New, End, Size, Full, Dry, No, Open, Shut}
use Rattle.mz_events.specs.Places.{is_magazine, is_depot, is_large, depot_of, same_place, spot_of, Spot, same_spot}
use Rattle.mz_events.specs.State.{Kept, State, kept_at}

-- the event is this duty; only a move or a back can be one
abbrev pub is_that : Event → Event → Bool
is_that (Move f j k) (Move g x y) = (f == g) && same_place j x && same_place k y
is_that (Back k f w) (Back j g v) = same_place k j && (f == g) && (w == v)
is_that _ _ = false

-- no duty stands, or the event is it
abbrev pub allows : Option Event → Event → Bool
allows None e = true
allows (Some d) e = is_that d e

-- a duty stands, and the event is it
abbrev pub is_owed : Option Event → Event → Bool
is_owed None e = false
is_owed (Some d) e = is_that d e

-- A magazine is in excess where its regions have more idle bytes than one and a half of them, and more
-- than a quarter of their bytes. (After libmalloc's recirculation; the formula is this project's.)
abbrev pub is_in_excess : Kept → Bool
is_in_excess k =
    let all = sum_by run_bytes k.runs in
    let used = size_sum k.live in
    list_any (λ r. nat_lt (3 * run_bytes r) (2 * (all - used))) k.runs && nat_lt used (all - all / 4)

-- a region is sparse where less than three quarters of it are live (this project's own)
abbrev pub is_sparse : List Block → Run → Bool
is_sparse live r = nat_lt (4 * size_sum (blocks_in live r)) (3 * run_bytes r)

-- a region is unused where no live block lies in it
abbrev pub is_unused : List Block → Run → Bool
is_unused live r = length (blocks_in live r) == 0

-- the move of the lowest sparse region of a magazine in excess to its depot
abbrev pub recirculation : Place → Kept → Option Event
recirculation m k = if is_in_excess k then option_map (λ r. Move r.first m (depot_of m)) (find (is_sparse k.live) k.runs) else None

-- the way back to the free pages of a depot's region without live blocks
abbrev pub empty_depot_region : Place → Kept → Option Event
empty_depot_region d k = option_map (λ r. Back d r.first r.pages) (find (is_unused k.live) k.runs)

-- the way back to the free pages of the oldest cached run
abbrev pub back_of_oldest : Place → List Run → Option Event
back_of_oldest l [] = None
back_of_oldest l (r ∷ rs) = Some (Back l r.first r.pages)

-- with 17 runs cached, the oldest goes (after libmalloc's death row; its 16 places are this project's)
abbrev pub death_row : Place → Kept → Option Event
death_row l k = if nat_lt 16 (length k.cached) then back_of_oldest l k.cached else None

-- the duty that the end of a block leaves at its place
abbrev pub duty_of_end : Place → Kept → Option Event
duty_of_end k kept =
    if is_magazine k then recirculation k kept
    else (if is_depot k then empty_depot_region k kept else (if is_large k then death_row k kept else None))

-- The duty that stands at a touched spot after an event; before is the state in which it comes, and kept
-- what the spot keeps after it.
abbrev pub duty_after : State → Event → Spot → Kept → Option Event
duty_after before (End k a s) j kept = duty_of_end k kept
duty_after before (Move f from to) j kept =
    if is_depot to && same_spot j (spot_of to) then empty_depot_region to kept
    else (if is_depot from && same_spot j (spot_of from) then empty_depot_region from kept else None)
duty_after before (Dry z w al) j kept = back_of_oldest (Large z) (kept_at before (spot_of (Large z))).cached
duty_after before (Take k f w) j kept = None
duty_after before (Back k f w) j kept = None
duty_after before (New k a n al) j kept = None
duty_after before (Size k a n m) j kept = None
duty_after before (Full k n al) j kept = None
duty_after before (No k z a n) j kept = None
duty_after before (Open z) j kept = None
duty_after before (Shut z) j kept = None
