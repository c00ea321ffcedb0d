-- When an event is lawful: the rules, each under the number by which its breach is reported. Quanta, magazines,
-- the last freed block, depots and the cache of freed large runs are after libmalloc; all else is this project's own.
-- Rules 10 and 11, on where a block lies and where a new one is placed, stand in `Placement`.
use Rattle.std.specs.Prelude.{ℕ, ◌==◌, Bool, true, false, nat_lt, nat_le, ◌&&◌, ◌||◌, not, List, [], ◌∷◌, length, find, Option, Some, None, IsTrue, if◌then◌else◌}
use Rattle.std.specs.List.{list_any, list_all}
use Rattle.mz_base.specs.declared.profile.Profile.{Profile}
use Rattle.mz_base.specs.Space.{block_at, run_at, blocks_apart, bytes_of}
use Rattle.mz_events.specs.declared.place.Place.{Place}
use Rattle.mz_events.specs.declared.place.Place.TheVariants.{Pages}
use Rattle.mz_events.specs.declared.event.Event.{Event}
use Rattle.mz_events.specs.declared.event.Event.TheVariants.{Take, Back, Move, New, End, Size, Full, Dry, No, Open, Shut}
use Rattle.mz_events.specs.Places.{is_magazine, is_depot, is_large, is_nano, is_pages, zone_of, depot_of, is_length_of, exists_in, places_of, are_pair, spot_at, spot_of}
pub use Rattle.mz_events.specs.Places.{nano_start}
use Rattle.mz_events.specs.State.{Kept, Deed, State, value_at, kept_at, is_open}
use Rattle.mz_base.specs.Lists.{has_run, has_block}
use Rattle.mz_base.specs.Room.{any_has_room, has_room, has_free, is_lowest_free}
use Rattle.mz_events.specs.Room.{wide, any_fits}
use Rattle.mz_events.specs.Duties.{allows, is_owed}
use Rattle.mz_events.specs.Effect.{touched}
use Rattle.mz_events.specs.Placement.{fits_apart_there, is_placed}
pub use Rattle.mz_events.specs.Placement.{is_placed_in_magazine}

-- The rules in the order in which their breaches are reported. The first, that tickets are 0, 1, 2 and so
-- on, is the history's own; the others are an event's.
pub data Rule : Type 0 where
  in_turn : Rule
  duty_first : Rule
  existing : Rule
  takes_lowest : Rule
  takes_claimed : Rule
  backs_unused : Rule
  backs_allowed : Rule
  moves_in_by_duty : Rule
  moves_out_claimed : Rule
  fits_apart : Rule
  placed : Rule
  live_there : Rule
  no_room : Rule
  zone_changes : Rule

-- the number of a rule
abbrev pub number_of : Rule → ℕ
number_of in_turn = 1
number_of duty_first = 2
number_of existing = 3
number_of takes_lowest = 4
number_of takes_claimed = 5
number_of backs_unused = 6
number_of backs_allowed = 7
number_of moves_in_by_duty = 8
number_of moves_out_claimed = 9
number_of fits_apart = 10
number_of placed = 11
number_of live_there = 12
number_of no_room = 13
number_of zone_changes = 14

-- Rule 2: where a duty stands at a spot that the event touches, the event is that duty.
abbrev pub meets_duties : Profile → State → Event → Bool
meets_duties p s e = list_all (λ j. allows (value_at s j).duty e) (touched p e)

-- the place is one of the space and its zone is open
abbrev pub stands : Profile → State → Place → Bool
stands p s k = exists_in p k && is_open s (zone_of k)

-- the zone is one of the profile and open
abbrev pub zone_stands : Profile → State → ℕ → Bool
zone_stands p s z = nat_lt z p.zones && is_open s z

-- Rule 3: the event's places exist and are of a kind that it may name, and its zones are open. A place of
-- a zone that is shut may still give its runs back; open and shut are judged by rule 14.
abbrev pub places_exist : Profile → State → Event → Bool
places_exist p s (Take k f w) = (is_magazine k || is_large k) && stands p s k
places_exist p s (Back k f w) = (is_magazine k || is_depot k || is_large k) && exists_in p k
places_exist p s (Move f from to) = are_pair from to && stands p s from && stands p s to
places_exist p s (New k a n al) = (is_magazine k || is_large k || is_nano k) && stands p s k
places_exist p s (End k a n) = not (is_pages k) && stands p s k
places_exist p s (Size k a n m) = (is_magazine k || is_depot k) && stands p s k
places_exist p s (Full k n al) = (is_magazine k || is_depot k || is_large k) && stands p s k
places_exist p s (Dry z w al) = zone_stands p s z
places_exist p s (No k z a n) = not (is_pages k) && stands p s k && zone_stands p s z
places_exist p s (Open z) = nat_lt z p.zones
places_exist p s (Shut z) = nat_lt z p.zones

-- Rule 4: a run that is taken is the lowest free run of a length of the place, at its length for a region
-- and anywhere for large.
abbrev pub is_lowest_taken : Profile → State → Event → Bool
is_lowest_taken p s (Take k f w) =
    is_length_of k w && is_lowest_free (nano_start p) (kept_at s (spot_of Pages)).taken (run_at f w) (if is_large k then 1 else w)
is_lowest_taken p s _ = true

-- what this caller found no room for, where its full is the last entry
abbrev pub claim_of : ℕ → Option Deed → Option (ℕ × ℕ)
claim_of c None = None
claim_of c (Some d) = elim d.event [
  | Full k n al ↦ if d.caller == c then Some (n, al) else None
  | _ ↦ None
]

-- both are claims, for one size and one alignment
abbrev pub same_claim : Option (ℕ × ℕ) → Option (ℕ × ℕ) → Bool
same_claim (Some a) (Some b) = (a.0 == b.0) && (a.1 == b.1)
same_claim _ _ = false

-- Rule 5: a region is taken where the caller found its magazine and then the depot full, for one request;
-- a large run where no cached run fits.
abbrev pub is_claimed_taken : State → ℕ → Event → Bool
is_claimed_taken s c (Take k f w) =
    if is_large k then not (any_fits (kept_at s (spot_of k)).cached w)
    else same_claim (claim_of c (value_at s (spot_of k)).last) (claim_of c (value_at s (spot_of (depot_of k))).last)
is_claimed_taken s c _ = true

-- Rule 6: a run that goes back is the place's and holds no live block.
abbrev pub is_unused_back : State → Event → Bool
is_unused_back s (Back k f w) =
    let r = run_at f w in
    has_run (kept_at s (spot_of k)).runs r && list_all (λ b. blocks_apart b (bytes_of r)) (kept_at s (spot_of k)).live
is_unused_back s _ = true

-- Rule 7: a magazine of an open zone gives nothing back, and large of an open zone only by a duty.
abbrev pub is_allowed_back : State → Event → Bool
is_allowed_back s (Back k f w) =
    if not (is_open s (zone_of k)) then true
    else (if is_magazine k then false else (if is_large k then is_owed (value_at s (spot_of k)).duty (Back k f w) else true))
is_allowed_back s _ = true

-- Rule 8: a region goes into a depot by a duty.
abbrev pub is_owed_move : State → Event → Bool
is_owed_move s (Move f from to) = if is_depot to then is_owed (value_at s (spot_of from)).duty (Move f from to) else true
is_owed_move s _ = true

-- the region that begins at page f is the lowest of these with room
abbrev pub is_lowest_with_room : Kept → ℕ → ℕ × ℕ → Bool
is_lowest_with_room k f claim =
    list_any (λ r. (r.first == f) && has_room r (wide k) claim.0 claim.1) k.runs
    && list_all (λ r. nat_le f r.first || not (has_room r (wide k) claim.0 claim.1)) k.runs

-- Rule 9: a region goes out of a depot where the caller found the magazine full, and it is the lowest with
-- room for that request.
abbrev pub is_claimed_move : State → ℕ → Event → Bool
is_claimed_move s c (Move f from to) =
    if is_depot to then true
    else elim (claim_of c (value_at s (spot_of to)).last) [ Some claim ↦ is_lowest_with_room (kept_at s (spot_of from)) f claim | None ↦ false ]
is_claimed_move s c _ = true

-- Rule 12: a block that ends, changes its size or is said not to be of a zone is live in the place, and in the last
-- case the place is of another zone.
abbrev pub is_live_there : State → Event → Bool
is_live_there s (End k a n) = has_block (kept_at s (spot_at k a)).live (block_at a n)
is_live_there s (Size k a n m) = has_block (kept_at s (spot_at k a)).live (block_at a n)
is_live_there s (No k z a n) = has_block (kept_at s (spot_at k a)).live (block_at a n) && not (zone_of k == z)
is_live_there s _ = true

-- Rule 13: a place that is said to be full has no room, in the wide reading, and no cached run that fits; pages that
-- are said to be dry have no free run of that length at that alignment.
abbrev pub has_no_room : Profile → State → Event → Bool
has_no_room p s (Full k n al) =
    let kept = kept_at s (spot_of k) in
    nat_le 1 n && nat_le 1 al && not (if is_large k then any_fits kept.cached n else any_has_room kept.runs (wide kept) n al)
has_no_room p s (Dry z w al) = nat_le 1 w && nat_le 1 al && not (has_free (nano_start p) (kept_at s (spot_of Pages)).taken w al)
has_no_room p s _ = true

-- no place of the zone has a run
abbrev pub has_no_runs : Profile → State → ℕ → Bool
has_no_runs p s z = list_all (λ k. length (kept_at s (spot_of k)).runs == 0) (places_of p z)

-- no live block lies in a place of the zone
abbrev pub has_no_blocks : Profile → State → ℕ → Bool
has_no_blocks p s z = list_all (λ k. length (kept_at s (spot_of k)).live == 0) (places_of p z)

-- Rule 14: a zone opens where it is closed and has no runs; a zone other than 0 shuts where it is open and
-- has no live block.
abbrev pub is_zone_change : Profile → State → Event → Bool
is_zone_change p s (Open z) = not (is_open s z) && has_no_runs p s z
is_zone_change p s (Shut z) = not (z == 0) && is_open s z && has_no_blocks p s z
is_zone_change p s _ = true

-- whether an event by a caller keeps a rule
unfoldable pub keeps : Rule → Profile → State → ℕ → Event → Bool
keeps in_turn p s c e = true
keeps duty_first p s c e = meets_duties p s e
keeps existing p s c e = nat_lt c p.callers && places_exist p s e
keeps takes_lowest p s c e = is_lowest_taken p s e
keeps takes_claimed p s c e = is_claimed_taken s c e
keeps backs_unused p s c e = is_unused_back s e
keeps backs_allowed p s c e = is_allowed_back s e
keeps moves_in_by_duty p s c e = is_owed_move s e
keeps moves_out_claimed p s c e = is_claimed_move s c e
keeps fits_apart p s c e = fits_apart_there p s e
keeps placed p s c e = is_placed s e
keeps live_there p s c e = is_live_there s e
keeps no_room p s c e = has_no_room p s e
keeps zone_changes p s c e = is_zone_change p s e

-- the rules of an event, in order
abbrev pub event_rules : List Rule
event_rules = duty_first ∷ existing ∷ takes_lowest ∷ takes_claimed ∷ backs_unused ∷ backs_allowed ∷ moves_in_by_duty ∷ moves_out_claimed ∷ fits_apart ∷ placed ∷ live_there ∷ no_room ∷ zone_changes ∷ []

-- An event by a caller fits a state where it keeps each rule.
abbrev pub Fits : Profile → State → ℕ → Event → Type 0
Fits p s c e = (r : Rule) → IsTrue (keeps r p s c e)

-- the first rule that an event by a caller breaks
abbrev pub first_broken : Profile → State → ℕ → Event → Option Rule
first_broken p s c e = find (λ r. not (keeps r p s c e)) event_rules
