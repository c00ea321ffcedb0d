-- When an event fits, event by event, by what stands at the spots that it reads. Each record has the rules that speak of
-- its event, in words of that event's own.
use Rattle.std.specs.Prelude.{◌≡◌, ◌≢◌, ℕ, ◌<◌, ◌≤◌, ◌%◌, ◌==◌, true, false, ◌||◌, ◌⊎◌, [], Some, None, IsTrue, ◌↔◌}
use Rattle.std.specs.List.{list_all, All}
use Rattle.mz_base.specs.declared.profile.Profile.{Profile}
use Rattle.mz_base.specs.Space.{block_at, run_at, blocks_apart, bytes_of}
use Rattle.mz_base.specs.Lists.{has_run, has_block}
use Rattle.mz_base.specs.Room.{any_has_room, has_free, is_lowest_free}
use Rattle.mz_events.specs.declared.place.Place.{Place}
use Rattle.mz_events.specs.declared.place.Place.TheVariants.{Pages, Large}
use Rattle.mz_events.specs.declared.event.Event.{Event}
use Rattle.mz_events.specs.declared.event.Event.TheVariants.{Take, Back, Move, New, End, Size, Full, Dry, No, Open, Shut}
use Rattle.mz_events.specs.Places.{is_magazine, is_depot, is_large, is_pages, is_nano, zone_of, depot_of, is_size_of, is_length_of, nano_start, exists_in, places_of, Spot, spot_at, spot_of}
use Rattle.mz_events.specs.State.{State, value_at, kept_at, is_open}
use Rattle.mz_events.specs.Room.{wide, any_fits}
use Rattle.mz_events.specs.Placement.{lies_in_place, is_placed_in_magazine, is_placed_in_large, is_placed_in_nano}
use Rattle.mz_events.specs.Rules.{Fits, claim_of, is_lowest_with_room}

-- the caller is one of the profile's, the place exists, and its zone is open
pub record IsStanding (p : Profile) (s : State) (c : ℕ) (k : Place) : Type 0 where
  pub caller : c < p.callers
  pub exists : IsTrue (exists_in p k)
  pub zone_open : IsTrue (is_open s (zone_of k))

-- no duty stands at the spot
abbrev pub IsCalm : State → Spot → Type 0
IsCalm s j = (value_at s j).duty ≡ None

-- the event is the duty that stands at the spot
abbrev pub IsOwedAt : State → Spot → Event → Type 0
IsOwedAt s j e = (value_at s j).duty ≡ Some e

-- the spot is calm, or the event is its duty
abbrev pub IsAllowedAt : State → Spot → Event → Type 0
IsAllowedAt s j e = IsCalm s j ⊎ IsOwedAt s j e

-- the caller c found the place full, as the last entry there says, for a request of this size and alignment
abbrev pub FoundFull : State → ℕ → Place → ℕ × ℕ → Type 0
FoundFull s c k request = claim_of c (value_at s (spot_of k)).last ≡ Some request

-- A magazine takes the lowest free region, where the caller found it and then its depot full for one request.
pub record MayTakeRegion (p : Profile) (s : State) (c : ℕ) (m : Place) (f w : ℕ) : Type 0 where
  pub standing : IsStanding p s c m
  pub calm : IsCalm s (spot_of m)
  pub pages_calm : IsCalm s (spot_of Pages)
  pub length : IsTrue (is_length_of m w)
  pub lowest : IsTrue (is_lowest_free (nano_start p) (kept_at s (spot_of Pages)).taken (run_at f w) w)
  pub request : ℕ × ℕ
  pub full : FoundFull s c m request
  pub depot_full : FoundFull s c (depot_of m) request

-- Large takes the lowest free run, where no cached run fits.
pub record MayTakeRun (p : Profile) (s : State) (c z f w : ℕ) : Type 0 where
  pub standing : IsStanding p s c (Large z)
  pub calm : IsCalm s (spot_of (Large z))
  pub pages_calm : IsCalm s (spot_of Pages)
  pub length : IsTrue (is_length_of (Large z) w)
  pub lowest : IsTrue (is_lowest_free (nano_start p) (kept_at s (spot_of Pages)).taken (run_at f w) 1)
  pub none_fits : any_fits (kept_at s (spot_of (Large z))).cached w ≡ false

-- A place gives back a run of its own without live blocks. While its zone is open a magazine gives nothing back, and large
-- only what it owes.
pub record MayGiveBack (p : Profile) (s : State) (c : ℕ) (k : Place) (f w : ℕ) : Type 0 where
  pub caller : c < p.callers
  pub kind : IsTrue (is_magazine k || is_depot k || is_large k)
  pub exists : IsTrue (exists_in p k)
  pub allowed : IsAllowedAt s (spot_of k) (Back k f w)
  pub pages_allowed : IsAllowedAt s (spot_of Pages) (Back k f w)
  pub here : IsTrue (has_run (kept_at s (spot_of k)).runs (run_at f w))
  pub unused : IsTrue (list_all (λ b. blocks_apart b (bytes_of (run_at f w))) (kept_at s (spot_of k)).live)
  pub no_magazine : IsTrue (is_open s (zone_of k)) → is_magazine k ≡ false
  pub owed : IsTrue (is_open s (zone_of k)) → IsTrue (is_large k) → IsOwedAt s (spot_of k) (Back k f w)

-- A magazine puts a region aside into its depot, by a duty.
pub record MayPutAside (p : Profile) (s : State) (c : ℕ) (m : Place) (f : ℕ) : Type 0 where
  pub standing : IsStanding p s c m
  pub owed : IsOwedAt s (spot_of m) (Move f m (depot_of m))
  pub depot_allowed : IsAllowedAt s (spot_of (depot_of m)) (Move f m (depot_of m))

-- A magazine takes from its depot the lowest region with room for a request for which the caller found it full.
pub record MayTakeOut (p : Profile) (s : State) (c : ℕ) (m : Place) (f : ℕ) : Type 0 where
  pub standing : IsStanding p s c m
  pub allowed : IsAllowedAt s (spot_of m) (Move f (depot_of m) m)
  pub depot_allowed : IsAllowedAt s (spot_of (depot_of m)) (Move f (depot_of m) m)
  pub request : ℕ × ℕ
  pub full : FoundFull s c m request
  pub lowest : IsTrue (is_lowest_with_room (kept_at s (spot_of (depot_of m))) f request)

-- A new block is of a size of its place, at its alignment, lies in a run of the place apart from every live block there,
-- and stands where the place would put it.
pub record MayMake (p : Profile) (s : State) (c : ℕ) (k : Place) (a n al : ℕ) : Type 0 where
  pub standing : IsStanding p s c k
  pub kind : IsTrue (is_magazine k || is_large k || is_nano k)
  pub calm : IsCalm s (spot_at k a)
  pub size : IsTrue (is_size_of k n)
  pub some : 1 ≤ al
  pub aligned : a % al ≡ 0
  pub lies : IsTrue (lies_in_place p k (kept_at s (spot_at k a)).runs (block_at a n))
  pub apart : IsTrue (list_all (λ b. blocks_apart b (block_at a n)) (kept_at s (spot_at k a)).live)
  pub in_magazine : IsTrue (is_magazine k) → IsTrue (is_placed_in_magazine (kept_at s (spot_at k a)) (block_at a n) al)
  pub in_large : IsTrue (is_large k) → IsTrue (is_placed_in_large (kept_at s (spot_at k a)) (block_at a n))
  pub in_nano : IsTrue (is_nano k) → IsTrue (is_placed_in_nano (kept_at s (spot_at k a)) (block_at a n))

-- a live block ends
pub record MayEnd (p : Profile) (s : State) (c : ℕ) (k : Place) (a n : ℕ) : Type 0 where
  pub standing : IsStanding p s c k
  pub kind : is_pages k ≡ false
  pub calm : IsCalm s (spot_at k a)
  pub live : IsTrue (has_block (kept_at s (spot_at k a)).live (block_at a n))

-- A live block of a magazine or a depot gets another size, and is apart from the other live blocks still.
pub record MayResize (p : Profile) (s : State) (c : ℕ) (k : Place) (a n m : ℕ) : Type 0 where
  pub standing : IsStanding p s c k
  pub kind : IsTrue (is_magazine k || is_depot k)
  pub calm : IsCalm s (spot_at k a)
  pub live : IsTrue (has_block (kept_at s (spot_at k a)).live (block_at a n))
  pub size : IsTrue (is_size_of k m)
  pub lies : IsTrue (lies_in_place p k (kept_at s (spot_at k a)).runs (block_at a m))
  pub apart : IsTrue (list_all (λ b. (b.first == a) || blocks_apart b (block_at a m)) (kept_at s (spot_at k a)).live)

-- a place of regions has no room for a request, and large no cached run that fits n pages
pub record MayBeFull (p : Profile) (s : State) (c : ℕ) (k : Place) (n al : ℕ) : Type 0 where
  pub standing : IsStanding p s c k
  pub kind : IsTrue (is_magazine k || is_depot k || is_large k)
  pub calm : IsCalm s (spot_of k)
  pub some : 1 ≤ n
  pub some_alignment : 1 ≤ al
  pub no_room : is_large k ≡ false → any_has_room (kept_at s (spot_of k)).runs (wide (kept_at s (spot_of k))) n al ≡ false
  pub none_fits : is_large k ≡ true → any_fits (kept_at s (spot_of k)).cached n ≡ false

-- no free run has w pages at a multiple of al
pub record MayBeDry (p : Profile) (s : State) (c z w al : ℕ) : Type 0 where
  pub caller : c < p.callers
  pub zone : z < p.zones
  pub zone_open : IsTrue (is_open s z)
  pub calm : IsCalm s (spot_of Pages)
  pub large_calm : IsCalm s (spot_of (Large z))
  pub some : 1 ≤ w
  pub some_alignment : 1 ≤ al
  pub none_free : has_free (nano_start p) (kept_at s (spot_of Pages)).taken w al ≡ false

-- a live block of another zone's place was taken for one of the zone z
pub record MayDeny (p : Profile) (s : State) (c : ℕ) (k : Place) (z a n : ℕ) : Type 0 where
  pub standing : IsStanding p s c k
  pub kind : is_pages k ≡ false
  pub zone : z < p.zones
  pub zone_open : IsTrue (is_open s z)
  pub calm : IsCalm s (spot_at k a)
  pub live : IsTrue (has_block (kept_at s (spot_at k a)).live (block_at a n))
  pub of_another : zone_of k ≢ z

-- a zone opens where it is shut and none of its places has a run
pub record MayOpen (p : Profile) (s : State) (c z : ℕ) : Type 0 where
  pub caller : c < p.callers
  pub zone : z < p.zones
  pub calm : All (λ k. IsCalm s (spot_of k)) (places_of p z)
  pub shut : is_open s z ≡ false
  pub no_runs : All (λ k. (kept_at s (spot_of k)).runs ≡ []) (places_of p z)

-- a zone other than 0 shuts where it is open and none of its places has a live block
pub record MayShut (p : Profile) (s : State) (c z : ℕ) : Type 0 where
  pub caller : c < p.callers
  pub zone : z < p.zones
  pub calm : All (λ k. IsCalm s (spot_of k)) (places_of p z)
  pub not_first : z ≢ 0
  pub zone_open : IsTrue (is_open s z)
  pub no_blocks : All (λ k. (kept_at s (spot_of k)).live ≡ []) (places_of p z)

-- An event fits exactly where its record holds: for each event, which places it may name, and its record.
pub record FitsByEvent (p : Profile) (s : State) (c : ℕ) : Type 0 where
  pub take_kind : (k : Place) (f w : ℕ) → Fits p s c (Take k f w) → IsTrue (is_magazine k) ⊎ (k ≡ Large (zone_of k))
  pub take_region : (m : Place) (f w : ℕ) → IsTrue (is_magazine m) → Fits p s c (Take m f w) ↔ MayTakeRegion p s c m f w
  pub take_run : (z f w : ℕ) → Fits p s c (Take (Large z) f w) ↔ MayTakeRun p s c z f w
  pub give_back : (k : Place) (f w : ℕ) → Fits p s c (Back k f w) ↔ MayGiveBack p s c k f w
  pub move_kind : (f : ℕ) (from to : Place) → Fits p s c (Move f from to) → (IsTrue (is_magazine from) × (to ≡ depot_of from)) ⊎ (IsTrue (is_magazine to) × (from ≡ depot_of to))
  pub put_aside : (m : Place) (f : ℕ) → IsTrue (is_magazine m) → Fits p s c (Move f m (depot_of m)) ↔ MayPutAside p s c m f
  pub take_out : (m : Place) (f : ℕ) → IsTrue (is_magazine m) → Fits p s c (Move f (depot_of m) m) ↔ MayTakeOut p s c m f
  pub make : (k : Place) (a n al : ℕ) → Fits p s c (New k a n al) ↔ MayMake p s c k a n al
  pub ends : (k : Place) (a n : ℕ) → Fits p s c (End k a n) ↔ MayEnd p s c k a n
  pub resize : (k : Place) (a n m : ℕ) → Fits p s c (Size k a n m) ↔ MayResize p s c k a n m
  pub full : (k : Place) (n al : ℕ) → Fits p s c (Full k n al) ↔ MayBeFull p s c k n al
  pub dry : (z w al : ℕ) → Fits p s c (Dry z w al) ↔ MayBeDry p s c z w al
  pub deny : (k : Place) (z a n : ℕ) → Fits p s c (No k z a n) ↔ MayDeny p s c k z a n
  pub opens : (z : ℕ) → Fits p s c (Open z) ↔ MayOpen p s c z
  pub shuts : (z : ℕ) → Fits p s c (Shut z) ↔ MayShut p s c z
