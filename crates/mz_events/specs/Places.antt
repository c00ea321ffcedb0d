-- The places of a space, and the spots at which a state keeps its values. Magazines, depots, large and nano are after
-- libmalloc; the numbers of zones, the free pages as a place, and spots are this project's own.
use Rattle.std.specs.Prelude.{ℕ, ◌-◌, ◌==◌, Bool, true, false, nat_lt, ◌&&◌, ◌||◌, List, [], ◌∷◌, ◌++◌, map}
use Rattle.std.specs.List.{range_with_len}
use Rattle.mz_base.specs.declared.profile.Profile.{Profile}
use Rattle.mz_base.specs.declared.range.Range.TheVariants as range
use Rattle.mz_base.specs.Space.{page_of}
use Rattle.mz_base.specs.Sizes.{unit_of, is_size, is_run_length}
use Rattle.mz_events.specs.declared.place.Place.{Place}
use Rattle.mz_events.specs.declared.place.Place.TheVariants.{Pages, Tiny, TinyDepot, Small, SmallDepot, Large, Nano}

-- a magazine of tiny or small regions, from which blocks are served
abbrev pub is_magazine : Place → Bool
is_magazine (Tiny z m) = true
is_magazine (Small z m) = true
is_magazine _ = false

-- a depot, which has the regions that a zone put aside
abbrev pub is_depot : Place → Bool
is_depot (TinyDepot z) = true
is_depot (SmallDepot z) = true
is_depot _ = false

-- large of a zone, each of whose runs is one block or is cached
abbrev pub is_large : Place → Bool
is_large (Large z) = true
is_large _ = false

-- the free pages
abbrev pub is_pages : Place → Bool
is_pages Pages = true
is_pages _ = false

-- nano, which serves zone 0 from pages of its own
abbrev pub is_nano : Place → Bool
is_nano Nano = true
is_nano _ = false

-- a place whose runs are tiny regions
abbrev pub is_tiny : Place → Bool
is_tiny (Tiny z m) = true
is_tiny (TinyDepot z) = true
is_tiny _ = false

-- a place whose runs are small regions
abbrev pub is_small : Place → Bool
is_small (Small z m) = true
is_small (SmallDepot z) = true
is_small _ = false

-- the zone of a place; nano is of zone 0
abbrev pub zone_of : Place → ℕ
zone_of Pages = 0
zone_of (Tiny z m) = z
zone_of (TinyDepot z) = z
zone_of (Small z m) = z
zone_of (SmallDepot z) = z
zone_of (Large z) = z
zone_of Nano = 0

-- the depot of a magazine
abbrev pub depot_of : Place → Place
depot_of (Tiny z m) = TinyDepot z
depot_of (Small z m) = SmallDepot z
depot_of k = k

-- the bytes of a quantum of a place
abbrev pub quantum_of : Place → ℕ
quantum_of Pages = unit_of range.Large
quantum_of (Tiny z m) = unit_of range.Tiny
quantum_of (TinyDepot z) = unit_of range.Tiny
quantum_of (Small z m) = unit_of range.Small
quantum_of (SmallDepot z) = unit_of range.Small
quantum_of (Large z) = unit_of range.Large
quantum_of Nano = unit_of range.Nano

-- s is a size of the place's range
abbrev pub is_size_of : Place → ℕ → Bool
is_size_of Pages s = false
is_size_of (Tiny z m) s = is_size range.Tiny s
is_size_of (TinyDepot z) s = is_size range.Tiny s
is_size_of (Small z m) s = is_size range.Small s
is_size_of (SmallDepot z) s = is_size range.Small s
is_size_of (Large z) s = is_size range.Large s
is_size_of Nano s = is_size range.Nano s

-- w is the length of a run of the place: of a region, or of a large run
abbrev pub is_length_of : Place → ℕ → Bool
is_length_of Pages w = false
is_length_of (Tiny z m) w = is_run_length range.Tiny w
is_length_of (TinyDepot z) w = is_run_length range.Tiny w
is_length_of (Small z m) w = is_run_length range.Small w
is_length_of (SmallDepot z) w = is_run_length range.Small w
is_length_of (Large z) w = is_run_length range.Large w
is_length_of Nano w = false

-- nano's pages are the last of the space: this is the first of them
abbrev pub nano_start : Profile → ℕ
nano_start p = p.pages - p.nano

-- the place is one of a space with this profile
abbrev pub exists_in : Profile → Place → Bool
exists_in p Pages = true
exists_in p (Tiny z m) = nat_lt z p.zones && nat_lt m p.magazines
exists_in p (TinyDepot z) = nat_lt z p.zones
exists_in p (Small z m) = nat_lt z p.zones && nat_lt m p.magazines
exists_in p (SmallDepot z) = nat_lt z p.zones
exists_in p (Large z) = nat_lt z p.zones
exists_in p Nano = nat_lt 0 p.nano

-- the places of a zone
abbrev pub places_of : Profile → ℕ → List Place
places_of p z = map (λ m. Tiny z m) (range_with_len 0 p.magazines) ++ TinyDepot z ∷ map (λ m. Small z m) (range_with_len 0 p.magazines) ++ SmallDepot z ∷ Large z ∷ []

-- two places are one
abbrev pub same_place : Place → Place → Bool
same_place Pages Pages = true
same_place (Tiny z m) (Tiny y n) = (z == y) && (m == n)
same_place (TinyDepot z) (TinyDepot y) = z == y
same_place (Small z m) (Small y n) = (z == y) && (m == n)
same_place (SmallDepot z) (SmallDepot y) = z == y
same_place (Large z) (Large y) = z == y
same_place Nano Nano = true
same_place _ _ = false

-- A spot is where a state keeps a value of its own: a place that has a keeper (any but nano), or one page of nano.
pub data Spot : Type 0 where
  keeper_at : Place → Spot
  nano_page : ℕ → Spot

-- two spots are one
abbrev pub same_spot : Spot → Spot → Bool
same_spot (keeper_at j) (keeper_at k) = same_place j k
same_spot (nano_page i) (nano_page j) = i == j
same_spot _ _ = false

-- the spot of a place; of nano, that of the page in which the address lies
abbrev pub spot_at : Place → ℕ → Spot
spot_at Pages a = keeper_at Pages
spot_at (Tiny z m) a = keeper_at (Tiny z m)
spot_at (TinyDepot z) a = keeper_at (TinyDepot z)
spot_at (Small z m) a = keeper_at (Small z m)
spot_at (SmallDepot z) a = keeper_at (SmallDepot z)
spot_at (Large z) a = keeper_at (Large z)
spot_at Nano a = nano_page (page_of a)

-- the spot of a place that isn't nano
abbrev pub spot_of : Place → Spot
spot_of k = spot_at k 0

-- the place of a spot
abbrev pub place_of : Spot → Place
place_of (keeper_at k) = k
place_of (nano_page i) = Nano

-- j and k are a magazine and its depot, in either order
abbrev pub are_pair : Place → Place → Bool
are_pair j k = (is_magazine j && same_place (depot_of j) k) || (is_magazine k && same_place (depot_of k) j)
