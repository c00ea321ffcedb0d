-- When a keeper stands for a place of a space. Magazines, depots and large are after libmalloc; that each place has a keeper,
-- and what it has room for, is this project's own.
use Rattle.std.specs.Prelude.{◌≡◌, ℕ, ◌+◌, ◌/◌, ◌≤◌, Bool, true, not, List, map, Option, Some, None, IsTrue, if◌then◌else◌}
use Rattle.std.specs.List.{list_any, range_with_len}
use Rattle.std.specs.Coded.{Coded-set, coded_ℕ, coded_bool, coded_list, ×_prop, Unit-prop, le_prop}
use Rattle.std.proofs.Common.{ap}
use Rattle.mz_base.specs.declared.profile.Profile.{Profile}
use Rattle.mz_base.specs.Site.{Site, site_code}
use Rattle.mz_base.specs.Space.{Run}
use Rattle.mz_events.specs.declared.place.Place.{Place}
use Rattle.mz_events.specs.Places.{is_magazine, is_depot, is_large, is_pages, quantum_of, is_length_of, nano_start}
use Rattle.mz_events.specs.State.{Kept, nothing_kept}
use Rattle.mz_events.specs.Separation.{has_page}
use Rattle.mz_events.specs.Codes.{kept_once}

-- A keeper of regions: whether it is a depot, the bytes of a quantum and the pages of a region, for how many regions it has
-- room, the space of its bytes where it has some, and its lists.
pub record RegionsKept : Type 0 where
  pub depot : Bool
  pub quantum : ℕ
  pub pages : ℕ
  pub room : ℕ
  pub space : Option Site
  pub kept : Kept

-- a keeper of large runs: for how many it has room, the space of its bytes where it has some, and its lists
pub record LargeKept : Type 0 where
  pub room : ℕ
  pub space : Option Site
  pub kept : Kept

-- a keeper of the free pages: its space, for each page below nano's whether it is free, and for how many regions of each
-- range it has blank metadata
pub record PagesKept : Type 0 where
  pub space : Site
  pub free : List Bool
  pub tiny_blanks : ℕ
  pub small_blanks : ℕ

-- what a keeper keeps; one of nothing has no bytes, no lists and no room
pub data Keeping : Type 0 where
  of_regions : RegionsKept → Keeping
  of_large : LargeKept → Keeping
  of_pages : PagesKept → Keeping
  of_nothing : Keeping

-- bytes of this space, where there are some, are bytes of x
abbrev pub IsOf : Option Site → Site → Type 0
IsOf None x = Unit {0}
IsOf (Some y) x = y ≡ x

-- how many stretches of w pages at multiples of w lie below nano's pages
abbrev pub stretches_below : Profile → ℕ → ℕ
stretches_below p w = nano_start p / w

-- for each page below nano's, whether it is in none of the runs that are taken
abbrev pub free_pages : Profile → List Run → List Bool
free_pages p taken = map (λ i. not (list_any (λ r. has_page r i) taken)) (range_with_len 0 (nano_start p))

-- It stands for a magazine or a depot of its quantum and length that keeps this, and has room for each region that fits.
pub record StandsForRegions (v : RegionsKept) (x : Site) (p : Profile) (q : Place) (k : Kept) : Type 0 where
  pub kind : IsTrue (if v.depot then is_depot q else is_magazine q)
  pub quantum : v.quantum ≡ quantum_of q
  pub length : IsTrue (is_length_of q v.pages)
  pub space : IsOf v.space x
  pub room : stretches_below p v.pages ≤ v.room
  pub keeps : v.kept ≡ k

-- It stands for large of a zone that keeps this, and has room for each run that fits: none has fewer than 3 pages.
pub record StandsForLarge (v : LargeKept) (x : Site) (p : Profile) (q : Place) (k : Kept) : Type 0 where
  pub kind : IsTrue (is_large q)
  pub space : IsOf v.space x
  pub room : stretches_below p 3 ≤ v.room
  pub keeps : v.kept ≡ k

-- It stands for the free pages where those are its own, and where for each range the blanks and the regions in all places are
-- together as many as there can be.
pub record StandsForPages (v : PagesKept) (x : Site) (p : Profile) (q : Place) (k : Kept) : Type 0 where
  pub kind : IsTrue (is_pages q)
  pub space : v.space ≡ x
  pub free : v.free ≡ free_pages p k.taken
  pub tiny : v.tiny_blanks + k.tiny_regions ≡ stretches_below p 64
  pub small : v.small_blanks + k.small_regions ≡ stretches_below p 512

-- one of nothing stands for large of a zone without runs
pub record StandsForNothing (q : Place) (k : Kept) : Type 0 where
  pub kind : IsTrue (is_large q)
  pub keeps : nothing_kept ≡ k

-- a keeper stands for the place q, which keeps k, of the space x with the profile p
abbrev pub Stands : Keeping → Site → Profile → Place → Kept → Type 0
Stands (of_regions v) x p q k = StandsForRegions v x p q k
Stands (of_large v) x p q k = StandsForLarge v x p q k
Stands (of_pages v) x p q k = StandsForPages v x p q k
Stands of_nothing x p q k = StandsForNothing q k

is_of_once : (y : Option Site) (x : Site) → IsProp (IsOf y x)
is_of_once None x = Unit-prop
is_of_once (Some y) x = Coded-set site_code y x

abbrev true_once : (b : Bool) → IsProp (IsTrue b)
true_once b = Coded-set coded_bool b true

abbrev RegionParts : RegionsKept → Site → Profile → Place → Kept → Type 0
RegionParts v x p q k =
    IsTrue (if v.depot then is_depot q else is_magazine q) × ((v.quantum ≡ quantum_of q) × (IsTrue (is_length_of q v.pages)
    × (IsOf v.space x × ((stretches_below p v.pages ≤ v.room) × (v.kept ≡ k)))))

region_parts_once : (v : RegionsKept) (x : Site) (p : Profile) (q : Place) (k : Kept) → IsProp (RegionParts v x p q k)
region_parts_once v x p q k =
    ×_prop (true_once _) (×_prop (Coded-set coded_ℕ v.quantum (quantum_of q)) (×_prop (true_once _)
    (×_prop (is_of_once v.space x) (×_prop le_prop (kept_once v.kept k)))))

abbrev of_region_parts : (v : RegionsKept) (x : Site) (p : Profile) (q : Place) (k : Kept) → RegionParts v x p q k → StandsForRegions v x p q k
of_region_parts v x p q k h = record { kind = h.0; quantum = h.1.0; length = h.1.1.0; space = h.1.1.1.0; room = h.1.1.1.1.0; keeps = h.1.1.1.1.1 }

regions_once : (v : RegionsKept) (x : Site) (p : Profile) (q : Place) (k : Kept) → IsProp (StandsForRegions v x p q k)
regions_once v x p q k =
    λ a b. ap (of_region_parts v x p q k)
    (region_parts_once v x p q k (a.kind, (a.quantum, (a.length, (a.space, (a.room, a.keeps))))) (b.kind, (b.quantum, (b.length, (b.space, (b.room, b.keeps))))))

abbrev LargeParts : LargeKept → Site → Profile → Place → Kept → Type 0
LargeParts v x p q k = IsTrue (is_large q) × (IsOf v.space x × ((stretches_below p 3 ≤ v.room) × (v.kept ≡ k)))

large_parts_once : (v : LargeKept) (x : Site) (p : Profile) (q : Place) (k : Kept) → IsProp (LargeParts v x p q k)
large_parts_once v x p q k = ×_prop (true_once _) (×_prop (is_of_once v.space x) (×_prop le_prop (kept_once v.kept k)))

abbrev of_large_parts : (v : LargeKept) (x : Site) (p : Profile) (q : Place) (k : Kept) → LargeParts v x p q k → StandsForLarge v x p q k
of_large_parts v x p q k h = record { kind = h.0; space = h.1.0; room = h.1.1.0; keeps = h.1.1.1 }

large_once : (v : LargeKept) (x : Site) (p : Profile) (q : Place) (k : Kept) → IsProp (StandsForLarge v x p q k)
large_once v x p q k = λ a b. ap (of_large_parts v x p q k) (large_parts_once v x p q k (a.kind, (a.space, (a.room, a.keeps))) (b.kind, (b.space, (b.room, b.keeps))))

abbrev PageParts : PagesKept → Site → Profile → Place → Kept → Type 0
PageParts v x p q k =
    IsTrue (is_pages q) × ((v.space ≡ x) × ((v.free ≡ free_pages p k.taken)
    × ((v.tiny_blanks + k.tiny_regions ≡ stretches_below p 64) × (v.small_blanks + k.small_regions ≡ stretches_below p 512))))

page_parts_once : (v : PagesKept) (x : Site) (p : Profile) (q : Place) (k : Kept) → IsProp (PageParts v x p q k)
page_parts_once v x p q k =
    ×_prop (true_once _) (×_prop (Coded-set site_code v.space x) (×_prop (Coded-set (coded_list coded_bool) v.free (free_pages p k.taken))
    (×_prop (Coded-set coded_ℕ (v.tiny_blanks + k.tiny_regions) (stretches_below p 64)) (Coded-set coded_ℕ (v.small_blanks + k.small_regions) (stretches_below p 512)))))

abbrev of_page_parts : (v : PagesKept) (x : Site) (p : Profile) (q : Place) (k : Kept) → PageParts v x p q k → StandsForPages v x p q k
of_page_parts v x p q k h = record { kind = h.0; space = h.1.0; free = h.1.1.0; tiny = h.1.1.1.0; small = h.1.1.1.1 }

pages_once : (v : PagesKept) (x : Site) (p : Profile) (q : Place) (k : Kept) → IsProp (StandsForPages v x p q k)
pages_once v x p q k =
    λ a b. ap (of_page_parts v x p q k)
    (page_parts_once v x p q k (a.kind, (a.space, (a.free, (a.tiny, a.small)))) (b.kind, (b.space, (b.free, (b.tiny, b.small)))))

abbrev of_nothing_parts : (q : Place) (k : Kept) → IsTrue (is_large q) × (nothing_kept ≡ k) → StandsForNothing q k
of_nothing_parts q k h = record { kind = h.0; keeps = h.1 }

nothing_once : (q : Place) (k : Kept) → IsProp (StandsForNothing q k)
nothing_once q k = λ a b. ap (of_nothing_parts q k) (×_prop (true_once _) (kept_once nothing_kept k) (a.kind, a.keeps) (b.kind, b.keeps))

-- a keeper stands for a place in one way at most
pub stands_once : (v : Keeping) (x : Site) (p : Profile) (q : Place) (k : Kept) → IsProp (Stands v x p q k)
stands_once (of_regions v) x p q k = regions_once v x p q k
stands_once (of_large v) x p q k = large_once v x p q k
stands_once (of_pages v) x p q k = pages_once v x p q k
stands_once of_nothing x p q k = nothing_once q k
