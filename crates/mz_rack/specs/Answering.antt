-- What the calls of keepers answer, by what the keeper stands for: `is` says of what a place keeps that the keeper stands for it
-- afterwards. This project's own.
use Rattle.std.specs.Prelude.{◌≡◌, ℕ, ◌+◌, ◌%◌, false, [], length, Option, Some, None, IsTrue}
use Rattle.std.specs.List.{list_any, list_all}
use Rattle.mz_base.specs.declared.profile.Profile.{Profile}
use Rattle.mz_base.specs.Site.{Site}
use Rattle.mz_base.specs.Space.{block_at, blocks_apart}
use Rattle.mz_base.specs.Lists.{blocks_in}
use Rattle.mz_base.specs.Room.{lies_in, any_has_room, is_lowest_free}
use Rattle.mz_ground.specs.Views.{SpanView}
use Rattle.mz_events.specs.declared.place.Place.{Place}
use Rattle.mz_events.specs.Places.{quantum_of, nano_start}
use Rattle.mz_events.specs.State.{Kept}
use Rattle.mz_events.specs.Room.{wide}
use Rattle.mz_events.specs.Changes.{with_block, without_run, region_at}
use Rattle.mz_events.specs.Placement.{is_placed_in_magazine}
use Rattle.mz_events.specs.Rules.{is_lowest_with_room}
use Rattle.mz_rack.specs.declared.region.AnyRegion.{AnyRegion}
use Rattle.mz_rack.specs.Regions.{quantum_in, view_in, run_in}

-- no region has room, the last freed block counted as idle
abbrev pub HasNoRoom : Kept → ℕ → ℕ → Type 0
HasNoRoom k n al = any_has_room k.runs (wide k) n al ≡ false

-- the span is n bytes where a magazine that keeps k would put a new block at al
pub record IsPlaced (x : Site) (q : Place) (k : Kept) (n al : ℕ) (s : SpanView) : Type 0 where
  pub space : s.space ≡ x
  pub size : length s.bytes ≡ n
  pub aligned : s.first % al ≡ 0
  pub quantum : s.first % quantum_of q ≡ 0
  pub lies : IsTrue (list_any (λ r. lies_in r s.first (s.first + n)) k.runs)
  pub apart : IsTrue (list_all (λ b. blocks_apart b (block_at s.first n)) k.live)
  pub placed : IsTrue (is_placed_in_magazine k (block_at s.first n) al)

-- a magazine has a block more, or no room
abbrev pub Placed : Site → Place → Kept → ℕ → ℕ → (Kept → Type 0) → Option SpanView → Type 0
Placed x q k n al is None = HasNoRoom k n al × is k
Placed x q k n al is (Some s) = IsPlaced x q k n al s × is (with_block (block_at s.first n) k)

-- the first page of the lowest region with room, if there is one
abbrev pub FoundRoom : Kept → ℕ → ℕ → Option ℕ → Type 0
FoundRoom k n al None = HasNoRoom k n al
FoundRoom k n al (Some f) = IsTrue (is_lowest_with_room k f (n, al))

-- the region that begins at page f is out
pub record Yielded (x : Site) (q : Place) (k : Kept) (f : ℕ) (is : Kept → Type 0) (r : AnyRegion) : Type 0 where
  pub quantum : quantum_in r ≡ quantum_of q
  pub space : (view_in r).space ≡ x
  pub run : run_in r ≡ region_at k.runs f
  pub live : (view_in r).live ≡ blocks_in k.live (region_at k.runs f)
  pub left : is (without_run (region_at k.runs f) k)

-- a region was made of the lowest free run of w pages, for a magazine q
pub record IsCut (x : Site) (p : Profile) (q : Place) (k : Kept) (w : ℕ) (r : AnyRegion) : Type 0 where
  pub quantum : quantum_in r ≡ quantum_of q
  pub space : (view_in r).space ≡ x
  pub live : (view_in r).live ≡ []
  pub pages : (run_in r).pages ≡ w
  pub lowest : IsTrue (is_lowest_free (nano_start p) k.taken (run_in r) w)
