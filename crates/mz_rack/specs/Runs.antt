-- What the calls of keepers on runs of pages need and answer: a run comes out of the free pages, and is a region or a run of large
-- then. This project's own.
use Rattle.std.specs.Prelude.{◌≡◌, ℕ, ◌+◌, ◌%◌, ◌<◌, ◌≤◌, false, [], length, Option, Some, None, IsTrue}
use Rattle.std.specs.List.{list_all}
use Rattle.mz_base.specs.declared.profile.Profile.{Profile}
use Rattle.mz_base.specs.Site.{Site}
use Rattle.mz_base.specs.Space.{Run, run_end, runs_apart, bytes_of, blocks_apart}
use Rattle.mz_base.specs.Lists.{add_run, has_run}
use Rattle.mz_base.specs.Room.{has_free, is_lowest_free}
use Rattle.mz_ground.specs.Views.{SpanView}
use Rattle.mz_large.specs.Blocks.{IsPaged}
use Rattle.mz_large.specs.Large.{block_of, run_of_span}
use Rattle.mz_events.specs.declared.place.Place.{Place}
use Rattle.mz_events.specs.declared.place.Place.TheVariants.{Pages, Large}
use Rattle.mz_events.specs.Places.{is_magazine, is_length_of, is_tiny, is_small, quantum_of, nano_start}
use Rattle.mz_events.specs.State.{Kept}
use Rattle.mz_events.specs.Room.{any_fits, best_fit}
use Rattle.mz_events.specs.Changes.{one_for, with_block}
use Rattle.mz_events.specs.Separation.{InOrder}
use Rattle.mz_events.specs.Standing.{Keeping, Stands, stretches_below}
use Rattle.mz_rack.specs.declared.region.AnyRegion.{AnyRegion}
use Rattle.mz_rack.specs.Regions.{quantum_in, view_in, run_in}

-- FREE PAGES
-- without a run that is out, and that is no place's yet
abbrev pub out_of_pages : Run → Kept → Kept
out_of_pages r k = record k { taken = add_run r k.taken }

-- the keeper stands for the free pages, of which a run is sought
pub record MaySeekRun (v : Keeping) (w al : ℕ) : Type 0 where
  pub space : Site
  pub profile : Profile
  pub kept : Kept
  pub stands : Stands v space profile Pages kept
  pub taken : InOrder (λ r. r.first) run_end kept.taken
  pub some : 1 ≤ w
  pub some_alignment : 1 ≤ al

-- the span is all of the lowest free run of w pages at a multiple of al
pub record IsFoundRun (x : Site) (p : Profile) (k : Kept) (w al : ℕ) (s : SpanView) : Type 0 where
  pub space : s.space ≡ x
  pub whole : bytes_of (run_of_span s) ≡ block_of s
  pub pages : (run_of_span s).pages ≡ w
  pub lowest : IsTrue (is_lowest_free (nano_start p) k.taken (run_of_span s) al)

-- it is out; or none is free
abbrev pub FoundRun : Site → Profile → Kept → ℕ → ℕ → (Kept → Type 0) → Option SpanView → Type 0
FoundRun x p k w al is None = (has_free (nano_start p) k.taken w al ≡ false) × is k
FoundRun x p k w al is (Some s) = IsFoundRun x p k w al s × is (out_of_pages (run_of_span s) k)

-- the free pages with the metadata of a region for the place q in use
abbrev pub with_region_for : Place → Kept → Kept
with_region_for q k = record k { tiny_regions = k.tiny_regions + one_for (is_tiny q); small_regions = k.small_regions + one_for (is_small q) }

-- the keeper stands for the free pages, and the run is out, which is as long as a region; not all regions of the range are made
pub record MayFit (v : Keeping) (s : SpanView) : Type 0 where
  pub space : Site
  pub profile : Profile
  pub magazine : Place
  pub kept : Kept
  pub stands : Stands v space profile Pages kept
  pub is_one : IsTrue (is_magazine magazine)
  pub length : IsTrue (is_length_of magazine (run_of_span s).pages)
  pub whole : bytes_of (run_of_span s) ≡ block_of s
  pub aligned : (run_of_span s).first % (run_of_span s).pages ≡ 0
  pub one_more_tiny : (run_of_span s).pages ≡ 64 → kept.tiny_regions < stretches_below profile 64
  pub one_more_small : (run_of_span s).pages ≡ 512 → kept.small_regions < stretches_below profile 512

-- the region is the span's, for a magazine q, and has no block
pub record IsFitted (q : Place) (s : SpanView) (r : AnyRegion) : Type 0 where
  pub quantum : quantum_in r ≡ quantum_of q
  pub space : (view_in r).space ≡ s.space
  pub live : (view_in r).live ≡ []
  pub run : run_in r ≡ run_of_span s

-- LARGE
-- the span is all of a cached run, the best fit for w pages
pub record IsReused (x : Site) (k : Kept) (w : ℕ) (s : SpanView) : Type 0 where
  pub space : s.space ≡ x
  pub whole : bytes_of (run_of_span s) ≡ block_of s
  pub best : best_fit k.cached w ≡ Some (run_of_span s)
  pub there : IsTrue (has_run k.runs (run_of_span s))
  pub unused : IsTrue (list_all (λ b. blocks_apart b (block_of s)) k.live)

-- it is a live block; or no cached run fits
abbrev pub Reused : Site → Kept → ℕ → (Kept → Type 0) → Option SpanView → Type 0
Reused x k w is None = (any_fits k.cached w ≡ false) × is k
Reused x k w is (Some s) = IsReused x k w s × is (with_block (block_of s) k)

-- The keeper stands for large of a zone, whose runs are fewer than fit below nano's pages, and the span is whole pages apart from
-- them.
pub record MayEnter (v : Keeping) (s : SpanView) : Type 0 where
  pub space : Site
  pub profile : Profile
  pub zone : ℕ
  pub kept : Kept
  pub stands : Stands v space profile (Large zone) kept
  pub room : length kept.runs < stretches_below profile 3
  pub paged : IsPaged (block_of s)
  pub apart : IsTrue (list_all (λ r. runs_apart r (run_of_span s)) kept.runs)
