-- What the calls of keepers need: each is asked of a keeper that stands for some place. This project's own.
use Rattle.std.specs.Prelude.{◌≡◌, ℕ, ◌%◌, ◌≤◌, ◌==◌, ◌||◌, sum_by, IsTrue}
use Rattle.std.specs.List.{list_any, list_all}
use Rattle.std.specs.Int.{IsPowerOfTwo}
use Rattle.mz_base.specs.declared.profile.Profile.{Profile}
use Rattle.mz_base.specs.Site.{Site}
use Rattle.mz_base.specs.Space.{Run, run_end, runs_apart}
use Rattle.mz_base.specs.Lists.{has_run}
use Rattle.mz_events.specs.declared.place.Place.{Place}
use Rattle.mz_events.specs.Places.{is_magazine, is_depot, is_size_of, is_length_of, quantum_of, nano_start}
use Rattle.mz_events.specs.State.{Kept}
use Rattle.mz_events.specs.Changes.{with_region}
use Rattle.mz_events.specs.Separation.{InOrder}
use Rattle.mz_events.specs.Standing.{Keeping, Stands}
use Rattle.mz_rack.specs.declared.region.AnyRegion.{AnyRegion}
use Rattle.mz_rack.specs.Regions.{quantum_in, view_in, run_in}

-- What holds of the runs of a magazine or a depot in each state that lawful entries leave.
pub record IsTidy (p : Profile) (q : Place) (k : Kept) : Type 0 where
  pub runs : InOrder (λ r. r.first) run_end k.runs
  pub lengths : (r : Run) → IsTrue (has_run k.runs r) → IsTrue (is_length_of q r.pages)
  pub aligned : (r : Run) → IsTrue (has_run k.runs r) → r.first % r.pages ≡ 0
  pub sum : sum_by (λ r. r.pages) k.runs ≤ nano_start p

-- the keeper stands for a magazine or a depot, of whose range n is a size
pub record MayAsk (v : Keeping) (n al : ℕ) : Type 0 where
  pub space : Site
  pub profile : Profile
  pub place : Place
  pub kept : Kept
  pub stands : Stands v space profile place kept
  pub regions : IsTrue (is_magazine place || is_depot place)
  pub size : IsTrue (is_size_of place n)
  pub power : IsPowerOfTwo al
  pub range : al ≤ 16384

-- it stands for one in which a region begins at page f
pub record MayYield (v : Keeping) (f : ℕ) : Type 0 where
  pub space : Site
  pub profile : Profile
  pub place : Place
  pub kept : Kept
  pub stands : Stands v space profile place kept
  pub regions : IsTrue (is_magazine place || is_depot place)
  pub tidy : IsTidy profile place kept
  pub there : IsTrue (list_any (λ r. r.first == f) kept.runs)

-- it stands for one of the region's range, in whose space the region is, apart from those that are there; and there is room
pub record MayAdopt (v : Keeping) (r : AnyRegion) : Type 0 where
  pub space : Site
  pub profile : Profile
  pub place : Place
  pub kept : Kept
  pub stands : Stands v space profile place kept
  pub regions : IsTrue (is_magazine place || is_depot place)
  pub quantum : quantum_in r ≡ quantum_of place
  pub of_space : (view_in r).space ≡ space
  pub apart : IsTrue (list_all (λ t. runs_apart t (run_in r)) kept.runs)
  pub tidy : IsTidy profile place (with_region (run_in r) (view_in r).live kept)
