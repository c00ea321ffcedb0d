-- What the calls of keepers that end a block, and give regions up, need: each is asked of a keeper that stands for some place. This
-- project's own.
use Rattle.std.specs.Prelude.{◌≡◌, ◌≤◌, Bool, ◌||◌, [], length, IsTrue}
use Rattle.mz_base.specs.declared.profile.Profile.{Profile}
use Rattle.mz_base.specs.Site.{Site}
use Rattle.mz_base.specs.Space.{Run, block_at, run_end}
use Rattle.mz_base.specs.Lists.{has_run, has_block}
use Rattle.mz_ground.specs.Views.{SpanView}
use Rattle.mz_events.specs.declared.place.Place.{Place}
use Rattle.mz_events.specs.declared.place.Place.TheVariants.{Pages}
use Rattle.mz_events.specs.Places.{is_magazine, is_depot, is_large, is_tiny, is_small, quantum_of, nano_start}
use Rattle.mz_events.specs.State.{Kept}
use Rattle.mz_events.specs.Changes.{one_for}
use Rattle.mz_events.specs.Separation.{InOrder}
use Rattle.mz_events.specs.Standing.{Keeping, Stands}
use Rattle.mz_rack.specs.declared.region.AnyRegion.{AnyRegion}
use Rattle.mz_rack.specs.Regions.{quantum_in, view_in, run_in}

-- a place other than nano in which blocks live
abbrev pub has_blocks : Place → Bool
has_blocks q = is_magazine q || is_depot q || is_large q

-- it stands for a place of the span's space where the span is a live block
pub record MayFree (v : Keeping) (x : SpanView) : Type 0 where
  pub space : Site
  pub profile : Profile
  pub place : Place
  pub kept : Kept
  pub stands : Stands v space profile place kept
  pub blocks : IsTrue (has_blocks place)
  pub of_space : x.space ≡ space
  pub live : IsTrue (has_block kept.live (block_at x.first (length x.bytes)))

-- the run is one of those that the free pages lack, and counts as a region of the depot's range
pub record IsLacked (p : Profile) (d : Place) (k : Kept) (r : Run) : Type 0 where
  pub is_one : IsTrue (is_depot d)
  pub taken : InOrder (λ t. t.first) run_end k.taken
  pub there : IsTrue (has_run k.taken r)
  pub below : run_end r ≤ nano_start p
  pub tiny : one_for (is_tiny d) ≤ k.tiny_regions
  pub small : one_for (is_small d) ≤ k.small_regions

-- it stands for the free pages of the region's space, which lack the region, and the region has no live block
pub record MayPutBack (v : Keeping) (r : AnyRegion) : Type 0 where
  pub space : Site
  pub profile : Profile
  pub depot : Place
  pub kept : Kept
  pub stands : Stands v space profile Pages kept
  pub quantum : quantum_in r ≡ quantum_of depot
  pub of_space : (view_in r).space ≡ space
  pub unused : (view_in r).live ≡ []
  pub lacked : IsLacked profile depot kept (run_in r)
