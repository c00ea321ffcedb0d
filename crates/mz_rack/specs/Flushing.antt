-- What comes out of large when its cache is flushed or has one run too many, and goes back to the free pages. This project's own.
use Rattle.std.specs.Prelude.{◌≡◌, ◌≤◌, [], ◌∷◌, length, Option, Some, None, IsTrue}
use Rattle.std.specs.List.{list_all}
use Rattle.mz_base.specs.declared.profile.Profile.{Profile}
use Rattle.mz_base.specs.Site.{Site}
use Rattle.mz_base.specs.Space.{run_end, blocks_apart, bytes_of}
use Rattle.mz_base.specs.Lists.{has_run}
use Rattle.mz_ground.specs.Views.{SpanView}
use Rattle.mz_large.specs.Large.{block_of, run_of_span}
use Rattle.mz_events.specs.declared.place.Place.{Place}
use Rattle.mz_events.specs.declared.place.Place.TheVariants.{Pages}
use Rattle.mz_events.specs.Places.{is_large, nano_start}
use Rattle.mz_events.specs.State.{Kept}
use Rattle.mz_events.specs.Changes.{without_run}
use Rattle.mz_events.specs.Separation.{InOrder}
use Rattle.mz_events.specs.Standing.{Keeping, Stands}

-- the span is all of the run that was cached first, which holds no live block
pub record IsOldest (x : Site) (k : Kept) (s : SpanView) : Type 0 where
  pub space : s.space ≡ x
  pub whole : bytes_of (run_of_span s) ≡ block_of s
  pub first : k.cached ≡ run_of_span s ∷ (without_run (run_of_span s) k).cached
  pub there : IsTrue (has_run k.runs (run_of_span s))
  pub unused : IsTrue (list_all (λ b. blocks_apart b (bytes_of (run_of_span s))) k.live)

-- it is out; or nothing is cached
abbrev pub Flushed : Site → Kept → (Kept → Type 0) → Option SpanView → Type 0
Flushed x k is None = (k.cached ≡ []) × is k
Flushed x k is (Some s) = IsOldest x k s × is (without_run (run_of_span s) k)

-- A block of the place q has ended, and k is kept: large has 16 cached runs at most, and a run comes out of nowhere else; or
-- it has 17, and the oldest is out.
abbrev pub PushedOut : Site → Place → Kept → (Kept → Type 0) → Option SpanView → Type 0
PushedOut x q k is None = (IsTrue (is_large q) → length k.cached ≤ 16) × is k
PushedOut x q k is (Some s) = IsTrue (is_large q) × (length k.cached ≡ 17) × IsOldest x k s × is (without_run (run_of_span s) k)

-- the span is all of one of the runs that the free pages lack
pub record IsLackedRun (p : Profile) (k : Kept) (s : SpanView) : Type 0 where
  pub taken : InOrder (λ r. r.first) run_end k.taken
  pub whole : bytes_of (run_of_span s) ≡ block_of s
  pub there : IsTrue (has_run k.taken (run_of_span s))
  pub below : run_end (run_of_span s) ≤ nano_start p

-- the keeper stands for the free pages of the span's space, which lack it
pub record MayPutRunBack (v : Keeping) (s : SpanView) : Type 0 where
  pub space : Site
  pub profile : Profile
  pub kept : Kept
  pub stands : Stands v space profile Pages kept
  pub of_space : s.space ≡ space
  pub lacked : IsLackedRun profile kept s
