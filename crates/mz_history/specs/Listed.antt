-- The lists that a state shows.
use Rattle.std.specs.Prelude.{ℕ, List, map}
use Rattle.std.specs.List.Sorted.{IsPermutation, IsSortedByKey}
use Rattle.std.specs.Ordering.{nat_cmp}
use Rattle.mz_base.specs.declared.profile.Profile.{Profile}
use Rattle.mz_base.specs.Space.{Block, Run}
use Rattle.mz_events.specs.declared.place.Place.{Place}
use Rattle.mz_events.specs.declared.place.Place.TheVariants.{Large}
use Rattle.mz_holding.specs.declared.extent.Extent.{Extent}
use Rattle.mz_history.specs.declared.listing.RunAt.{RunAt}
use Rattle.mz_history.specs.declared.listing.LiveAt.{LiveAt}
use Rattle.mz_events.specs.Places.{Spot, place_of, spot_of}
use Rattle.mz_events.specs.State.{Value, State, kept_at, live_blocks, all_runs}

-- a run, and a live block, with its place
abbrev pub run_listed : Spot × Run → RunAt
run_listed x = record { k = place_of x.0; first = x.1.first; pages = x.1.pages }

abbrev pub block_listed : Spot × Block → LiveAt
block_listed x = record { k = place_of x.0; a = x.1.first; s = x.1.size }

-- the same of an extent of a place
abbrev pub run_at_place : Place → Extent → RunAt
run_at_place k e = record { k = k; first = e.first; pages = e.len }

abbrev pub block_at_place : Place → Extent → LiveAt
block_at_place k e = record { k = k; a = e.first; s = e.len }

-- the runs and the live blocks of a spot
abbrev pub runs_of_slot : Spot × Value → List (Spot × Run)
runs_of_slot pair = map (λ r. (pair.0, r)) pair.1.kept.runs

abbrev pub blocks_of_slot : Spot × Value → List (Spot × Block)
blocks_of_slot pair = map (λ b. (pair.0, b)) pair.1.kept.live

-- the list has just the runs of the state, by first page
pub record IsListOfRuns (p : Profile) (s : State) (list : List RunAt) : Type 0 where
  pub each : IsPermutation (map run_listed (all_runs p s)) list
  pub ascending : IsSortedByKey (λ r. r.first) nat_cmp list

-- the list has just the live blocks of the state, by address
pub record IsListOfBlocks (s : State) (list : List LiveAt) : Type 0 where
  pub each : IsPermutation (map block_listed (live_blocks s)) list
  pub ascending : IsSortedByKey (λ b. b.a) nat_cmp list

-- the first pages of the cached runs of large of a zone
abbrev pub cached_pages : State → ℕ → List ℕ
cached_pages s z = map (λ r. r.first) (kept_at s (spot_of (Large z))).cached
