-- How much is live and how many runs there are, in a state that lawful entries leave. This project's own.
use Rattle.std.specs.Prelude.{ℕ, ◌*◌, ◌/◌, ◌%◌, ◌≡◌, ◌<◌, ◌≤◌, false, sum_by, IsTrue}
use Rattle.mz_base.specs.declared.range.TheConstants.{PAGE}
use Rattle.mz_base.specs.declared.profile.Profile.{Profile}
use Rattle.mz_base.specs.Space.{Block, Run, run_at, block_end}
use Rattle.mz_base.specs.Room.{is_free}
use Rattle.mz_base.specs.Lists.{has_run, has_block}
use Rattle.mz_events.specs.declared.place.Place.TheVariants.{Pages}
use Rattle.mz_events.specs.Places.{is_large, is_length_of, nano_start, Spot, spot_of, place_of}
use Rattle.mz_events.specs.State.{State, kept_at, live_size}

-- Live blocks end within the space, and the bytes that are live, and were so at most, are no more than its bytes.
pub record LiveBytesFit (p : Profile) (s : State) : Type 0 where
  pub ends : (j : Spot) (b : Block) → IsTrue (has_block (kept_at s j).live b) → block_end b ≤ p.pages * PAGE
  pub sum : live_size s.values ≤ s.greatest
  pub greatest : s.greatest ≤ p.pages * PAGE

-- Each run has a length of its place, and a region begins at a multiple of its length. The runs of a place, and those
-- that are taken, have no more pages than lie below nano's.
pub record RunsFit (p : Profile) (s : State) : Type 0 where
  pub lengths : (j : Spot) (r : Run) → IsTrue (has_run (kept_at s j).runs r) → IsTrue (is_length_of (place_of j) r.pages)
  pub aligned : (j : Spot) (r : Run) → IsTrue (has_run (kept_at s j).runs r) → is_large (place_of j) ≡ false → r.first % r.pages ≡ 0
  pub of_place : (j : Spot) → sum_by (λ r. r.pages) (kept_at s j).runs ≤ nano_start p
  pub taken : sum_by (λ r. r.pages) (kept_at s (spot_of Pages)).taken ≤ nano_start p

-- The regions of all places are no more than the whole stretches of their length below nano's pages, and they are fewer
-- where pages are free for one more.
pub record RegionsFit (p : Profile) (s : State) : Type 0 where
  pub tiny : (kept_at s (spot_of Pages)).tiny_regions ≤ nano_start p / 64
  pub small : (kept_at s (spot_of Pages)).small_regions ≤ nano_start p / 512
  pub one_more_tiny : (f : ℕ) → IsTrue (is_free (nano_start p) (kept_at s (spot_of Pages)).taken (run_at f 64)) → (kept_at s (spot_of Pages)).tiny_regions < nano_start p / 64
  pub one_more_small : (f : ℕ) → IsTrue (is_free (nano_start p) (kept_at s (spot_of Pages)).taken (run_at f 512)) → (kept_at s (spot_of Pages)).small_regions < nano_start p / 512
