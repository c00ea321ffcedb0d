-- What holds of each state that entries leave from the opening state, each lawful on the state that those before it
-- leave, whether duties stand there or not: each page is in just one place, and live blocks are apart. This project's own.
use Rattle.std.specs.Prelude.{ℕ, ◌≡◌, ◌<◌, ◌≤◌, ◌⊎◌, ◌↔◌, Bool, nat_lt, nat_le, ◌&&◌, not, List, [], ◌∷◌, filter, length, IsTrue}
use Rattle.std.specs.List.{All, list_any}
use Rattle.mz_base.specs.declared.profile.Profile.{Profile}
use Rattle.mz_base.specs.Space.{Block, Run, run_at, block_end, run_end, blocks_apart, runs_apart}
use Rattle.mz_base.specs.Room.{lies_in}
use Rattle.mz_base.specs.Lists.{has_run, has_block, insert_by}
use Rattle.mz_events.specs.declared.place.Place.{Place}
use Rattle.mz_events.specs.declared.place.Place.TheVariants.{Pages, Tiny, TinyDepot, Small, SmallDepot, Large, Nano}
use Rattle.mz_events.specs.Places.{is_magazine, is_tiny, is_small, nano_start, Spot, keeper_at, nano_page, place_of, spot_of}
use Rattle.mz_events.specs.State.{State, kept_at, kept_of, live_blocks, placed_runs}

-- the page is one of the run
abbrev pub has_page : Run → ℕ → Bool
has_page r i = nat_le r.first i && nat_lt i (run_end r)

-- Whether a page is in a place. It is free where it is below nano's pages and in no run that is taken.
abbrev pub is_in : Profile → State → Place → ℕ → Bool
is_in p s Pages i = nat_lt i (nano_start p) && not (list_any (λ r. has_page r i) (kept_at s (spot_of Pages)).taken)
is_in p s (Tiny z m) i = list_any (λ r. has_page r i) (kept_at s (spot_of (Tiny z m))).runs
is_in p s (TinyDepot z) i = list_any (λ r. has_page r i) (kept_at s (spot_of (TinyDepot z))).runs
is_in p s (Small z m) i = list_any (λ r. has_page r i) (kept_at s (spot_of (Small z m))).runs
is_in p s (SmallDepot z) i = list_any (λ r. has_page r i) (kept_at s (spot_of (SmallDepot z))).runs
is_in p s (Large z) i = list_any (λ r. has_page r i) (kept_at s (spot_of (Large z))).runs
is_in p s Nano i = nat_le (nano_start p) i && nat_lt i p.pages

-- the page is in some place, and in no other
pub record IsInOnePlace (p : Profile) (s : State) (i : ℕ) : Type 0 where
  pub place : Place
  pub there : IsTrue (is_in p s place i)
  pub nowhere_else : (k : Place) → IsTrue (is_in p s k i) → k ≡ place

-- A live block of a spot lies in one of the runs there; in nano it lies in the page of its spot, which is one of nano's.
abbrev pub LiesAtHome : Profile → State → Spot → Block → Type 0
LiesAtHome p s (keeper_at k) b = (r : Run) × IsTrue (has_run (kept_at s (keeper_at k)).runs r) × IsTrue (lies_in r b.first (block_end b))
LiesAtHome p s (nano_page i) b = (nano_start p ≤ i) × (i < p.pages) × IsTrue (lies_in (run_at i 1) b.first (block_end b))

-- Each page of the space is in just one place: the runs of all places are apart and lie below nano's pages, and the runs
-- that are taken from the free pages are just these. Live blocks lie in runs of their places, and all of them are apart.
pub record IsSeparate (p : Profile) (s : State) : Type 0 where
  pub one_place : (i : ℕ) → i < p.pages → IsInOnePlace p s i
  pub runs_are_apart : (j k : Spot) (r t : Run) → IsTrue (has_run (kept_at s j).runs r) → IsTrue (has_run (kept_at s k).runs t) → ((j ≡ k) × (r ≡ t)) ⊎ IsTrue (runs_apart r t)
  pub below_nano : (j : Spot) (r : Run) → IsTrue (has_run (kept_at s j).runs r) → run_end r ≤ nano_start p
  pub taken : (r : Run) → IsTrue (has_run (kept_at s (spot_of Pages)).taken r) ↔ ((j : Spot) × IsTrue (has_run (kept_at s j).runs r))
  pub tiny_regions : (kept_at s (spot_of Pages)).tiny_regions ≡ length (filter (λ pair. is_tiny (place_of pair.0)) (placed_runs s))
  pub small_regions : (kept_at s (spot_of Pages)).small_regions ≡ length (filter (λ pair. is_small (place_of pair.0)) (placed_runs s))
  pub at_home : (j : Spot) (b : Block) → IsTrue (has_block (kept_at s j).live b) → LiesAtHome p s j b
  pub blocks_are_apart : (j k : Spot) (b c : Block) → IsTrue (has_block (kept_at s j).live b) → IsTrue (has_block (kept_at s k).live c) → ((j ≡ k) × (b ≡ c)) ⊎ IsTrue (blocks_apart b c)

-- In ascending order and apart: each has something from its first number to its end, and none begins before one
-- that stands before it ends.
abbrev pub InOrder : {A : Type 0} → (A → ℕ) → (A → ℕ) → List A → Type 0
InOrder first end [] = Unit {0}
InOrder first end (x ∷ xs) = (first x < end x) × All (λ y. end x ≤ first y) xs × InOrder first end xs

-- live blocks, each with its spot, by address
unfoldable pub by_address : List (Spot × Block) → List (Spot × Block)
by_address [] = []
by_address (x ∷ xs) = insert_by (λ y. y.1.first) x (by_address xs)

-- The lists of a state are ascending: the runs and the live blocks of each spot, the live blocks of each place, the runs
-- that are taken from the free pages, and all live blocks together. Each run has a page, and each live block a byte.
pub record IsAscending (p : Profile) (s : State) : Type 0 where
  pub runs : (j : Spot) → InOrder (λ r. r.first) run_end (kept_at s j).runs
  pub taken : InOrder (λ r. r.first) run_end (kept_at s (spot_of Pages)).taken
  pub live : (j : Spot) → InOrder (λ b. b.first) block_end (kept_at s j).live
  pub of_place : (k : Place) → InOrder (λ b. b.first) block_end (kept_of p s k).live
  pub all : InOrder (λ x. x.1.first) (λ x. block_end x.1) (by_address (live_blocks s))
  pub sizes : (j : Spot) (b : Block) → IsTrue (has_block (kept_at s j).live b) → 1 ≤ b.size

-- the block lies in a run of its magazine, has a byte at least, and is apart from all live blocks there
pub record IsFreedThere (s : State) (j : Spot) (f : Block) : Type 0 where
  pub magazine : IsTrue (is_magazine (place_of j))
  pub byte : 1 ≤ f.size
  pub run : Run
  pub there : IsTrue (has_run (kept_at s j).runs run)
  pub within : IsTrue (lies_in run f.first (block_end f))
  pub idle : (b : Block) → IsTrue (has_block (kept_at s j).live b) → IsTrue (blocks_apart f b)
