-- What the engine's runs with their blocks say of what a place keeps. This project's own.
use Rattle.std.specs.Prelude.{ℕ, ◌+◌, ◌≡◌, ◌<◌, ◌≤◌, ◌⊎◌, ◌||◌, ◌==◌, List, [], ◌∷◌, map, fold, sum_by, Option, Some, None, IsTrue}
use Rattle.std.specs.List.{All, Contains, flat_map, list_any, list_all}
use Rattle.std.specs.Option.{option_map, IfSome}
use Rattle.mz_base.specs.Space.{Block, Run, block_at, run_at, blocks_apart}
use Rattle.mz_base.specs.Room.{lies_in}
use Rattle.mz_base.specs.Lists.{add_block}
use Rattle.mz_holding.specs.declared.extent.Extent.{Extent}
use Rattle.mz_holding.specs.declared.held.Held.{Held}
use Rattle.mz_events.specs.State.{Kept}
use Rattle.mz_holding.specs.Gaps.{far}
use Rattle.mz_holding.specs.LiveBlocks.{live_of}

-- an extent as a block, and as a run
abbrev pub block_of : Extent → Block
block_of e = block_at e.first e.len

abbrev pub run_of_extent : Extent → Run
run_of_extent e = run_at e.first e.len

-- the run, and the blocks in it
abbrev pub run_of_held : Held → Run
run_of_held h = run_at h.first h.pages

abbrev pub live_of_held : Held → List Block
live_of_held h = live_of h.blocks

-- the live blocks of all these runs, one run after another
abbrev pub live_in_runs : List Held → List Block
live_in_runs hs = flat_map live_of_held hs

-- what a place keeps that has these runs, this last freed block and these cached runs
abbrev pub kept_in : List Held → Option Extent → List Extent → Kept
kept_in hs freed cached = record {
  runs = map run_of_held hs;
  live = live_in_runs hs;
  last_freed = option_map block_of freed;
  cached = map run_of_extent cached;
  taken = [];
  tiny_regions = 0;
  small_regions = 0;
}

-- the runs are ascending and apart
abbrev pub AreRunsInOrder : List Held → Type 0
AreRunsInOrder [] = Unit {0}
AreRunsInOrder (h ∷ hs) = All (λ g. h.first + h.pages ≤ g.first) hs × AreRunsInOrder hs

-- so they stand, with so many live bytes in all, and the last freed block has a byte
pub record IsHolding (hs : List Held) (used : ℕ) (freed : Option Extent) : Type 0 where
  pub in_order : AreRunsInOrder hs
  pub all : used ≡ sum_by (λ h. h.used) hs
  pub byte : IfSome freed (λ e. 1 ≤ e.len)
  pub fits : IfSome freed (λ e. e.first + e.len ≤ far)

-- one of these runs has the page, or none has
abbrev pub HasPage : List Held → ℕ → Option Held → Type 0
HasPage hs i None = All (λ h. (i < h.first) ⊎ (h.first + h.pages ≤ i)) hs
HasPage hs i (Some h) = Contains hs h × (h.first ≤ i) × (i < h.first + h.pages)

-- the n bytes from a are some, lie in one run, and meet no live block
pub record IsRoomAt (k : Kept) (a n : ℕ) : Type 0 where
  pub some : 1 ≤ n
  pub lies : IsTrue (list_any (λ r. lies_in r a (a + n)) k.runs)
  pub apart : IsTrue (list_all (λ c. blocks_apart c (block_at a n)) k.live)

-- the same, where a block that begins at a is left aside
pub record IsRoomBut (k : Kept) (a n : ℕ) : Type 0 where
  pub some : 1 ≤ n
  pub lies : IsTrue (list_any (λ r. lies_in r a (a + n)) k.runs)
  pub apart : IsTrue (list_all (λ c. (c.first == a) || blocks_apart c (block_at a n)) k.live)

-- the place with these blocks too, one after another
abbrev pub with_blocks : List Block → Kept → Kept
with_blocks live k = record k { live = fold (λ bs b. add_block b bs) k.live live }
