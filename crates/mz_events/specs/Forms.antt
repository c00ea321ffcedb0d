-- What live blocks and cached runs look like, in a state that lawful entries leave. Quanta, the cache of freed large runs and
-- nano's sizes are after libmalloc; all else is this project's own.
use Rattle.std.specs.Prelude.{◌≡◌, ◌%◌, true, false, IsTrue}
use Rattle.mz_base.specs.declared.range.TheConstants.{PAGE}
use Rattle.mz_base.specs.Space.{Block, Run, blocks_apart, bytes_of}
use Rattle.mz_base.specs.Lists.{has_run, has_block}
use Rattle.mz_events.specs.Places.{is_large, is_nano, is_size_of, quantum_of, Spot, place_of}
use Rattle.mz_events.specs.State.{State, kept_at}
use Rattle.mz_events.specs.Changes.{run_of}

-- The size of a live block is one of its place's range. In a magazine or a depot it begins at a multiple of the quantum;
-- in large it is a whole run; in nano it is a whole slot of its page, and all blocks of that page have its size.
pub record HasForm (s : State) (j : Spot) (b : Block) : Type 0 where
  pub size : IsTrue (is_size_of (place_of j) b.size)
  pub quanta : is_large (place_of j) ≡ false → is_nano (place_of j) ≡ false → b.first % quantum_of (place_of j) ≡ 0
  pub run : is_large (place_of j) ≡ true → IsTrue (has_run (kept_at s j).runs (run_of b))
  pub whole : is_large (place_of j) ≡ true → bytes_of (run_of b) ≡ b
  pub slot : is_nano (place_of j) ≡ true → b.first % PAGE % b.size ≡ 0
  pub alike : is_nano (place_of j) ≡ true → (c : Block) → IsTrue (has_block (kept_at s j).live c) → c.size ≡ b.size

-- a cached run is one of a large place, and all live blocks there are apart from it
pub record IsCachedThere (s : State) (j : Spot) (r : Run) : Type 0 where
  pub large : IsTrue (is_large (place_of j))
  pub there : IsTrue (has_run (kept_at s j).runs r)
  pub idle : (b : Block) → IsTrue (has_block (kept_at s j).live b) → IsTrue (blocks_apart b (bytes_of r))
