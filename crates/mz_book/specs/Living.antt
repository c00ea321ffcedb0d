-- What is live after an event, by what was live before. This project's own.
use Rattle.std.specs.Prelude.{◌≡◌, ℕ, ◌+◌, Bool, ◌&&◌, ◌||◌, not, List, [], ◌∷◌, filter, length, map}
use Rattle.mz_base.specs.Space.{Block, block_at, same_block}
use Rattle.mz_base.specs.Lists.{size_sum}
use Rattle.mz_events.specs.declared.event.Event.{Event}
use Rattle.mz_events.specs.declared.event.Event.TheVariants.{Take, Back, Move, New, End, Size, Full, Dry, No, Open, Shut}
use Rattle.mz_events.specs.State.{State, live_blocks, live_size}

-- whether the block is live after the event, where this says whether it was before
abbrev pub lives_after : Event → Block → Bool → Bool
lives_after (New k a n al) b live = same_block b (block_at a n) || live
lives_after (End k a n) b live = not (same_block b (block_at a n)) && live
lives_after (Size k a n m) b live = same_block b (block_at a m) || (not (same_block b (block_at a n)) && live)
lives_after (Take k f w) b live = live
lives_after (Back k f w) b live = live
lives_after (Move f from to) b live = live
lives_after (Full k n al) b live = live
lives_after (Dry z w al) b live = live
lives_after (No k z a n) b live = live
lives_after (Open z) b live = live
lives_after (Shut z) b live = live

-- how often the block is one of these
abbrev pub times : Block → List Block → ℕ
times b bs = length (filter (same_block b) bs)

-- the live blocks of a state, wherever they are
abbrev pub blocks_of : State → List Block
blocks_of s = map (λ x. x.1) (live_blocks s)

-- the block that an event makes, if it makes one: a block that changes its size ends, and is made anew with the other size
abbrev pub made_by : Event → List Block
made_by (New k a n al) = block_at a n ∷ []
made_by (Size k a n m) = block_at a m ∷ []
made_by _ = []

-- the block that an event ends, if it ends one
abbrev pub ended_by : Event → List Block
ended_by (End k a n) = block_at a n ∷ []
ended_by (Size k a n m) = block_at a n ∷ []
ended_by _ = []

-- the number and the bytes of the live blocks of t are those of s, but for the block that the event makes and the one that it ends
pub record SumsAfter (e : Event) (s t : State) : Type 0 where
  pub number : length (live_blocks t) + length (ended_by e) ≡ length (live_blocks s) + length (made_by e)
  pub bytes : live_size t.values + size_sum (ended_by e) ≡ live_size s.values + size_sum (made_by e)
