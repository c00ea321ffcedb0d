-- Where a block may lie, and where a new one is placed: rules 10 and 11. Quanta, the last freed block, the cache of
-- freed large runs and nano's sizes are after libmalloc; all else is this project's own.
use Rattle.std.specs.Prelude.{ℕ, ◌+◌, ◌-◌, ◌*◌, ◌++◌, ◌%◌, ◌==◌, Bool, true, false, nat_le, ◌&&◌, ◌||◌, not, List, Option, Some, None, if◌then◌else◌}
use Rattle.std.specs.List.{list_any, list_all}
use Rattle.mz_base.specs.declared.range.TheConstants.{PAGE}
use Rattle.mz_base.specs.declared.profile.Profile.{Profile}
use Rattle.mz_base.specs.Space.{Block, Run, block_at, block_end, blocks_apart, bytes_of, same_block, same_run}
use Rattle.mz_events.specs.declared.place.Place.{Place}
use Rattle.mz_events.specs.declared.event.Event.{Event}
use Rattle.mz_events.specs.declared.event.Event.TheVariants.{New, Size}
use Rattle.mz_events.specs.Places.{is_magazine, is_large, is_nano, quantum_of, is_size_of, nano_start, spot_at, spot_of}
use Rattle.mz_events.specs.State.{Kept, State, kept_at}
use Rattle.mz_base.specs.Lists.{has_run, has_block}
use Rattle.mz_base.specs.Room.{lies_in, is_at_front}
use Rattle.mz_events.specs.Room.{wide, narrow, any_fits, best_fit}
use Rattle.mz_events.specs.Changes.{run_of}

-- the block's bytes are nano's
abbrev pub lies_in_nano : Profile → Block → Bool
lies_in_nano p b = nat_le (nano_start p * PAGE) b.first && nat_le (block_end b) (p.pages * PAGE)

-- the block lies in one run of its place, as whole quanta of it
abbrev pub lies_in_place : Profile → Place → List Run → Block → Bool
lies_in_place p k runs b =
    if is_nano k then lies_in_nano p b
    else list_any (λ r. lies_in r b.first (block_end b)) runs && (is_large k || ((b.first % quantum_of k == 0) && (b.size % quantum_of k == 0)))

-- the live blocks that a block can overlap: those of its place, and in nano those of its first and last page
abbrev pub live_near : State → Place → Block → List Block
live_near s k b = if is_nano k then (kept_at s (spot_at k b.first)).live ++ (kept_at s (spot_at k (block_end b - 1))).live else (kept_at s (spot_of k)).live

-- Rule 10: the extent of a new or resized block is a size of the range, and lies in one run of its place, in a
-- magazine or a depot as whole quanta. A new block's address is a multiple of its alignment, and it is apart from
-- every live block; a resized extent is apart from every live block that doesn't begin at its address.
abbrev pub fits_apart_there : Profile → State → Event → Bool
fits_apart_there p s (New k a n al) =
    let b = block_at a n in
    is_size_of k n && nat_le 1 al && (a % al == 0) && lies_in_place p k (kept_at s (spot_at k a)).runs b
    && list_all (λ c. blocks_apart c b) (live_near s k b)
fits_apart_there p s (Size k a n m) =
    let b = block_at a m in
    is_size_of k m && lies_in_place p k (kept_at s (spot_at k a)).runs b
    && list_all (λ c. (c.first == a) || blocks_apart c b) (kept_at s (spot_at k a)).live
fits_apart_there p s _ = true

-- the last freed block serves a request for its size, where its address is aligned
abbrev pub serves : Block → ℕ → ℕ → Bool
serves f n al = (f.size == n) && (f.first % al == 0)

-- a magazine places a block on the last freed one where that serves, and else at the front of an idle run,
-- in the wide or the narrow reading
abbrev pub is_placed_in_magazine : Kept → Block → ℕ → Bool
is_placed_in_magazine k b al =
    let at_front = is_at_front k.runs (wide k) b al || is_at_front k.runs (narrow k) b al in
    elim k.last_freed [ None ↦ at_front | Some f ↦ if serves f b.size al then same_block f b else at_front ]

-- there is a run, and it is this one
abbrev pub is_some_run : Option Run → Run → Bool
is_some_run None r = false
is_some_run (Some t) r = same_run t r

-- Large places a block on a whole run: on the cached run that fits best, or on one that is neither cached nor live
-- where no cached run fits. (A run that is the best fit for some number of pages is so for its own.)
abbrev pub is_placed_in_large : Kept → Block → Bool
is_placed_in_large k b =
    let r = run_of b in
    same_block b (bytes_of r) && (is_some_run (best_fit k.cached r.pages) r
    || (has_run k.runs r && not (has_run k.cached r) && not (has_block k.live b) && not (any_fits k.cached r.pages)))

-- nano places a block on a whole slot of its size, in a page of that size
abbrev pub is_placed_in_nano : Kept → Block → Bool
is_placed_in_nano k b = (b.first % PAGE % b.size == 0) && nat_le (b.first % PAGE + b.size) PAGE && list_all (λ c. c.size == b.size) k.live

-- Rule 11: a new block is placed as its place does it.
abbrev pub is_placed : State → Event → Bool
is_placed s (New k a n al) =
    let b = block_at a n in
    let kept = kept_at s (spot_at k a) in
    if is_magazine k then is_placed_in_magazine kept b al else (if is_large k then is_placed_in_large kept b else is_placed_in_nano kept b)
is_placed s _ = true
