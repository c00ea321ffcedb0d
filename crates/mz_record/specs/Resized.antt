-- Which entries fit a block that is to have another size: it stays as it is or changes its size in place, or it moves.
-- This project's own.
use Rattle.std.specs.Prelude.{ℕ, ◌+◌, ◌-◌, ◌*◌, ◌≡◌, ◌≢◌, ◌<◌, ◌≤◌, ◌==◌, Bool, nat_le, ◌&&◌, ◌||◌, not, List, [], ◌∷◌, ◌++◌, length, Option, None, Some, IsTrue, ◌⊎◌}
use Rattle.std.specs.List.{list_any, list_all}
use Rattle.mz_base.specs.declared.profile.Profile.{Profile}
use Rattle.mz_base.specs.declared.range.TheConstants.{PAGE}
use Rattle.mz_base.specs.declared.range.Range.TheVariants as range
use Rattle.mz_base.specs.Sizes.{route_of, good_size_of}
use Rattle.mz_base.specs.Space.{Block, block_at, blocks_apart}
use Rattle.mz_base.specs.Lists.{has_block}
use Rattle.mz_base.specs.Room.{lies_in}
use Rattle.mz_events.specs.declared.place.Place.{Place}
use Rattle.mz_events.specs.declared.event.Event.TheVariants.{Size}
use Rattle.mz_events.specs.declared.entry.Entry.{Entry}
use Rattle.mz_events.specs.Places.{is_magazine, is_depot, spot_of, nano_start}
use Rattle.mz_events.specs.State.{State, kept_at}
use Rattle.mz_record.specs.Moments.{state_at}
use Rattle.mz_record.specs.Served.{Request, events, first_made, Serves}
use Rattle.mz_record.specs.Dropped.{IsDropped}

-- the block lies in nano's pages
abbrev pub lies_in_nano_pages : Profile → Block → Bool
lies_in_nano_pages p b = nat_le (nano_start p * PAGE) b.first

-- the quanta up to n bytes from the block's start are in its region and in no other live block of its place
abbrev pub has_room_for : State → Place → Block → ℕ → Bool
has_room_for s k b n =
    list_any (λ r. lies_in r b.first (b.first + n)) (kept_at s (spot_of k)).runs
    && list_all (λ c. (c.first == b.first) || blocks_apart c (block_at b.first n)) (kept_at s (spot_of k)).live

-- in this state the block is live in a region and can't grow to n bytes
abbrev pub IsHemmedIn : State → Block → ℕ → Type 0
IsHemmedIn s b n =
    (k : Place) × IsTrue (is_magazine k || is_depot k) × IsTrue (has_block (kept_at s (spot_of k)).live b) × IsTrue (not (has_room_for s k b n))

-- What is asked of a block: a caller wants n bytes in its place. The block is one of this zone, and all this is done at some time from
-- low to high: after so many first entries of the history.
pub record Resize : Type 0 where
  pub caller : ℕ
  pub zone : ℕ
  pub block : Block
  pub bytes : ℕ
  pub low : ℕ
  pub high : ℕ

-- at some time from low to high the block was hemmed in
pub record WasHemmedIn (p : Profile) (h : List Entry) (r : Resize) : Type 0 where
  pub t : ℕ
  pub not_before : r.low ≤ t
  pub not_after : t ≤ r.high
  pub within : t ≤ length h
  pub hemmed : IsHemmedIn (state_at p h t) r.block (good_size_of r.bytes)

-- The block stays in its region where both sizes are of one range of quanta, and it doesn't lie in nano's pages.
pub record IsOfOneRange (p : Profile) (b : Block) (n : ℕ) : Type 0 where
  pub asked : 0 < n
  pub ranges : route_of b.size ≡ route_of n
  pub not_large : route_of n ≢ range.Large
  pub in_region : IsTrue (not (lies_in_nano_pages p b))

-- a large block of s bytes stays as it is for n bytes where it wastes less than it needs
abbrev pub stays_large : ℕ → ℕ → Bool
stays_large s g = nat_le g s && not (nat_le g (s - g))

-- The entries es give a block n bytes where it is: it stays as it is, or changes its size.
pub data IsResized (p : Profile) (b : Block) (n : ℕ) (es : List Entry) (got : Option Block) : Type 0 where
  same_size : 0 < n → good_size_of n ≡ b.size → es ≡ [] → got ≡ Some b → IsResized p b n es got
  in_place :
      (k : Place) → IsOfOneRange p b n → good_size_of n ≢ b.size
      → events es ≡ Size k b.first b.size (good_size_of n) ∷ []
      → got ≡ Some (block_at b.first (good_size_of n)) → IsResized p b n es got
  still_large :
      route_of b.size ≡ range.Large → route_of n ≡ range.Large → IsTrue (stays_large b.size (good_size_of n))
      → es ≡ [] → got ≡ Some b → IsResized p b n es got

-- When a block moves. A growth in its region moves only where the block was hemmed in.
pub data Moves (p : Profile) (h : List Entry) (r : Resize) : Type 0 where
  to_nothing : r.bytes ≡ 0 → Moves p h r
  between_ranges : good_size_of r.bytes ≢ r.block.size → route_of r.block.size ≢ route_of r.bytes → Moves p h r
  out_of_nano : good_size_of r.bytes ≢ r.block.size → IsTrue (lies_in_nano_pages p r.block) → Moves p h r
  large :
      route_of r.block.size ≡ range.Large → route_of r.bytes ≡ range.Large → IsTrue (not (stays_large r.block.size (good_size_of r.bytes)))
      → Moves p h r
  hemmed_in : IsOfOneRange p r.block r.bytes → r.block.size < good_size_of r.bytes → WasHemmedIn p h r → Moves p h r

-- the request for the block to which it moves
abbrev pub moving_request : Resize → Request
moving_request r = record { caller = r.caller; zone = r.zone; bytes = r.bytes; align = 16 }

-- The entries es of the history h move the block: another one is served in its zone, and the block is dropped. Where none is served it
-- stays as it is.
pub data IsMoved (p : Profile) (h : List Entry) (r : Resize) (es : List Entry) (got : Option Block) : Type 0 where
  moved :
      (new : Block) (news olds : List Entry) → Moves p h r → es ≡ news ++ olds
      → Serves p h (moving_request r) news (Some new) → IsDropped p h r.block olds
      → got ≡ Some new → IsMoved p h r es got
  not_moved : Moves p h r → Serves p h (moving_request r) es None → got ≡ None → IsMoved p h r es got

-- one or the other
abbrev pub IsReallocated : Profile → List Entry → Resize → List Entry → Option Block → Type 0
IsReallocated p h r es got = IsResized p r.block r.bytes es got ⊎ IsMoved p h r es got

-- what becomes of the block by these entries: it stays as it is where there are none
abbrev pub reallocated : Block → List Entry → Option Block
reallocated b [] = Some b
reallocated b (e ∷ es) = first_made (e ∷ es)
