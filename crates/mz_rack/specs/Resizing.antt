-- How a request to give a block another size, without moving it, is answered. That a block grows over idle quanta behind it is
-- after libmalloc; the exact entries are this project's own.
use Rattle.std.specs.Prelude.{◌≡◌, ◌≢◌, ◌⊎◌, ℕ, Bool, true, false, List, [], length, min, take, Some}
use Rattle.mz_base.specs.declared.range.Range.TheVariants as range
use Rattle.mz_base.specs.Sizes.{route_of, good_size_of}
use Rattle.mz_base.specs.Space.{Block}
use Rattle.mz_events.specs.declared.entry.Entry.{Entry}
use Rattle.mz_record.specs.Resized.{Resize, IsResized, Moves}
use Rattle.mz_book.specs.Account.{Account, HoldsNothing}
use Rattle.mz_book.specs.Growth.{Grows}
use Rattle.mz_rack.specs.Lots.{LotView}
use Rattle.mz_rack.specs.Freeing.{block_of}

-- the lot is of the same zone and space, and the bytes that both sizes have are as they were
pub record KeepsBytes (l m : LotView) : Type 0 where
  pub zone : m.zone ≡ l.zone
  pub space : m.span.space ≡ l.span.space
  pub bytes : let both = min (length l.span.bytes) (length m.span.bytes) in take both m.span.bytes ≡ take both l.span.bytes

-- what the account's caller asks of a block of zone z after the first t entries
abbrev pub resize_at : Account → ℕ → ℕ → Block → ℕ → Resize
resize_at a t z b n = record { caller = a.caller; zone = z; block = b; bytes = n; low = t; high = t }

-- and after all that was seen
abbrev pub resize_now : Account → ℕ → Block → ℕ → Resize
resize_now a z b n = resize_at a (length a.seen) z b n

-- The block has the size for n bytes by these entries; or nothing changed, and it moves, as the state after all that was seen
-- tells.
abbrev pub IsInPlace : Account → LotView → ℕ → List Entry → Bool → LotView → Type 0
IsInPlace t l n es true m = IsResized t.profile (block_of l) n es (Some (block_of m)) × KeepsBytes l m
IsInPlace t l n es false m = (es ≡ []) × (m ≡ l) × Moves t.profile t.seen (resize_now t l.zone (block_of l) n)

-- whether the block stays or moves, its size and n alone tell
abbrev pub IsToldBySizes : Block → ℕ → Type 0
IsToldBySizes b n = (good_size_of n ≡ b.size) ⊎ ((route_of b.size ≢ route_of n) ⊎ (route_of n ≡ range.Large))

-- The lot l is to hold n bytes, and is m then: the record grew by just the entries that say so, and nothing is held. Where the
-- sizes alone tell, the book is left as it was; else as many keepers are taken as the search for the block needs.
pub record Resizes (s : Account) (l : LotView) (n : ℕ) (got : Bool) (t : Account) (m : LotView) : Type 0 where
  pub mine : List Entry
  pub holds : ℕ
  pub grows : Grows s mine holds t
  pub nothing_held : HoldsNothing t
  pub in_place : IsInPlace t l n mine got m
  pub alone : IsToldBySizes (block_of l) n → t ≡ s
