-- How a free is answered. That a thin region goes to the depot and an empty one back to the pages is after libmalloc; the exact
-- entries are this project's own.
use Rattle.std.specs.Prelude.{◌≡◌, ◌≢◌, ◌≤◌, ℕ, List, [], ◌∷◌, length, map, Result, Ok, Err, IsTrue}
use Rattle.mz_base.specs.declared.profile.Profile.{Profile}
use Rattle.mz_base.specs.Space.{Block, block_at}
use Rattle.mz_base.specs.Lists.{has_block}
use Rattle.mz_events.specs.declared.entry.Entry.{Entry}
use Rattle.mz_record.specs.Dropped.{IsDropped, IsNotOfZone}
use Rattle.mz_book.specs.Account.{Account, HoldsNothing, hand}
use Rattle.mz_book.specs.Growth.{Grows}
use Rattle.mz_rack.specs.declared.lot.NotLive.{NotLive}
use Rattle.mz_rack.specs.Lots.{LotView}

-- the block of a lot
abbrev pub block_of : LotView → Block
block_of l = block_at l.span.first (length l.span.bytes)

-- the lot is in the hand, and its bytes are of the space
pub record IsFreeable (s : Account) (l : LotView) : Type 0 where
  pub in_hand : IsTrue (has_block (hand s) (block_of l))
  pub space : l.span.space ≡ s.site

-- a lot of zone z is dropped; one of another zone is denied by one entry, and comes back with the ticket of that
abbrev pub IsFreed : Profile → List Entry → ℕ → LotView → List Entry → Result (Unit {0}) NotLive → Type 0
IsFreed p h z l es (Ok u) = (l.zone ≡ z) × IsDropped p h (block_of l) es
IsFreed p h z l es (Err e) = (l.zone ≢ z) × IsNotOfZone z (block_of l) es × (map (λ x. x.ticket) es ≡ e.ticket ∷ []) × (e.lot ≡ l)

-- The lot that zone z was handed is freed, or comes back: the record grew by just the entries that say so, three at most, and nothing
-- is held.
-- As many keepers are taken as the search needs, which is as long as others move the block's region on.
pub record Frees (s : Account) (z : ℕ) (l : LotView) (got : Result (Unit {0}) NotLive) (t : Account) : Type 0 where
  pub mine : List Entry
  pub holds : ℕ
  pub few : length mine ≤ 3
  pub grows : Grows s mine holds t
  pub nothing_held : HoldsNothing t
  pub freed : IsFreed s.profile t.seen z l mine got
