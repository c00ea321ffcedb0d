-- How a block that is handed in is freed, or comes back. That only a block's own zone frees it, and that a size may be told with it, is after
-- libmalloc; the exact entries are this project's own.
use Rattle.std.specs.Prelude.{◌≡◌, ◌≢◌, ◌⊎◌, ℕ, ◌<◌, ◌≤◌, List, [], ◌∷◌, length, map, Result, Ok, Err}
use Rattle.mz_base.specs.declared.profile.Profile.{Profile}
use Rattle.mz_base.specs.Sizes.{route_of}
use Rattle.mz_events.specs.declared.entry.Entry.{Entry}
use Rattle.mz_record.specs.Dropped.{IsDropped, IsNotOfZone}
use Rattle.mz_nano.specs.declared.view.Held.{Held}
use Rattle.mz_zone.specs.declared.fault.NotLiveBlock.{NotLiveBlock}
use Rattle.mz_zone.specs.declared.fault.SizeFault.{SizeFault}
use Rattle.mz_zone.specs.declared.fault.SizeFault.TheVariants.{NotLive, WrongSize}
use Rattle.mz_zone.specs.Blocks.{BlockView, block_of, hand_without}
use Rattle.mz_zone.specs.Calling.{AtView, Goes, hand_at}
use Rattle.mz_zone.specs.Counts.{counts_of}

-- a block of zone z is dropped; one of another zone is denied by one entry, and comes back with the ticket of that
abbrev pub IsFreed : Profile → List Entry → ℕ → BlockView → List Entry → Result (Unit {0}) NotLiveBlock → Type 0
IsFreed p h z b es (Ok u) = (b.zone ≡ z) × IsDropped p h (block_of b) es
IsFreed p h z b es (Err e) = (b.zone ≢ z) × IsNotOfZone z (block_of b) es × (map (λ x. x.ticket) es ≡ e.ticket ∷ []) × (e.block ≡ b)

-- the seat's hand without the slot of a block of nano that ended
abbrev pub hand_left : BlockView → Result (Unit {0}) NotLiveBlock → List Held → List Held
hand_left b (Ok u) hand = hand_without b hand
hand_left b (Err e) hand = hand

-- The block that zone z was handed is freed, or comes back: the record grew by just the entries that say so, three at most, and nothing was
-- counted.
pub record Frees (v : AtView) (z : ℕ) (b : BlockView) (got : Result (Unit {0}) NotLiveBlock) (w : AtView) : Type 0 where
  pub mine : List Entry
  pub few : length mine ≤ 3
  pub goes : Goes v mine w
  pub freed : IsFreed v.book.profile w.book.seen z b mine got
  pub hand : hand_at w ≡ hand_left b got (hand_at v)
  pub counts : counts_of w ≡ counts_of v

-- the block has fewer than n bytes, or n bytes are of another range; a block of nano counts as tiny
abbrev pub IsWrongSize : BlockView → ℕ → Type 0
IsWrongSize b n = (length b.span.bytes < n) ⊎ (route_of n ≢ route_of (length b.span.bytes))

-- The block is freed where it can have the size n. Where it can't, and is of zone z, it comes back, and all is as before.
abbrev pub FreesOfSize : AtView → ℕ → BlockView → ℕ → Result (Unit {0}) SizeFault → AtView → Type 0
FreesOfSize v z b n (Ok u) w = ¬ IsWrongSize b n × Frees v z b (Ok u) w
FreesOfSize v z b n (Err (NotLive e)) w = Frees v z b (Err e) w
FreesOfSize v z b n (Err (WrongSize c held)) w = (b.zone ≡ z) × IsWrongSize b n × (c ≡ b) × (held ≡ length b.span.bytes) × (w ≡ v)
