-- How a block gets another size. That it stays where it is if it can, and else is copied, is after libmalloc; when it moves is this
-- project's own.
use Rattle.std.specs.Prelude.{◌≡◌, ◌≢◌, ℕ, ◌≤◌, List, length, map, Option, None, Some, Result, Ok, Err, IsTrue, ◌⊎◌, Contains}
use Rattle.mz_events.specs.declared.entry.Entry.{Entry}
use Rattle.mz_record.specs.Resized.{IsResized, IsMoved}
use Rattle.mz_record.specs.Bytes.{Bytes, kept_in_place, kept_in_move, is_shown_as}
use Rattle.mz_rack.specs.declared.lot.Null.{Null}
use Rattle.mz_rack.specs.Resizing.{resize_at}
use Rattle.mz_nano.specs.declared.view.Held.{Held}
use Rattle.mz_zone.specs.declared.fault.ReallocFault.{ReallocFault}
use Rattle.mz_zone.specs.declared.fault.ReallocFault.TheVariants as fault
use Rattle.mz_zone.specs.Blocks.{BlockView, block_of, at_its_place, hand_with, hand_without}
use Rattle.mz_zone.specs.Calling.{AtView, Goes, hand_at}
use Rattle.mz_zone.specs.Counts.{Tries, counts_of}
use Rattle.mz_zone.specs.Answering.{Answers, IsAnswer, HasGotSlot, block_got, slot_got}
use Rattle.mz_zone.specs.Freeing.{Frees}

-- all bytes of the block are known
abbrev pub known : BlockView → Bytes
known b = map (λ x. Some x) b.span.bytes

-- The block stays where it is, and keeps its bytes as far as both sizes go. Nothing is counted.
pub record Stays (v : AtView) (b : BlockView) (n : ℕ) (d : BlockView) (w : AtView) : Type 0 where
  pub mine : List Entry
  pub goes : Goes v mine w
  pub resized : IsResized v.book.profile (block_of b) n mine (Some (block_of d))
  pub place : d ≡ at_its_place b d.span.bytes
  pub bytes : IsTrue (is_shown_as (kept_in_place (length d.span.bytes) (known b)) d.span.bytes)
  pub hand : hand_at w ≡ hand_at v
  pub counts : counts_of w ≡ counts_of v

-- between what the book had seen when the call began and the first entry of the call
pub record IsBefore (v : AtView) (mine : List Entry) (t : ℕ) : Type 0 where
  pub all_seen : length v.book.seen ≤ t
  pub none_noted : (e : Entry) → Contains mine e → t ≤ e.ticket

-- the new block has what was asked of the old one's bytes
abbrev pub CopiesBytes : BlockView → ℕ → Result BlockView Null → Type 0
CopiesBytes b n (Ok d) = IsTrue (is_shown_as (kept_in_move n (length d.span.bytes) (known b)) d.span.bytes)
CopiesBytes b n (Err e) = Unit {0}

-- the new block begins elsewhere
abbrev pub IsElsewhere : BlockView → Result BlockView Null → Type 0
IsElsewhere b (Ok d) = b.span.first ≢ d.span.first
IsElsewhere b (Err e) = Unit {0}

-- the hand has the slot of a new block of nano, and not that of the old one; where no block came it is as before
abbrev pub hand_moved : BlockView → Result BlockView Null → List Held → List Held
hand_moved b (Ok d) hand = hand_without b (hand_with d hand)
hand_moved b (Err e) hand = hand

-- Another block is served and the block dropped, or none is and the block stays. That it had to move was so after t entries.
pub record MovesOn (v : AtView) (z : ℕ) (b : BlockView) (n : ℕ) (got : Result BlockView Null) (w : AtView) : Type 0 where
  pub mine : List Entry
  pub few : length mine ≤ 39
  pub goes : Goes v mine w
  pub t : ℕ
  pub before : IsBefore v mine t
  pub moved : IsMoved v.book.profile w.book.seen (resize_at v.book t z (block_of b) n) mine (block_got got)
  pub answer : IsAnswer z v.book.site mine got
  pub slot : HasGotSlot w got
  pub elsewhere : IsElsewhere b got
  pub bytes : CopiesBytes b n got
  pub hand : hand_at w ≡ hand_moved b got (hand_at v)
  pub tries : Tries v z n 16 (slot_got got) w

-- a block of zone z gets n bytes, or stays as it is
abbrev pub Resizes : AtView → ℕ → BlockView → ℕ → Result BlockView Null → AtView → Type 0
Resizes v z b n (Ok d) w = Stays v b n d w ⊎ MovesOn v z b n (Ok d) w
Resizes v z b n (Err e) w = MovesOn v z b n (Err e) w

-- Where there is no block this is a request. A block of another zone comes back, and so does one for which there is no room.
abbrev pub Reallocs : AtView → ℕ → Option BlockView → ℕ → Result BlockView ReallocFault → AtView → Type 0
Reallocs v z None n (Ok d) w = Answers v z n 16 (Ok d) w
Reallocs v z None n (Err (fault.NotLive e)) w = ⊥
Reallocs v z None n (Err (fault.Null b e)) w = (b ≡ None) × Answers v z n 16 (Err e) w
Reallocs v z (Some b) n (Ok d) w = (b.zone ≡ z) × Resizes v z b n (Ok d) w
Reallocs v z (Some b) n (Err (fault.NotLive e)) w = Frees v z b (Err e) w
Reallocs v z (Some b) n (Err (fault.Null c e)) w = (b.zone ≡ z) × (c ≡ Some b) × Resizes v z b n (Err e) w
