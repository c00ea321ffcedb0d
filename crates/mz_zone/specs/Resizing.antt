-- What the steps of a call that gives a block another size leave. This project's own.
use Rattle.std.specs.Prelude.{◌≡◌, ℕ, Bool, true, false, [], ◌++◌, length, min, take, drop, Some, Result, Ok, Err}
use Rattle.mz_record.specs.Resized.{Moves}
use Rattle.mz_book.specs.Account.{Account}
use Rattle.mz_rack.specs.Resizing.{resize_now}
use Rattle.mz_zone.specs.declared.fault.ReallocFault.{ReallocFault}
use Rattle.mz_zone.specs.declared.fault.ReallocFault.TheVariants as fault
use Rattle.mz_zone.specs.Blocks.{BlockView, block_of, with_block_bytes}
use Rattle.mz_zone.specs.Calling.{AtView, Goes, hand_at}
use Rattle.mz_zone.specs.Counts.{counts_of}
use Rattle.mz_zone.specs.Moving.{Stays, MovesOn}

-- the block has to move, as the book's last state says
abbrev pub MovesAfter : Account → BlockView → ℕ → Type 0
MovesAfter t b n = Moves t.profile t.seen (resize_now t b.zone (block_of b) n)

abbrev pub MovesNow : AtView → BlockView → ℕ → Type 0
MovesNow v b n = MovesAfter v.book b n

-- the block has to move, and all is as it was
pub record IsStuck (v : AtView) (b : BlockView) (n : ℕ) (d : BlockView) (w : AtView) : Type 0 where
  pub goes : Goes v [] w
  pub same : d ≡ b
  pub hand : hand_at w ≡ hand_at v
  pub counts : counts_of w ≡ counts_of v
  pub moves : MovesNow w b n

abbrev pub StaysIf : AtView → BlockView → ℕ → Bool → BlockView → AtView → Type 0
StaysIf v b n true d w = Stays v b n d w
StaysIf v b n false d w = IsStuck v b n d w

-- a block that has to move did, or comes back
abbrev pub MovesTo : AtView → ℕ → BlockView → ℕ → Result BlockView ReallocFault → AtView → Type 0
MovesTo v z b n (Ok d) w = MovesOn v z b n (Ok d) w
MovesTo v z b n (Err (fault.NotLive e)) w = ⊥
MovesTo v z b n (Err (fault.Null c e)) w = (c ≡ Some b) × MovesOn v z b n (Err e) w

-- the first n bytes of the first block, as many as it has, are those of the second from now on
abbrev pub CopiesInto : ℕ → BlockView → BlockView → BlockView → Type 0
CopiesInto n from to d =
    let k = min (length from.span.bytes) n in d ≡ with_block_bytes to (take k from.span.bytes ++ drop k to.span.bytes)
