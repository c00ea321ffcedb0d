-- That nano is tried, and how a request is answered without it. One try for each request is after libmalloc's nano; the counts are
-- this project's own.
use Rattle.std.specs.Prelude.{◌≡◌, ◌⊎◌, ℕ, zero, suc, ◌+◌, ◌==◌, Bool, true, false, nat_le, ◌&&◌, List, length, Option, None, Some, slice_set, slice_index_or}
use Rattle.mz_base.specs.Sizes.{units_of}
use Rattle.mz_book.specs.declared.light.Asked.{Asked}
use Rattle.mz_book.specs.declared.light.Asked.TheVariants.{Settle, HoldLight}
use Rattle.mz_book.specs.Account.{Account, one_more}
use Rattle.mz_nano.specs.declared.view.Held.{Held}
use Rattle.mz_nano.specs.Rule.{held}
use Rattle.mz_nano.specs.CallEffects.{risen}
use Rattle.mz_zone.specs.Calling.{Seated, AtView}

-- what is counted and known of nano: by the seat, how often it popped and missed, and what it missed and popped last; by the book, how
-- often it found another word, what it asked then, and the class of each block. A count that stands at its end tells nothing.
pub record Counts : Type 0 where
  pub tries : ℕ
  pub misses : ℕ
  pub missed : ℕ
  pub popped : Option Held
  pub founds : ℕ
  pub found : Option Asked
  pub settled : List ℕ

abbrev pub counts_in : Account → Option Seated → Counts
counts_in s None = record { tries = 0; misses = 0; missed = 0; popped = None; founds = s.founds; found = s.found; settled = s.settled }
counts_in s (Some x) =
    record { tries = x.seat.tries; misses = x.seat.misses; missed = x.seat.missed; popped = x.seat.popped; founds = s.founds; found = s.found; settled = s.settled }

abbrev pub counts_of : AtView → Counts
counts_of v = counts_in v.book v.nano

-- one more pop was made
abbrev pub with_try : Counts → Counts
with_try x = record x { tries = risen x.tries }

-- and it gave this slot, or missed one of class c
abbrev pub with_pop : Held → Counts → Counts
with_pop h x = record (with_try x) { popped = Some h }

abbrev pub with_miss : ℕ → Counts → Counts
with_miss c x = record (with_try x) { misses = risen x.misses; missed = c }

-- the block b is known to have class c
abbrev pub with_class : ℕ → ℕ → Counts → Counts
with_class b c x = record x { settled = slice_set x.settled b c }

-- it wasn't known to have another
abbrev pub MayHaveClass : Counts → ℕ → ℕ → Type 0
MayHaveClass x b c = (slice_index_or x.settled b 0 ≡ 0) ⊎ (slice_index_or x.settled b 0 ≡ c)

-- another word was found than was asked for
abbrev pub with_found : Asked → Counts → Counts
with_found asked x = record x { founds = one_more x.founds; found = Some asked }

-- A request of class c tried nano once, and got this slot or none. It got none where the pop missed, where the popped slot's block has
-- another class, and where the slot's word isn't 0. The book knows no more classes than before, but for that of the popped slot's block.
pub data Tried (c : ℕ) (x : Counts) (slot : Option Held) (y : Counts) : Type 0 where
  by_pop : (b j : ℕ) → slot ≡ Some (held b j c) → MayHaveClass x b c → y ≡ with_class b c (with_pop (held b j c) x) → Tried c x slot y
  by_miss : slot ≡ None → y ≡ with_miss c x → Tried c x slot y
  by_class : (b j : ℕ) → slot ≡ None → y ≡ with_found (Settle b c) (with_pop (held b j c) x) → Tried c x slot y
  by_word :
      (b j : ℕ) → slot ≡ None → MayHaveClass x b c → y ≡ with_found (HoldLight b j 0) (with_class b c (with_pop (held b j c) x))
      → Tried c x slot y

abbrev pub has_nano : Option Seated → Bool
has_nano None = false
has_nano (Some x) = true

-- nano is there, and the request is one for at most 256 bytes at 16 in zone 0
abbrev pub is_for_nano : AtView → ℕ → ℕ → ℕ → Bool
is_for_nano v z n al = has_nano v.nano && (z == 0) && nat_le n 256 && (al == 16)

-- a request that isn't one for nano counts nothing, and gets no slot
abbrev pub TriesIf : Bool → ℕ → Counts → Option Held → Counts → Type 0
TriesIf true c x slot y = Tried c x slot y
TriesIf false c x slot y = (slot ≡ None) × (y ≡ x)

-- a request for n bytes at al in zone z got this slot, or none
abbrev pub Tries : AtView → ℕ → ℕ → ℕ → Option Held → AtView → Type 0
Tries v z n al slot w = TriesIf (is_for_nano v z n al) (units_of n) (counts_of v) slot (counts_of w)

-- a count after so many more
abbrev pub times : (ℕ → ℕ) → ℕ → ℕ → ℕ
times more zero n = n
times more (suc k) n = times more k (more n)

-- as many classes are known, and each that wasn't known before is c
pub record GrowsBy (c : ℕ) (xs ys : List ℕ) : Type 0 where
  pub same_length : length ys ≡ length xs
  pub each : (b : ℕ) → (slice_index_or ys b 0 ≡ slice_index_or xs b 0) ⊎ ((slice_index_or xs b 0 ≡ 0) × (slice_index_or ys b 0 ≡ c))

-- So many requests of class c tried nano once each, and so many of them got no slot: as many as were missed, and found with another word.
-- No class but this is known that wasn't known before.
pub record TriedTimes (c made without : ℕ) (x y : Counts) : Type 0 where
  pub missed : ℕ
  pub found : ℕ
  pub all : missed + found ≡ without
  pub tries : y.tries ≡ times risen made x.tries
  pub misses : y.misses ≡ times risen missed x.misses
  pub founds : y.founds ≡ times one_more found x.founds
  pub settled : GrowsBy c x.settled y.settled

-- requests that aren't for nano count nothing
abbrev pub TriedTimesIf : Bool → ℕ → ℕ → ℕ → Counts → Counts → Type 0
TriedTimesIf true c made without x y = TriedTimes c made without x y
TriedTimesIf false c made without x y = y ≡ x
