-- How a request of a zone is answered. Which requests go to which range is after libmalloc in outline; the exact entries are this
-- project's own.
use Rattle.std.specs.Prelude.{◌≡◌, ℕ, ◌*◌, ◌<◌, ◌≤◌, ◌^◌, Bool, false, List, length, max, Option, None, Some, Result, Ok, Err, IsTrue}
use Rattle.std.specs.List.{list_any}
use Rattle.std.specs.Option.{is_some}
use Rattle.std.specs.Int.{IsPowerOfTwo}
use Rattle.mz_base.specs.Limits.{IsFrom}
use Rattle.mz_base.specs.Site.{Site}
use Rattle.mz_base.specs.Space.{Block}
use Rattle.mz_events.specs.declared.event.Event.{Event}
use Rattle.mz_events.specs.declared.event.Event.TheVariants.{New}
use Rattle.mz_events.specs.declared.entry.Entry.{Entry}
use Rattle.mz_events.specs.Places.{is_nano}
use Rattle.mz_record.specs.Served.{Serves}
use Rattle.mz_record.specs.Bytes.{fresh, cleared, is_shown_as}
use Rattle.mz_rack.specs.declared.lot.Null.{Null}
use Rattle.mz_rack.specs.Serving.{TellsTickets}
use Rattle.mz_rack.specs.Ways.{request_of}
use Rattle.mz_nano.specs.declared.view.Held.{Held}
use Rattle.mz_zone.specs.declared.fault.CallocFault.{CallocFault}
use Rattle.mz_zone.specs.declared.fault.CallocFault.TheVariants as calloc
use Rattle.mz_zone.specs.declared.fault.AlignFault.{AlignFault}
use Rattle.mz_zone.specs.declared.fault.AlignFault.TheVariants as align
use Rattle.mz_zone.specs.Blocks.{BlockView, block_of, hand_with}
use Rattle.mz_zone.specs.Calling.{AtView, Goes, HasSlot, hand_at}
use Rattle.mz_zone.specs.Counts.{Tries}

-- the block that came, or none, and its slot
abbrev pub block_got : Result BlockView Null → Option Block
block_got (Ok b) = Some (block_of b)
block_got (Err e) = None

abbrev pub slot_got : Result BlockView Null → Option Held
slot_got (Ok b) = b.slot
slot_got (Err e) = None

-- the seat's hand has the slot of a block of nano that came
abbrev pub hand_got : Result BlockView Null → List Held → List Held
hand_got (Ok b) hand = hand_with b hand
hand_got (Err e) hand = hand

-- the event makes a block of nano
abbrev pub makes_slot : Event → Bool
makes_slot (New k a n al) = is_nano k
makes_slot _ = false

-- A block is of the zone, its bytes are of the space, and it has a slot exactly where one of the entries makes a block of nano. Where there
-- is none its tickets are told.
abbrev pub IsAnswer : ℕ → Site → List Entry → Result BlockView Null → Type 0
IsAnswer z x es (Ok b) = (b.zone ≡ z) × (b.span.space ≡ x) × (is_some b.slot ≡ list_any (λ e. makes_slot e.event) es)
IsAnswer z x es (Err e) = TellsTickets e es

-- a slot that came is one of the nano that is there
abbrev pub HasGotSlot : AtView → Result BlockView Null → Type 0
HasGotSlot w (Ok b) = HasSlot w.nano b.base b.slot
HasGotSlot w (Err e) = Unit {0}

-- The caller's request for n bytes at al in zone z is answered by a block or by null: the record grew by just the entries that serve it, 36
-- at most, and nano was tried where it is one for nano.
pub record Answers (v : AtView) (z n al : ℕ) (got : Result BlockView Null) (w : AtView) : Type 0 where
  pub mine : List Entry
  pub few : length mine ≤ 36
  pub goes : Goes v mine w
  pub serves : Serves v.book.profile w.book.seen (request_of v.book.caller z n al) mine (block_got got)
  pub answer : IsAnswer z v.book.site mine got
  pub slot : HasGotSlot w got
  pub hand : hand_at w ≡ hand_got got (hand_at v)
  pub tries : Tries v z n al (slot_got got) w

-- the first n bytes of the block are 0
abbrev pub IsCleared : ℕ → BlockView → Type 0
IsCleared n b = IsTrue (is_shown_as (cleared n (fresh (length b.span.bytes))) b.span.bytes)

-- A request for n times m bytes, all 0. Where these are 2^64 or more it is refused, and all is as before.
abbrev pub Callocs : AtView → ℕ → ℕ → ℕ → Result BlockView CallocFault → AtView → Type 0
Callocs v z n m (Ok b) w = (n * m < 2 ^ 64) × Answers v z (n * m) 16 (Ok b) w × IsCleared (n * m) b
Callocs v z n m (Err (calloc.Null e)) w = (n * m < 2 ^ 64) × Answers v z (n * m) 16 (Err e) w
Callocs v z n m (Err calloc.Overflow) w = (2 ^ 64 ≤ n * m) × (w ≡ v)

-- an alignment that may be asked for
pub record IsAlignment (al : ℕ) : Type 0 where
  pub power : IsPowerOfTwo al
  pub range : IsFrom 8 16384 al

-- A request at an alignment, which is raised to at least 16. A bad one is refused, and all is as before.
abbrev pub Memaligns : AtView → ℕ → ℕ → ℕ → Result BlockView AlignFault → AtView → Type 0
Memaligns v z al n (Ok b) w = IsAlignment al × Answers v z n (max al 16) (Ok b) w
Memaligns v z al n (Err (align.Null e)) w = IsAlignment al × Answers v z n (max al 16) (Err e) w
Memaligns v z al n (Err align.BadAlign) w = ¬ IsAlignment al × (w ≡ v)
