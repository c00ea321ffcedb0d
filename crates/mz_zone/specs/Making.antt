-- What the steps of a call at nano need of a book, and what they leave of its account. This project's own.
use Rattle.std.specs.Prelude.{◌≡◌, ◌⊎◌, ℕ, ◌*◌, ◌<◌, ◌≤◌, Bool, true, false, List, [], ◌∷◌, Option, None, Some, slice_set, IsTrue}
use Rattle.mz_base.specs.declared.range.TheConstants.{PAGE}
use Rattle.mz_events.specs.declared.event.Event.{Event}
use Rattle.mz_events.specs.declared.event.Event.TheVariants.{New, End}
use Rattle.mz_events.specs.declared.place.Place.TheVariants as place
use Rattle.mz_events.specs.declared.entry.Entry.{Entry}
use Rattle.mz_events.specs.Places.{nano_start}
use Rattle.mz_events.specs.State.{is_open}
use Rattle.mz_book.specs.declared.light.Asked.TheVariants.{Settle, HoldLight}
use Rattle.mz_book.specs.Account.{Account, HoldsNothing, class_of, entry_at, one_more, state_of}
use Rattle.mz_book.specs.Growth.{Adds}
use Rattle.mz_base.specs.Sizes.{units_of}
use Rattle.mz_nano.specs.declared.nano.Nano.{Nano}
use Rattle.mz_nano.specs.declared.seat.NanoSeat.{NanoSeat}
use Rattle.mz_nano.specs.declared.view.Held.{Held}
use Rattle.mz_nano.specs.Lists.{without}
use Rattle.mz_nano.specs.SeatLists.{SitsAt, hand_of}
use Rattle.mz_nano.specs.Rule.{held}
use Rattle.mz_nano.specs.SlotViews.{SlotView, IsPlaced}
use Rattle.mz_zone.specs.Calling.{AtView, Goes, HasSlot, apart_from_nano, hand_at}
use Rattle.mz_zone.specs.Counts.{Tried, counts_of, is_for_nano}
use Rattle.mz_zone.specs.Blocks.{slot_added}

-- Nothing is held, zone 0 is open, there is room for an entry, and the slot is one of the profile's nano pages.
pub record CanNoteSlot (s : Account) (x : SlotView) : Type 0 where
  pub nothing_held : HoldsNothing s
  pub zone_open : IsTrue (is_open (state_of s) 0)
  pub room : 1 ≤ s.spare
  pub placed : IsPlaced x
  pub base : x.base ≡ nano_start s.profile * PAGE
  pub below : x.block < s.profile.nano

-- the events by which the slot's block is made and ends
abbrev pub making : SlotView → Event
making x = New place.Nano x.span.first (16 * x.class) 16

abbrev pub ending : SlotView → Event
ending x = End place.Nano x.span.first (16 * x.class)

-- the record grew by just this entry, and nothing is held; what the book counts is as before
pub record IsNoted (s : Account) (e : Event) (n : ℕ) (t : Account) : Type 0 where
  pub adds : Adds (apart_from_nano s) (entry_at n s.caller e ∷ []) 0 (apart_from_nano t)
  pub nothing_held : HoldsNothing t
  pub founds : t.founds ≡ s.founds
  pub found : t.found ≡ s.found

-- the block of nano has this class or none yet
abbrev pub CanBeOfClass : Account → ℕ → ℕ → Type 0
CanBeOfClass s b c = (class_of s b ≡ 0) ⊎ (class_of s b ≡ c)

-- the slot's block was made, of the slot's class
pub record IsMade (s : Account) (x : SlotView) (t : Account) : Type 0 where
  pub ticket : ℕ
  pub notes : IsNoted s (making x) ticket t
  pub class_ : CanBeOfClass s x.block x.class
  pub settled : t.settled ≡ slice_set s.settled x.block x.class

-- it couldn't be: its page has another class, or its word isn't 0
pub record IsOfAnotherClass (s : Account) (x : SlotView) (t : Account) : Type 0 where
  pub after : t ≡ record s { founds = one_more s.founds; found = Some (Settle x.block x.class) }

pub record IsNotIdle (s : Account) (x : SlotView) (t : Account) : Type 0 where
  pub class_ : CanBeOfClass s x.block x.class
  pub after : t ≡ record s { settled = slice_set s.settled x.block x.class; founds = one_more s.founds; found = Some (HoldLight x.block x.slot 0) }

abbrev pub MakesBlock : Account → SlotView → Bool → Account → Type 0
MakesBlock s x true t = IsMade s x t
MakesBlock s x false t = IsOfAnotherClass s x t ⊎ IsNotIdle s x t

-- the slot's block ended
pub record IsEnded (s : Account) (x : SlotView) (t : Account) : Type 0 where
  pub ticket : ℕ
  pub notes : IsNoted s (ending x) ticket t
  pub settled : t.settled ≡ s.settled

abbrev pub held_of : SlotView → Held
held_of x = held x.block x.slot x.class

-- the slot that came, if one did
abbrev pub slot_of : Option SlotView → Option Held
slot_of None = None
slot_of (Some x) = Some (held_of x)

-- the entry makes the block of the slot that came, and there is none where none came
abbrev pub Makes : ℕ → List Entry → Option SlotView → Type 0
Makes c mine None = mine ≡ []
Makes c mine (Some x) = (n : ℕ) × (mine ≡ entry_at n c (making x) ∷ [])

-- a slot that came is one of its class in the space
abbrev pub IsOfClass : AtView → ℕ → Option SlotView → Type 0
IsOfClass v class None = Unit {0}
IsOfClass v class (Some x) = (x.class ≡ class) × (x.span.space ≡ v.book.site) × IsPlaced x × HasSlot v.nano x.base (Some (held_of x))

-- nano was tried for a block of the class
pub record Takes (v : AtView) (class : ℕ) (got : Option SlotView) (w : AtView) : Type 0 where
  pub mine : List Entry
  pub goes : Goes v mine w
  pub makes : Makes v.book.caller mine got
  pub slot : IsOfClass w class got
  pub hand : hand_at w ≡ slot_added (slot_of got) (hand_at v)
  pub tried : Tried class (counts_of v) (slot_of got) (counts_of w)

-- A request that isn't one for nano takes no slot, and leaves all as it was.
abbrev pub TakesIf : Bool → AtView → ℕ → Option SlotView → AtView → Type 0
TakesIf true v class got w = Takes v class got w
TakesIf false v class got w = (got ≡ None) × (w ≡ v)

abbrev pub TakesFor : AtView → ℕ → ℕ → ℕ → Option SlotView → AtView → Type 0
TakesFor v z n al got w = TakesIf (is_for_nano v z n al) v (units_of n) got w

-- the seat is what it was, with the same counts
pub record IsSameSeat (nano : Nano) (a b : NanoSeat) : Type 0 where
  pub sits : SitsAt nano b
  pub number : b.number ≡ a.number
  pub tries : b.tries ≡ a.tries
  pub misses : b.misses ≡ a.misses
  pub missed : b.missed ≡ a.missed
  pub popped : b.popped ≡ a.popped

-- the slot went out of the hand, to its block of nano
pub record IsPutBack (nano : Nano) (a : NanoSeat) (x : SlotView) (b : NanoSeat) : Type 0 where
  pub same : IsSameSeat nano a b
  pub hand : hand_of b ≡ without x.block x.slot (hand_of a)
