-- What a call of a zone is made with, what it asks of that, and what each call leaves of it. This project's own.
use Rattle.std.specs.Prelude.{◌≡◌, ℕ, ◌*◌, List, [], Option, None, Some, IsTrue}
use Rattle.std.specs.Borrow.{Bor, MutBor}
use Rattle.mz_base.specs.declared.range.TheConstants.{PAGE}
use Rattle.mz_base.specs.declared.profile.Profile.{Profile}
use Rattle.mz_base.specs.Lists.{has_block}
use Rattle.mz_events.specs.declared.entry.Entry.{Entry}
use Rattle.mz_events.specs.Places.{nano_start}
use Rattle.mz_book.specs.Account.{Account, HoldsNothing, hand}
use Rattle.mz_book.specs.Growth.{Adds}
use Rattle.mz_rack.specs.Serving.{CanServe}
use Rattle.mz_nano.specs.declared.nano.Nano.{Nano}
use Rattle.mz_nano.specs.declared.seat.NanoSeat.{NanoSeat}
use Rattle.mz_nano.specs.declared.view.Held.{Held}
use Rattle.mz_nano.specs.Lists.{In}
use Rattle.mz_nano.specs.SeatLists.{SitsAt, hand_of, space_of, first_of, blocks_of}
use Rattle.mz_zone.specs.declared.at.At.{At}
use Rattle.mz_zone.specs.Blocks.{BlockView, block_of}

-- nano, with the seat of the caller
pub record Seated : Type 0 where
  pub nano : Nano
  pub seat : NanoSeat

-- What contracts see of what a call is made with: the account of the caller's book, and nano where it is there.
pub record AtView : Type 0 where
  pub book : Account
  pub nano : Option Seated

-- nano as it stands behind the two references
abbrev pub seated : Option (Bor Nano × MutBor NanoSeat) → Option Seated
seated None = None
seated (Some x) = Some (record { nano = x.0.now; seat = x.1.now })

-- by what a book's account is
abbrev pub seen : {B : Type 0} → (B → Account) → At B → AtView
seen account at = record { book = account at.book.now; nano = seated at.nano }

-- with nano there
abbrev pub with_seat : Account → Nano → NanoSeat → AtView
with_seat s nano seat = record { book = s; nano = Some (record { nano = nano; seat = seat }) }

-- the references are those of before
abbrev pub KeepsSeat : Option (Bor Nano × MutBor NanoSeat) → Option (Bor Nano × MutBor NanoSeat) → Type 0
KeepsSeat None None = Unit {0}
KeepsSeat None (Some y) = ⊥
KeepsSeat (Some x) None = ⊥
KeepsSeat (Some x) (Some y) = (y.0 ≡ x.0) × (y.1.ghost_name ≡ x.1.ghost_name)

abbrev pub KeepsReferences : {B : Type 0} → At B → At B → Type 0
KeepsReferences a b = (b.book.ghost_name ≡ a.book.ghost_name) × KeepsSeat a.nano b.nano

-- the seat is one of this nano, whose span is the profile's nano pages in the book's space
pub record IsSeated (s : Account) (x : Seated) : Type 0 where
  pub seat : SitsAt x.nano x.seat
  pub first : first_of x.nano ≡ nano_start s.profile * PAGE
  pub blocks : blocks_of x.nano ≡ s.profile.nano
  pub space : space_of x.nano ≡ s.site

abbrev pub IsSeatedAt : Account → Option Seated → Type 0
IsSeatedAt s None = Unit {0}
IsSeatedAt s (Some x) = IsSeated s x

-- A call in zone z of the profile p, with room for n entries, may be made: nothing is held, the zone is open, and where nano is there
-- it is the book's.
pub record CanCall (v : AtView) (p : Profile) (z n : ℕ) : Type 0 where
  pub serve : CanServe v.book p z n
  pub nano : IsSeatedAt v.book v.nano

-- the slot is one of this nano, and in the seat's hand
abbrev pub IsInSeat : Option Seated → ℕ → Held → Type 0
IsInSeat None base h = ⊥
IsInSeat (Some x) base h = (base ≡ first_of x.nano) × In h (hand_of x.seat)

-- where a block is one of nano, nano is there, and the block's slot is in the seat's hand
abbrev pub HasSlot : Option Seated → ℕ → Option Held → Type 0
HasSlot nano base None = Unit {0}
HasSlot nano base (Some h) = IsInSeat nano base h

-- The block is handed in: it is in the book's hand, and its bytes are of the book's space. A slot of nano is in the seat's hand too.
pub record IsHandedIn (v : AtView) (b : BlockView) : Type 0 where
  pub in_hand : IsTrue (has_block (hand v.book) (block_of b))
  pub space : b.span.space ≡ v.book.site
  pub slot : HasSlot v.nano b.base b.slot

-- the account but for how often a keeper was held, and what is counted and known of nano
abbrev pub apart_from_nano : Account → Account
apart_from_nano s = record s { holds = 0; settled = []; founds = 0; found = None }

-- the seat is still one of the same nano, and has its number
abbrev pub StaysSeated : Option Seated → Option Seated → Type 0
StaysSeated None None = Unit {0}
StaysSeated None (Some y) = ⊥
StaysSeated (Some x) None = ⊥
StaysSeated (Some x) (Some y) = (y.nano ≡ x.nano) × SitsAt y.nano y.seat × (y.seat.number ≡ x.seat.number)

-- The record grew by just these entries, and spare fell by as many; nothing is held. What is left open here are the counts, the
-- classes that are settled, and the seat's hand, of which each call says what becomes of them.
pub record Goes (v : AtView) (mine : List Entry) (w : AtView) : Type 0 where
  pub adds : Adds (apart_from_nano v.book) mine 0 (apart_from_nano w.book)
  pub nothing_held : HoldsNothing w.book
  pub nano : StaysSeated v.nano w.nano

-- the slots in the hand of the seat
abbrev pub hand_in : Option Seated → List Held
hand_in None = []
hand_in (Some x) = hand_of x.seat

abbrev pub hand_at : AtView → List Held
hand_at v = hand_in v.nano
