-- What the tests keep from step to step. This project's own.
use Rattle.std.specs.Prelude.{◌≡◌, ℕ, ◌<◌, List, ◌++◌, Option, Some, IfSome}
use Rattle.std.specs.Option.{option_to_list}
use Rattle.mz_base.specs.declared.profile.Profile.{Profile}
use Rattle.mz_base.specs.Space.{Block}
use Rattle.mz_events.specs.declared.entry.Entry.{Entry}
use Rattle.mz_events.specs.Hands.{hand_through}
use Rattle.mz_record.specs.Served.{Request, IsServed}
use Rattle.mz_book.specs.declared.pair.Pair.{Pair}
use Rattle.mz_book.specs.Account.{Account}
use Rattle.mz_book.specs.Pairs.{hand_among}
use Rattle.mz_book.specs.Growth.{pairs_through}
use Rattle.mz_zone.specs.declared.fault.ReallocFault.{ReallocFault}
use Rattle.mz_zone.specs.declared.fault.ReallocFault.TheVariants.{NotLive, Null}
use Rattle.mz_zone.specs.declared.fault.SizeFault.{SizeFault}
use Rattle.mz_zone.specs.declared.fault.SizeFault.TheVariants as size
use Rattle.mz_zone.specs.Blocks.{BlockView}
use Rattle.mz_zone.specs.Calling.{AtView, Seated, CanCall, IsHandedIn}

-- what calls make of a hand
pub record HandLaws : Type 0 where
  pub through : (c : ℕ) (pairs : List Pair) (es : List Entry) → hand_among c (pairs_through c pairs es) ≡ hand_through (hand_among c pairs) es
  pub hand_served : (p : Profile) (h : List Entry) (q : Request) (es : List Entry) (got : Option Block) (bs : List Block) → IsServed p h q es got → hand_through bs es ≡ bs ++ option_to_list got

-- a call with room for n entries may be made in each zone
pub record IsReady (v : AtView) (p : Profile) (n : ℕ) : Type 0 where
  pub each : (z : ℕ) → z < p.zones → CanCall v p z n

-- the next step may be done, and the block at hand may be handed in
pub record IsLeft (v : AtView) (p : Profile) (b : Option BlockView) : Type 0 where
  pub ready : IsReady v p 0
  pub held : IfSome b (IsHandedIn v)

-- the block that comes back
abbrev pub block_in : ReallocFault → Option BlockView
block_in (NotLive e) = Some e.block
block_in (Null b e) = b

abbrev pub size_block_in : SizeFault → BlockView
size_block_in (size.NotLive e) = e.block
size_block_in (size.WrongSize b held) = b

-- what a call is made with, by what the book's account is
abbrev pub at_book : Account → Option Seated → AtView
at_book s nano = record { book = s; nano = nano }

-- what is known of nano's classes may differ, and nothing else
pub record IsOpening (s t : Account) : Type 0 where
  pub after : t ≡ record s { settled = t.settled; founds = t.founds; found = t.found }
