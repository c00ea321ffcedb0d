-- How a session asks its zone: its book gets room for what the call notes first, and then the call is made. This project's own.
use Rattle.std.specs.Prelude.{ℕ, ◌≡◌, ◌≤◌, Result, Ok, Err}
use Rattle.mz_book.specs.Account.{Account, IsOrderly}
use Rattle.mz_zone.specs.Blocks.{BlockView, IsAtItsSlot}
use Rattle.mz_zone.specs.Calling.{AtView}
use Rattle.mz_session.specs.Sessions.{SessionView}

-- the book has room for more entries
abbrev pub HasMoreRoom : Account → Account → Type 0
HasMoreRoom s b = b ≡ record s { spare = b.spare }

-- what the session makes a call with, where its book is such a one
abbrev pub roomier : SessionView → Account → AtView
roomier s b = record { book = b; nano = s.at.nano }

-- the session with all that a call is made with as it is then
abbrev pub moved : SessionView → AtView → SessionView
moved s w = record { zone = s.zone; at = w; blocks = s.blocks; parcels = s.parcels }

-- the call may be made wherever there is room for so many entries
abbrev pub CanAsk : SessionView → ℕ → (AtView → Type 0) → Type 0
CanAsk s n can = IsOrderly s.at.book → (b : Account) → HasMoreRoom s.at.book b → n ≤ b.spare → can (roomier s b)

-- It was made, with more room, and was answered so; nothing else of the session changed. The book was orderly before, and is so then.
pub record HasAsked {A : Type 0} (s : SessionView) (answers : AtView → A → AtView → Type 0) (got : A) (t : SessionView) : Type 0 where
  pub book : Account
  pub room : HasMoreRoom s.at.book book
  pub does : answers (roomier s book) got t.at
  pub keeps : t ≡ moved s t.at
  pub before : IsOrderly s.at.book
  pub after : IsOrderly t.at.book

-- a block of nano that was answered is where its slot is
abbrev pub IsPlacedIf : {E : Type 0} → Result BlockView E → Type 0
IsPlacedIf (Ok x) = IsAtItsSlot x
IsPlacedIf (Err e) = Unit {0}
