-- Nano with the seat of a caller, as a session keeps it. This project's own.
use Rattle.std.specs.Prelude.{◌≡◌, ◌<◌, [], Option, None, Some}
use Rattle.mz_base.specs.declared.profile.Profile.{Profile}
use Rattle.mz_ground.specs.Views.{SpanView}
use Rattle.mz_nano.specs.declared.nano.Nano.{Nano}
use Rattle.mz_nano.specs.declared.deal.Deal.{Deal}
use Rattle.mz_nano.specs.declared.seat.NanoSeat.{NanoSeat}
use Rattle.mz_nano.specs.declared.view.Held.{Held}
use Rattle.mz_nano.specs.SeatLists.{SitsAt, hand_of, space_of, first_of, blocks_of, most_gen_of, seats_of}
use Rattle.mz_book.specs.Account.{Account}
use Rattle.mz_zone.specs.Calling.{Seated, AtView}

-- nano with the seat, where both are there
abbrev pub seat_of : Option Nano → Option NanoSeat → Option Seated
seat_of None seat = None
seat_of (Some nano) None = None
seat_of (Some nano) (Some seat) = Some (record { nano = nano; seat = seat })

-- a book alone, where nano is not there
abbrev pub without_seat : Account → AtView
without_seat s = record { book = s; nano = None }

-- Nano over these pages, with the profile's blocks and last generation, and its one seat, with nothing in hand; it is there just where the
-- profile has pages for nano.
pub record IsNewSeat (pages : SpanView) (p : Profile) (nano : Nano) (seat : NanoSeat) : Type 0 where
  pub some_pages : 0 < p.nano
  pub sits : SitsAt nano seat
  pub hand : hand_of seat ≡ []
  pub first : first_of nano ≡ pages.first
  pub blocks : blocks_of nano ≡ p.nano
  pub most_gen : most_gen_of nano ≡ p.most_gen
  pub space : space_of nano ≡ pages.space
  pub seats : seats_of nano ≡ 1

abbrev pub IsSeatAt : SpanView → Profile → Option Seated → Type 0
IsSeatAt pages p None = p.nano ≡ 0
IsSeatAt pages p (Some x) = IsNewSeat pages p x.nano x.seat

-- nano has no other seat
abbrev pub HasOneSeat : Option Seated → Type 0
HasOneSeat None = Unit {0}
HasOneSeat (Some x) = seats_of x.nano ≡ 1

-- how a slot goes from the one seat to itself
abbrev pub deal_of : Held → Deal
deal_of h = record { block = h.block; slot = h.slot; from = 0; to = 0 }
