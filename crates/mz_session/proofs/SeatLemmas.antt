-- Nano with the seat, as a call has them behind references, is nano with the seat that a session has.
use Rattle.std.proofs.Common.{◌≡◌, Option, Some, None, refl, ap, ◌∙◌}
use Rattle.std.specs.Borrow.{Bor, MutBor}
use Rattle.std.specs.Option.{option_zip, option_copied, option_copied_mut}
use Rattle.mz_nano.specs.declared.nano.Nano.{Nano}
use Rattle.mz_nano.specs.declared.seat.NanoSeat.{NanoSeat}
use Rattle.mz_zone.specs.Calling.{seated}
use Rattle.mz_session.specs.Seats.{seat_of}

seated-zip : (x : Option (Bor Nano)) (y : Option (MutBor NanoSeat)) → seated (option_zip x y) ≡ seat_of (option_copied x) (option_copied_mut y)
seated-zip None y = refl
seated-zip (Some x) None = refl
seated-zip (Some x) (Some y) = refl

pub seated-at :
    (nano : Option Nano) (seat : Option NanoSeat) (x : Option (Bor Nano)) (y : Option (MutBor NanoSeat)) (z : Option (Bor Nano × MutBor NanoSeat))
    → z ≡ option_zip x y → option_copied x ≡ nano → option_copied_mut y ≡ seat → seated z ≡ seat_of nano seat
seated-at nano seat x y z zipped of_nano of_seat =
    ap seated zipped ∙ seated-zip x y ∙ ap (λ o. seat_of o (option_copied_mut y)) of_nano ∙ ap (λ o. seat_of nano o) of_seat
