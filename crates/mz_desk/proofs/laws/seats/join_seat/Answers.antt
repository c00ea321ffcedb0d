use Rattle.mz_desk.proofs.SeatSteps.{joins}
use Rattle.mz_desk.proofs.laws.seats.join_seat.Goals as goal

pub returns : goal.returns
returns g c = λ key id other v w can. joins g.V.Keep.keeping key c.of_histories.ensures id other v w can
