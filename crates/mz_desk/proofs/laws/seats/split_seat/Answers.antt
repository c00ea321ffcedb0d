use Rattle.mz_desk.proofs.SeatSteps.{splits}
use Rattle.mz_desk.proofs.laws.seats.split_seat.Goals as goal

pub returns : goal.returns
returns g c = λ key id v can. splits g.V.Keep.keeping key c.of_histories.ensures id v can
