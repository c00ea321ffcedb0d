use Rattle.mz_desk.proofs.OpenSteps.{opens}
use Rattle.mz_desk.proofs.laws.seats.open.Goals as goal

pub returns : goal.returns
returns g c = λ key words keepers can. opens g.V.Keep.keeping key words keepers can
