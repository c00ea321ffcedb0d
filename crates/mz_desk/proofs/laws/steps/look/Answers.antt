use Rattle.mz_desk.proofs.LockSteps.{looks}
use Rattle.mz_desk.proofs.laws.steps.look.Goals as goal

pub returns : goal.returns
returns g c = λ key slots id k me can. looks g.V.Keep.keeping key c.of_histories.ensures id me slots k can
