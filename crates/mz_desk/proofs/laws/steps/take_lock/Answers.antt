use Rattle.mz_desk.proofs.LockSteps.{locks}
use Rattle.mz_desk.proofs.laws.steps.take_lock.Goals as goal

pub returns : goal.returns
returns g c = λ key slots id k me can. locks g.V.Keep.keeping key id me slots k can
