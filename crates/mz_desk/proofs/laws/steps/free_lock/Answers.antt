use Rattle.mz_desk.proofs.LockSteps.{frees}
use Rattle.mz_desk.proofs.laws.steps.free_lock.Goals as goal

pub returns : goal.returns
returns g c = λ key slots id k me x can. frees g.V.Keep.keeping key c.of_histories.ensures id me slots k x can
