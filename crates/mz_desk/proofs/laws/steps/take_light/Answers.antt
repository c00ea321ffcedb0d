use Rattle.mz_desk.proofs.NanoSteps.{lights}
use Rattle.mz_desk.proofs.laws.steps.take_light.Goals as goal

pub returns : goal.returns
returns g c = λ key slots id b j expect me can. lights g.V.Keep.keeping key c.of_histories.ensures id me slots b j expect can
