use Rattle.mz_desk.proofs.NanoSteps.{classes}
use Rattle.mz_desk.proofs.laws.steps.settle_class.Goals as goal

pub returns : goal.returns
returns g c = λ key slots id b class me can. classes g.V.Keep.keeping key c.of_histories.ensures id me slots b class can
