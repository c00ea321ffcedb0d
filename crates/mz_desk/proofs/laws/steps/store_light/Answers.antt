use Rattle.mz_desk.proofs.NanoSteps.{stores}
use Rattle.mz_desk.proofs.laws.steps.store_light.Goals as goal

pub returns : goal.returns
returns g c = λ key slots id b j word me can. stores g.V.Keep.keeping key c.of_histories.ensures id me slots b j word can
