use Rattle.mz_desk.proofs.DrawSteps.{draws_allowed}
use Rattle.mz_desk.proofs.laws.steps.draw_ticket.Goals as goal

pub returns : goal.returns
returns g c = λ key slots id me e can. draws_allowed g.V.Keep.keeping key c.of_histories.ensures slots id me e can
