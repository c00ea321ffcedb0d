use Rattle.mz_desk.proofs.EndLemmas.{ends}
use Rattle.mz_desk.proofs.laws.seats.end.Goals as goal

pub returns : goal.returns
returns g c = λ key s id v r at all. ends g.V.Keep.keeping key s r.0 r.1 id v at all
