use Rattle.mz_events.proofs.SamenessLemmas.{same-refl, same-sym, same-trans}
use Rattle.mz_events.proofs.laws.states.sameness_is_an_equality.Goals as goal

pub returns-clause-itself : goal.returns-clause-itself
returns-clause-itself c = same-refl

pub returns-clause-turned : goal.returns-clause-turned
returns-clause-turned c = same-sym

pub returns-clause-joined : goal.returns-clause-joined
returns-clause-joined c = same-trans
