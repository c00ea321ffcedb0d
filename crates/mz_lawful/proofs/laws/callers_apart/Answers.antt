use Rattle.mz_lawful.proofs.CallerLemmas.{own_is_found, others_are_found}
use Rattle.mz_lawful.proofs.laws.callers_apart.Goals as goal

pub returns-clause-own : goal.returns-clause-own
returns-clause-own c = own_is_found

pub returns-clause-others : goal.returns-clause-others
returns-clause-others c = others_are_found
