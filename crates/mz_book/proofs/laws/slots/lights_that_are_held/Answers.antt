use Rattle.mz_book.proofs.LightLemmas.{has_lit, has_unlit, lit_and_unlit}
use Rattle.mz_book.proofs.laws.slots.lights_that_are_held.Goals as goal

pub returns-clause-taken : goal.returns-clause-taken
returns-clause-taken c = has_lit

pub returns-clause-given_back : goal.returns-clause-given_back
returns-clause-given_back c = has_unlit

pub returns-clause-both : goal.returns-clause-both
returns-clause-both c = lit_and_unlit
