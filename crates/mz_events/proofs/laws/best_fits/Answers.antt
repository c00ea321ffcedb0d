use Rattle.mz_events.proofs.BestFitLemmas.{best_is, is_best, none_fits, none_by_none, own_best}
use Rattle.mz_events.proofs.laws.best_fits.Goals as goal

pub returns-clause-found : goal.returns-clause-found
returns-clause-found c cached w r = (best_is cached w r, is_best cached w r)

pub returns-clause-none : goal.returns-clause-none
returns-clause-none c cached w = (none_fits cached w, none_by_none cached w)

pub returns-clause-own : goal.returns-clause-own
returns-clause-own c cached w r h = is_best cached r.pages r (own_best cached w r (best_is cached w r h))
