use Rattle.mz_events.proofs.Cached.{few_cached, ever_cached}
use Rattle.mz_events.proofs.laws.separation.few_are_cached.Goals as goal

pub returns-clause-calm : goal.returns-clause-calm
returns-clause-calm c = few_cached

pub returns-clause-ever : goal.returns-clause-ever
returns-clause-ever c = ever_cached
