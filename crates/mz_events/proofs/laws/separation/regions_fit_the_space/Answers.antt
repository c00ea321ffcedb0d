use Rattle.mz_events.proofs.BoundLemmas.{regions_fit}
use Rattle.mz_events.proofs.laws.separation.regions_fit_the_space.Goals as goal

pub returns : goal.returns
returns c = regions_fit
