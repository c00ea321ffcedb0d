use Rattle.mz_events.proofs.BoundLemmas.{runs_fit}
use Rattle.mz_events.proofs.laws.separation.runs_fit_the_space.Goals as goal

pub returns : goal.returns
returns c = runs_fit
