use Rattle.mz_events.proofs.BoundLemmas.{live_bytes_fit}
use Rattle.mz_events.proofs.laws.separation.live_bytes_fit_the_space.Goals as goal

pub returns : goal.returns
returns c = live_bytes_fit
