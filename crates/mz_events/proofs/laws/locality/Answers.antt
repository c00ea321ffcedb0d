use Rattle.mz_events.proofs.LocalityLemmas.{all_local}
use Rattle.mz_events.proofs.laws.locality.Goals as goal

pub returns : goal.returns
returns c = all_local
