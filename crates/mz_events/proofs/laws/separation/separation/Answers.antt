use Rattle.mz_events.proofs.Separation.{separate_after}
use Rattle.mz_events.proofs.laws.separation.separation.Goals as goal

pub returns : goal.returns
returns c = separate_after
