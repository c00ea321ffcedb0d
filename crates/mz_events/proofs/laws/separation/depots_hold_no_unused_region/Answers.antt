use Rattle.mz_events.proofs.Depots.{all_used}
use Rattle.mz_events.proofs.laws.separation.depots_hold_no_unused_region.Goals as goal

pub returns : goal.returns
returns c = all_used
