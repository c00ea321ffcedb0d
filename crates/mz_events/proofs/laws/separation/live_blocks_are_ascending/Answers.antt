use Rattle.mz_events.proofs.Separation.{ascending_after}
use Rattle.mz_events.proofs.laws.separation.live_blocks_are_ascending.Goals as goal

pub returns : goal.returns
returns c = ascending_after
