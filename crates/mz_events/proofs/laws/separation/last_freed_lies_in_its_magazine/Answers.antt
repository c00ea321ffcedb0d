use Rattle.mz_events.proofs.Separation.{freed_after}
use Rattle.mz_events.proofs.laws.separation.last_freed_lies_in_its_magazine.Goals as goal

pub returns : goal.returns
returns c = freed_after
