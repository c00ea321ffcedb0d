use Rattle.mz_events.proofs.SamenessLemmas.{by_spot}
use Rattle.mz_events.proofs.laws.states.lists_are_by_spot.Goals as goal

pub returns : goal.returns
returns c = by_spot
