use Rattle.mz_events.proofs.SamenessLemmas.{alike}
use Rattle.mz_events.proofs.laws.states.same_states_are_alike.Goals as goal

pub returns : goal.returns
returns c = alike
