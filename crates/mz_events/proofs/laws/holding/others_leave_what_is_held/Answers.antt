use Rattle.mz_events.proofs.EntryLemmas.{known_through}
use Rattle.mz_events.proofs.laws.holding.others_leave_what_is_held.Goals as goal

pub returns : goal.returns
returns c = known_through
