use Rattle.mz_events.proofs.LocalityLemmas.{value_at-after, value_at-touched, value_at-untouched}
use Rattle.mz_events.proofs.laws.holding.what_an_event_leaves.Goals as goal

pub returns-clause-touched : goal.returns-clause-touched
returns-clause-touched c = value_at-touched

pub returns-clause-untouched : goal.returns-clause-untouched
returns-clause-untouched c = value_at-untouched

pub returns-clause-either : goal.returns-clause-either
returns-clause-either c = value_at-after
