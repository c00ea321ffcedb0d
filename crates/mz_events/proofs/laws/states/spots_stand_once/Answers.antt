use Rattle.mz_events.proofs.SamenessLemmas.{opening_once, after_once, after_all_once}
use Rattle.mz_events.proofs.laws.states.spots_stand_once.Goals as goal

pub returns-clause-at_first : goal.returns-clause-at_first
returns-clause-at_first c = opening_once

pub returns-clause-after_event : goal.returns-clause-after_event
returns-clause-after_event c = after_once

pub returns-clause-after_entries : goal.returns-clause-after_entries
returns-clause-after_entries c = after_all_once
