use Rattle.mz_events.proofs.LeavingLemmas.{leaves_by_event, found_full}
use Rattle.mz_events.proofs.laws.events.what_an_event_changes.Goals as goal

pub returns-clause-leaves : goal.returns-clause-leaves
returns-clause-leaves c = leaves_by_event

pub returns-clause-found : goal.returns-clause-found
returns-clause-found c = found_full
