use Rattle.mz_events.proofs.EntryLemmas.{after_all-none, after_all-one, after_all-append, entries-after_all, untouched_stays}
use Rattle.mz_events.proofs.laws.entries.states_split.Goals as goal

pub returns-clause-none : goal.returns-clause-none
returns-clause-none c = after_all-none

pub returns-clause-one : goal.returns-clause-one
returns-clause-one c = after_all-one

pub returns-clause-joined : goal.returns-clause-joined
returns-clause-joined c = after_all-append

pub returns-clause-counted : goal.returns-clause-counted
returns-clause-counted c = entries-after_all

pub returns-clause-untouched : goal.returns-clause-untouched
returns-clause-untouched c = untouched_stays
