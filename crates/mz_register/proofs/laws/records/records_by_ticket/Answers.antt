use Rattle.mz_register.proofs.RecordLemmas.{records_sorted, sorted_join}
use Rattle.mz_register.proofs.laws.records.records_by_ticket.Goals as goal

pub returns-clause-sorted : goal.returns-clause-sorted
returns-clause-sorted c = records_sorted

pub returns-clause-joined : goal.returns-clause-joined
returns-clause-joined c = sorted_join
