use Rattle.mz_events.proofs.EntryLemmas.{ticket_at, stays_in_order, lawful_in_order}
use Rattle.mz_events.proofs.laws.entries.tickets_are_indices.Goals as goal

pub returns-clause-index : goal.returns-clause-index
returns-clause-index c = ticket_at

pub returns-clause-in_order : goal.returns-clause-in_order
returns-clause-in_order c = stays_in_order

pub returns-clause-history : goal.returns-clause-history
returns-clause-history c = lawful_in_order
