use Rattle.std.proofs.Common.{rules}
use Rattle.std.proofs.lemmas.List.Sorted.{IsNonDecreasingBy-from_sort_by_key}
use Rattle.mz_events.specs.declared.entry.Entry.{Entry}
use Rattle.mz_history.proofs.verdict.sort_by_ticket.Goals as goal

pub returns-clause-sorted : goal.returns-clause-sorted
returns-clause-sorted c = IsNonDecreasingBy-from_sort_by_key (λ (e : Entry). e.ticket) _ c.in_ok-sort_by_key.ensures.sorted (λ a r f' k. search rules)
