use Rattle.std.proofs.Common.{◌≡◌, rules}
use Rattle.std.proofs.lemmas.Fn.{always_returns_same}
use Rattle.std.proofs.lemmas.List.Sorted.{IsNonDecreasingBy-from_sort}
use Rattle.mz_trace.specs.declared.tail.Listed.{Listed}
use Rattle.mz_session.proofs.listing.sort.Goals as goal

pub returns-clause-ascending : goal.returns-clause-ascending
returns-clause-ascending c =
    IsNonDecreasingBy-from_sort (λ (x : Listed). x.a) _
    (c.sort_unstable_by_key.ensures.sorted (λ (x : Listed). x.a) (always_returns_same _ (λ a r. r ≡ a.0.now.a) _ (λ a r f' k. search rules)))
