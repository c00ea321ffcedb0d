use Rattle.std.proofs.Common.{◌≡◌, rules}
use Rattle.std.proofs.lemmas.Fn.{always_returns_same}
use Rattle.mz_history.specs.declared.listing.RunAt.{RunAt}
use Rattle.mz_history.proofs.lists.sort_runs.Goals as goal

pub returns-clause-ascending : goal.returns-clause-ascending
returns-clause-ascending c = c.in_ok-sort_by_key.ensures.sorted (λ (x : RunAt). x.first) (always_returns_same _ (λ a r. r ≡ a.0.now.first) _ (λ a r f' k. search rules))
