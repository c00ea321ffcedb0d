use Rattle.std.proofs.Common.{◌≡◌, rules}
use Rattle.std.proofs.lemmas.Fn.{always_returns_same}
use Rattle.mz_history.specs.declared.listing.LiveAt.{LiveAt}
use Rattle.mz_history.proofs.lists.sort_live.Goals as goal

pub returns-clause-ascending : goal.returns-clause-ascending
returns-clause-ascending c = c.in_ok-sort_by_key.ensures.sorted (λ (x : LiveAt). x.a) (always_returns_same _ (λ a r. r ≡ a.0.now.a) _ (λ a r f' k. search rules))
