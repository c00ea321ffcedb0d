use Rattle.std.proofs.Common.{List, ap, ◌∙◌, ◌++◌, map}
use Rattle.mz_history.specs.declared.listing.RunAt.{RunAt}
use Rattle.mz_history.proofs.ListLemmas.{runs_here}
use Rattle.mz_history.proofs.lists.push_runs_of.Goals as goal

pub returns : goal.returns
returns c = c.in_ok-push_runs.ensures ∙ ap (λ (l : List RunAt). c.args.list.now.items ++ l) (runs_here c.args.slot.now c.place.result c.deref.result.now c.place.ensures (ap (map _) c.deref.ensures.value ∙ c.in_ok-runs.ensures))
