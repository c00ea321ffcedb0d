use Rattle.std.proofs.Common.{List, ap, ◌∙◌, ◌++◌, map}
use Rattle.mz_history.specs.declared.listing.LiveAt.{LiveAt}
use Rattle.mz_history.proofs.ListLemmas.{blocks_here}
use Rattle.mz_history.proofs.lists.push_live_of.Goals as goal

pub returns : goal.returns
returns c = c.in_ok-push_live.ensures ∙ ap (λ (l : List LiveAt). c.args.list.now.items ++ l) (blocks_here c.args.slot.now c.place.result c.deref.result.now c.place.ensures (ap (map _) c.deref.ensures.value ∙ c.in_ok-blocks.ensures))
