use Rattle.std.proofs.Common.{◌≡◌, ◌++◌, map, drop}
use Rattle.mz_history.specs.Listed.{block_at_place}
use Rattle.mz_history.proofs.lists.push_live.Given as goal

abbrev pub invariant-loop-i : goal.invariant-loop-i
invariant-loop-i l = l.list.items ++ map (block_at_place l.k) (drop l.i l.blocks) ≡ l.initial.list.items ++ map (block_at_place l.k) l.blocks
