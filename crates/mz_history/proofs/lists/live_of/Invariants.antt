use Rattle.std.proofs.Common.{◌≡◌, ◌++◌, map, drop}
use Rattle.std.specs.List.{flat_map}
use Rattle.mz_history.specs.Listed.{block_listed, blocks_of_slot}
use Rattle.mz_history.proofs.lists.live_of.Given as goal

abbrev pub invariant-loop-slot : goal.invariant-loop-slot
invariant-loop-slot l = l.list.items ++ map block_listed (flat_map blocks_of_slot (drop l.slot-index l.slots)) ≡ map block_listed (flat_map blocks_of_slot l.slots)
