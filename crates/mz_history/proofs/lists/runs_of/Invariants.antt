use Rattle.std.proofs.Common.{◌≡◌, ◌++◌, map, drop}
use Rattle.std.specs.List.{flat_map}
use Rattle.mz_history.specs.Listed.{run_listed, runs_of_slot}
use Rattle.mz_history.proofs.lists.runs_of.Given as goal

abbrev pub invariant-loop-slot : goal.invariant-loop-slot
invariant-loop-slot l = l.list.items ++ map run_listed (flat_map runs_of_slot (drop l.slot-index l.slots)) ≡ map run_listed (flat_map runs_of_slot l.slots)
