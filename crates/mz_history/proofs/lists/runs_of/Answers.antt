use Rattle.std.proofs.Common.{map, arith}
use Rattle.std.specs.List.{flat_map}
use Rattle.mz_history.specs.Listed.{run_listed, runs_of_slot}
use Rattle.mz_history.proofs.ListLemmas.{more_listed, all_listed}
use Rattle.mz_history.proofs.lists.runs_of.Goals as goal

pub loop-slot-preserved : goal.loop-slot-preserved
loop-slot-preserved c = more_listed runs_of_slot run_listed c.args.slots.now c.loop-slot.slot-index c.slot-item.result (map run_listed (flat_map runs_of_slot c.args.slots.now)) c.loop-slot.list.items c.push_runs_of.new.list.items c.loop-slot-test.true c.slot-item.is c.loop-slot.invariant c.in_ok-push_runs_of.ensures

pub returns : goal.returns
returns c = all_listed runs_of_slot run_listed c.args.slots.now c.loop-slot.slot-index (map run_listed (flat_map runs_of_slot c.args.slots.now)) c.loop-slot.list.items (let over = c.loop-slot-test.false in omega arith) c.loop-slot.invariant
