use Rattle.std.proofs.Common.{◌-◌, ◌*◌, ◌≤◌, length}
use Rattle.mz_nano.specs.SeatLists.{AllIdle, Alone}
use Rattle.mz_nano.proofs.nano.Nano.join_all.Given as goal

abbrev pub invariant-loop-other : goal.invariant-loop-other
invariant-loop-other l = record {
  idle : AllIdle l.self.table.shared.table_id l.self.table.shared.key l.seats.items;
  fewer : length l.seats.items ≤ length l.fn.seats.items;
  alone : Alone l.self.table.shared.table_id l.self.table.shared.key (2 * length l.fn.seats.items - 2 * length l.seats.items) l.all;
}

abbrev pub decreases-loop-other : goal.decreases-loop-other
decreases-loop-other l = length l.seats.items
