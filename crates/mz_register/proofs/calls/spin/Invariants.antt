use Rattle.std.proofs.Common.{◌≡◌, ◌++◌, take, drop}
use Rattle.mz_register.proofs.calls.spin.Given as goal

abbrev pub invariant-loop-i : goal.invariant-loop-i
invariant-loop-i g l = record {
  table : l.seat.table_id ≡ l.initial.seat.table_id;
  view : l.seat.me.0 ≡ l.initial.seat.me.0;
  carried : l.seat.me.1 ≡ drop l.i l.initial.seat.me.1 ++ take l.i l.initial.seat.me.1;
}
