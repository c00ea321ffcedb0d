use Rattle.std.proofs.Common.{◌≡◌, ◌≤◌}
use Rattle.mz_nano.specs.CallEffects.{Scan}
use Rattle.mz_nano.proofs.nano.Nano.scan.Given as goal

abbrev pub invariant-loop-b : goal.invariant-loop-b
invariant-loop-b l = record {
  table : l.seat.table_id ≡ l.initial.seat.table_id;
  most : l.fresh ≤ l.self.blocks;
  scan : Scan l.initial.seat.me l.seat.me l.class l.b l.fresh;
}
