use Rattle.std.proofs.Common.{◌≡◌, ◌∷◌, None, ◌+◌, ◌-◌, ◌*◌}
use Rattle.atomic_table.specs.Table.{rest}
use Rattle.mz_nano.specs.Rule.{IsPiece}
use Rattle.mz_nano.specs.CallEffects.{cut_view}
use Rattle.mz_nano.proofs.nano.Nano.cut_all.Given as goal

abbrev pub invariant-loop-k : goal.invariant-loop-k
invariant-loop-k l = record {
  table : l.seat.table_id ≡ l.initial.seat.table_id;
  view : l.seat.me.0 ≡ cut_view l.initial.seat.me.0 l.b l.class l.k;
  carried : l.seat.me.1 ≡ (l.b * 1025 + l.k, None) ∷ rest l.initial.seat.me.1;
  left : IsPiece l.initial.seat.me.0.geometry l.b (16 * l.class * l.k) (16384 - 16 * l.class * l.k) l.left;
}
