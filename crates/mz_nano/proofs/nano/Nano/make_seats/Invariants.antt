use Rattle.std.proofs.Common.{◌≡◌, ◌+◌, ◌-◌, ◌*◌, length, []}
use Rattle.mz_nano.specs.Rule.{first_view}
use Rattle.mz_nano.specs.CallEffects.{IsSeatOf}
use Rattle.mz_nano.specs.SeatLists.{AllNew}
use Rattle.mz_nano.proofs.nano.Nano.make_seats.Given as goal

abbrev pub invariant-loop-i : goal.invariant-loop-i
invariant-loop-i l = record {
  one : IsSeatOf l.self.table.shared.table_id l.self.table.shared.key l.seat;
  view : l.seat.me.0 ≡ record (first_view l.self.table.shared.key) { parts = 2 * l.seats + 2 - 2 * l.i };
  carried : l.seat.me.1 ≡ [];
  list : AllNew l.self.table.shared.table_id l.self.table.shared.key 1 l.list.items;
  len : length l.list.items + 1 ≡ l.i;
}
