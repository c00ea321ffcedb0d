use Rattle.std.proofs.Common.{◌≡◌, length, map, drop}
use Rattle.mz_nano.specs.SeatLists.{AllOf}
use Rattle.mz_nano.specs.Deals.{hands_of, counts_of, dealt, CanDeal}
use Rattle.mz_nano.proofs.nano.Nano.deal.Given as goal

abbrev pub invariant-loop-deal : goal.invariant-loop-deal
invariant-loop-deal l = record {
  all : AllOf l.self.table.shared.table_id l.self.table.shared.key l.seats.items;
  len : length l.seats.items ≡ length l.initial.seats.items;
  can : CanDeal (drop l.deal-index l.moves) (hands_of l.seats.items);
  hands : dealt (drop l.deal-index l.moves) (hands_of l.seats.items) ≡ dealt l.moves (hands_of l.initial.seats.items);
  counts : map counts_of l.seats.items ≡ map counts_of l.initial.seats.items;
}
