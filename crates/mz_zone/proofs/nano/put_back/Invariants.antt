use Rattle.std.proofs.Common.{◌≡◌}
use Rattle.mz_nano.specs.SeatLists.{hand_of}
use Rattle.mz_zone.specs.Making.{IsSameSeat}
use Rattle.mz_zone.proofs.nano.put_back.Given as goal

-- the slot is still to be put back, and its seat is as before
abbrev pub invariant-loop : goal.invariant-loop
invariant-loop g l = record {
  slot : l.left ≡ l.fn.slot;
  same : IsSameSeat l.nano l.fn.seat l.seat;
  hand : hand_of l.seat ≡ hand_of l.fn.seat;
}
