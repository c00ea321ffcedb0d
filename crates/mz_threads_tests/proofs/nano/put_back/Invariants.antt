use Rattle.std.proofs.Common.{◌≡◌}
use Rattle.mz_nano.specs.Lists.{In}
use Rattle.mz_nano.specs.Rule.{held}
use Rattle.mz_nano.specs.SeatLists.{SitsAt, space_of, first_of, hand_of}
use Rattle.mz_threads_tests.proofs.nano.put_back.Given as goal

abbrev pub invariant-loop : goal.invariant-loop
invariant-loop l = record {
  one : SitsAt l.nano l.seat;
  mine : In (held l.slot.block l.slot.slot l.slot.class) (hand_of l.seat);
  space : l.slot.span.space ≡ space_of l.nano;
  base : l.slot.base ≡ first_of l.nano;
}
