use Rattle.mz_nano.specs.SeatLists.{SitsAt}
use Rattle.mz_threads_tests.proofs.nano.take_turns.Given as goal

abbrev pub invariant-loop : goal.invariant-loop
invariant-loop l = record {
  one : SitsAt l.nano l.seat;
}
