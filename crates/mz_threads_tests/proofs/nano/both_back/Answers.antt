use Rattle.std.proofs.Common.{List, sym, subst}
use Rattle.mz_nano.specs.declared.seat.NanoSeat.{NanoSeat}
use Rattle.mz_nano.specs.SeatLists.{AreAllOf}
use Rattle.mz_nano.proofs.AllLemmas.{all_two}
use Rattle.mz_threads_tests.proofs.nano.both_back.Goals as goal

pub returns : goal.returns
returns c = subst (λ (l : List NanoSeat). AreAllOf c.args.nano.now l) (sym c.in_ok-vec.ensures.items) (sym c.requires.count, all_two c.args.nano.now c.args.first c.args.second c.requires.one c.requires.two)
