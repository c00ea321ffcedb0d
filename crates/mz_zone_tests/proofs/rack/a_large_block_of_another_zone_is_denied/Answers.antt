use Rattle.std.proofs.Common.{arith}
use Rattle.mz_zone_tests.proofs.rack.a_large_block_of_another_zone_is_denied.Goals as goal

pub ask_and_deny-requires-clause-owner : goal.ask_and_deny-requires-clause-owner
ask_and_deny-requires-clause-owner g c = c.in_ok-book.ensures.second

pub ask_and_deny-requires-clause-other : goal.ask_and_deny-requires-clause-other
ask_and_deny-requires-clause-other g c = c.in_ok-book.ensures.first

pub ask_and_deny-requires-clause-caller : goal.ask_and_deny-requires-clause-caller
ask_and_deny-requires-clause-caller g c = let n = c.in_ok-book.ensures.second_callers in omega arith
