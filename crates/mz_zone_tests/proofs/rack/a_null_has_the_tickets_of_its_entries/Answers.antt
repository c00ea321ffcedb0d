use Rattle.std.proofs.Common.{arith}
use Rattle.mz_zone_tests.proofs.rack.a_null_has_the_tickets_of_its_entries.Goals as goal

pub ask-requires-clause-can : goal.ask-requires-clause-can
ask-requires-clause-can g c = c.in_ok-book.ensures.first

pub ask-requires-clause-caller : goal.ask-requires-clause-caller
ask-requires-clause-caller g c = let n = c.in_ok-book.ensures.first_callers in omega arith

pub ask-requires-2-clause-can : goal.ask-requires-2-clause-can
ask-requires-2-clause-can g c = c.in_ok-ranged.ensures _ _ c.in_ok-book.ensures.first

pub ask-requires-2-clause-caller : goal.ask-requires-2-clause-caller
ask-requires-2-clause-caller g c = let n = c.in_ok-book.ensures.first_callers in omega arith
