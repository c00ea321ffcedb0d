use Rattle.mz_zone_tests.proofs.rack.each_magazine_of_each_zone_has_its_region.Goals as goal

pub ask_both-requires-clause-first : goal.ask_both-requires-clause-first
ask_both-requires-clause-first g c = c.in_ok-book.ensures.first

pub ask_both-requires-clause-second : goal.ask_both-requires-clause-second
ask_both-requires-clause-second g c = c.in_ok-book.ensures.second

pub ask_both-requires-clause-first_callers : goal.ask_both-requires-clause-first_callers
ask_both-requires-clause-first_callers g c = c.in_ok-book.ensures.first_callers

pub ask_both-requires-clause-second_callers : goal.ask_both-requires-clause-second_callers
ask_both-requires-clause-second_callers g c = c.in_ok-book.ensures.second_callers
