use Rattle.mz_low_tests.proofs.lists.all_quanta_are_one_member_at_either_width.Given as goal

abbrev pub ghosts-whole_and_none : goal.ghosts-whole_and_none
ghosts-whole_and_none g a = record { name = a.blank.name; parts = a.blank.parts }
