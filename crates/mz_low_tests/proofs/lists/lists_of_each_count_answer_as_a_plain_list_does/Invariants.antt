use Rattle.mz_low_tests.proofs.lists.lists_of_each_count_answer_as_a_plain_list_does.Given as goal

abbrev pub ghosts-calls_at_each_count : goal.ghosts-calls_at_each_count
ghosts-calls_at_each_count g a = record { name = a.blank.name; parts = a.blank.parts }
