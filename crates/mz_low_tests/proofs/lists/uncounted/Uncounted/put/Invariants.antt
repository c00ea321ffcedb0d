use Rattle.mz_low_tests.proofs.lists.uncounted.Uncounted.put.Given as goal

abbrev pub ghosts-put_uncounted : goal.ghosts-put_uncounted
ghosts-put_uncounted g a = record { name = a.blank.name; parts = a.blank.parts }
