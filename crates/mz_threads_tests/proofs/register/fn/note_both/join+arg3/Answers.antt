use Rattle.mz_threads_tests.proofs.TwoPasses.{sits_full}
use Rattle.mz_threads_tests.proofs.register.fn.note_both.join+arg3.Goals as goal

pub returns : goal.returns
returns g c = record { sits = sits_full _ _ 1 1000 _ _ c.note_often.ensures c.requires.sits; noted = c.note_often.ensures }
