use Rattle.mz_threads_tests.proofs.TwoPasses.{sits_lit}
use Rattle.mz_threads_tests.proofs.register.fn.light_both.join+arg3.Goals as goal

pub returns : goal.returns
returns c = record { sits = sits_lit _ _ 1 _ _ _ c.light_often.ensures c.requires.sits; lit = c.light_often.ensures }
