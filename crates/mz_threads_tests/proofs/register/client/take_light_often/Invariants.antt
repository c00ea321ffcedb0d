use Rattle.mz_threads_tests.specs.Toys.{WasLit, with_first}
use Rattle.mz_threads_tests.proofs.register.client.take_light_often.Given as goal

abbrev pub invariant-loop : goal.invariant-loop
invariant-loop g l = WasLit (with_first (g.B.Book.account l.fn.book)) l.counter l.taken (g.B.Book.account l.book)
