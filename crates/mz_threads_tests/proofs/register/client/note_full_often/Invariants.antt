use Rattle.mz_threads_tests.specs.Toys.{WereFull}
use Rattle.mz_threads_tests.proofs.register.client.note_full_often.Given as goal

abbrev pub invariant-loop : goal.invariant-loop
invariant-loop g l = WereFull (g.B.Book.account l.fn.book) l.counter (g.B.Book.account l.book)
