use Rattle.mz_threads_tests.proofs.FullCalls.{were_none, were_more, may_next}
use Rattle.mz_threads_tests.proofs.register.client.note_full_often.Goals as goal

pub loop-init : goal.loop-init
loop-init g c = were_none (g.B.Book.account c.args.book.now) c.requires.nothing_held

pub note_full-requires : goal.note_full-requires
note_full-requires g c = may_next (g.B.Book.account c.args.book.now) (g.B.Book.account c.loop.book) c.loop.counter c.loop-test.true c.requires c.loop.invariant

pub loop-preserved : goal.loop-preserved
loop-preserved g c = were_more (g.B.Book.account c.args.book.now) (g.B.Book.account c.loop.book) (g.B.Book.account c.note_full.new.book) c.loop.counter c.note_full.result c.loop.invariant c.note_full.ensures
