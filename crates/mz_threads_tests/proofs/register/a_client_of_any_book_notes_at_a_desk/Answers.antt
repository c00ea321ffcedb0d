use Rattle.std.proofs.Common.{arith}
use Rattle.mz_threads_tests.proofs.TwoPasses.{may_when_ready}
use Rattle.mz_threads_tests.proofs.register.a_client_of_any_book_notes_at_a_desk.Goals as goal

pub note_at_desk-requires-clause-can : goal.note_at_desk-requires-clause-can
note_at_desk-requires-clause-can g c = let r = c.in_ok-register.ensures in may_when_ready c.in_ok-register.register 1 1 c.in_ok-register.second r.profile (omega arith) r.second

pub note_at_desk-requires-2-clause-can : goal.note_at_desk-requires-2-clause-can
note_at_desk-requires-2-clause-can g c = let r = c.in_ok-register.ensures in may_when_ready c.in_ok-register.register 0 1 c.in_ok-register.first r.profile (omega arith) r.first
