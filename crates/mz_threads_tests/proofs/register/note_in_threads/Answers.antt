use Rattle.std.proofs.Common.{arith}
use Rattle.mz_threads_tests.proofs.TwoPasses.{may_when_ready}
use Rattle.mz_threads_tests.proofs.register.note_in_threads.Goals as goal

pub note_both-first-requires-clause-first : goal.note_both-first-requires-clause-first
note_both-first-requires-clause-first g c κs within = let r = c.in_ok-register.ensures in (r.first.sits, may_when_ready c.in_ok-register.register 0 1000 c.in_ok-register.first r.profile (omega arith) r.first)

pub note_both-first-requires-clause-second : goal.note_both-first-requires-clause-second
note_both-first-requires-clause-second g c κs within = let r = c.in_ok-register.ensures in (r.second.sits, may_when_ready c.in_ok-register.register 1 1000 c.in_ok-register.second r.profile (omega arith) r.second)
