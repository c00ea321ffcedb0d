use Rattle.mz_run.proofs.top.end.Goals as goal

pub returns-in-Ok-clause-ends : goal.returns-in-Ok-clause-ends
returns-in-Ok-clause-ends g c = rw c.in-Ok.is (rw (← c.deref.ensures.value) c.tell.ensures.said)
