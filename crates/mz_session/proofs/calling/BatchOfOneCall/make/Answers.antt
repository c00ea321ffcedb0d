use Rattle.mz_session.proofs.OneLemmas.{one-made}
use Rattle.mz_session.proofs.calling.BatchOfOneCall.make.Goals as goal

pub returns-clause-does : goal.returns-clause-does
returns-clause-does g c =
    let answers = c.in_ok-batch_malloc.ensures.answers in
    one-made _ _ _ _ c.args.self.out.items answers.0 c.batch_malloc.new.out.items c.pop.new.self.items c.in-Some.block _ answers.2 c.requires.1 answers.1 c.in-Some.ensures.items
