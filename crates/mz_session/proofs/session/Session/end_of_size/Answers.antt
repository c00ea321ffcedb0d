use Rattle.mz_session.proofs.CallLemmas.{can-hand-in, asked-ends-of-size}
use Rattle.mz_session.proofs.session.Session.end_of_size.Goals as goal

pub ask-requires : goal.ask-requires
ask-requires g c = can-hand-in c.of_sessions.ensures c.args.self.now c.args.block c.requires

pub returns : goal.returns
returns g c = asked-ends-of-size c.of_sessions.ensures c.args.self.now c.ask.new.self c.args.block c.requires c.args.n c.in_ok-got.got c.in_ok-got.ensures
