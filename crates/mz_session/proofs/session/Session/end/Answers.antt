use Rattle.mz_session.proofs.CallLemmas.{can-hand-in, asked-ends, asked-denied}
use Rattle.mz_session.proofs.session.Session.end.Goals as goal

pub ask-requires : goal.ask-requires
ask-requires g c = can-hand-in c.of_sessions.ensures c.args.self.now c.args.block c.requires

pub returns : goal.returns
returns g c = asked-ends c.of_sessions.ensures c.args.self.now c.ask.new.self c.args.block c.requires c.in_ok-ask.field-0 c.in-Ok.field-0 c.in-Ok.is c.in_ok-ask.ensures

pub unreachable-requires : goal.unreachable-requires
unreachable-requires g c = asked-denied c.args.self.now c.ask.new.self c.args.block c.requires c.in_ok-ask.field-0 c.in-Err._not_live c.in-Err.is c.in_ok-ask.ensures
