use Rattle.mz_session.proofs.CallLemmas.{can-hand-in, asked-ends, asked-denied}
use Rattle.mz_session.proofs.session.Session.end_of_batch.Goals as goal

pub ask-requires : goal.ask-requires
ask-requires g c = λ orderly b room many.
    let both = can-hand-in c.of_sessions.ensures c.args.self.now c.args.block c.requires orderly b room many in
    (both.0, both.1, c.in_ok-all.ensures.items, c.in_ok-all.ensures.capacity)

pub returns : goal.returns
returns g c = asked-ends c.of_sessions.ensures c.args.self.now c.ask.new.self c.args.block c.requires c.in_ok-ask.field-0 c.in-Ok.field-0 c.in-Ok.is c.in_ok-ask.ensures

pub unreachable-requires : goal.unreachable-requires
unreachable-requires g c = asked-denied c.args.self.now c.ask.new.self c.args.block c.requires c.in_ok-ask.field-0 c.in-Err._not_live c.in-Err.is c.in_ok-ask.ensures
