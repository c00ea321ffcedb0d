use Rattle.std.proofs.Common.{[]}
use Rattle.mz_session.proofs.CallLemmas.{can-ask, asked-aligned}
use Rattle.mz_session.proofs.session.Session.make_aligned.Goals as goal

pub ask-requires : goal.ask-requires
ask-requires g c = can-ask c.args.self.now [] c.requires

pub returns : goal.returns
returns g c = asked-aligned c.of_sessions.ensures c.args.self.now c.ask.new.self c.requires c.args.al c.args.n c.in_ok-got.got c.in_ok-got.ensures c.is_placed.ensures
