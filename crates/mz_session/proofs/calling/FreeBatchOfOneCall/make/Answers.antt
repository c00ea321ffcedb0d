use Rattle.mz_session.proofs.OneLemmas.{one-ended}
use Rattle.mz_session.proofs.calling.FreeBatchOfOneCall.make.Goals as goal

pub returns-clause-does : goal.returns-clause-does
returns-clause-does g c =
    one-ended _ _ _ c.args.self.block c.args.self.all.items c.push_reserved.new.self.items c.batch_free.new.all.items _ c.batch_free.ensures.frees c.requires.2 c.push_reserved.ensures.items
