use Rattle.mz_session.proofs.InTurnLemmas.{unbatch-first, unbatch-on, unbatch-whole}
use Rattle.mz_session.proofs.session.Session.unbatch.Goals as goal

pub loop-index-init : goal.loop-index-init
loop-index-init g c = record { begun = unbatch-first c.args.self.now c.args.name c.requires }

pub take-requires : goal.take-requires
take-requires g c = c.loop-index.invariant.begun.kept

pub loop-index-preserved : goal.loop-index-preserved
loop-index-preserved g c =
    let first = c.in-Some.ensures in
    record {
      begun = unbatch-on c.args.self.now c.loop-index.self c.args.name c.loop-index.freed c.in-Some.index c.loop-index.invariant.begun first.first first.limit
          c.of_sessions.ensures c.take.new.self c.end_of_batch.new.self c.in-Some-take.block c.in-Some-take.ensures c.in_ok-end_of_batch.ensures c.is_lawful.ensures;
    }

pub returns : goal.returns
returns g c = unbatch-whole c.args.self.now c.loop-index.self c.args.name c.loop-index.freed c.loop-index.invariant.begun c.in_default.ensures.first
