use Rattle.std.proofs.Common.{arith}
use Rattle.mz_zone.specs.Calling.{AtView, seen}
use Rattle.mz_zone.proofs.Batched.{can_next, one_more, all_served, no_more, keeps_on}
use Rattle.mz_zone.proofs.zone.Zone.batch_malloc.Goals as goal

pub malloc-requires : goal.malloc-requires
malloc-requires g c =
    let v : AtView = seen g.B.Book.account c.args.at.now in
    let u : AtView = seen g.B.Book.account c.loop.at in
    record { can = can_next v u c.args.self.now.profile c.args.self.now.zone c.args.n c.loop.counter c.args.count c.args.out.now.items c.loop.out.items c.loop.invariant.begun (omega (arith, c.loop-test.true)) }

pub returns-in-Err-clause-answers : goal.returns-in-Err-clause-answers
returns-in-Err-clause-answers g c =
    let v : AtView = seen g.B.Book.account c.args.at.now in
    let u : AtView = seen g.B.Book.account c.loop.at in
    no_more v u c.args.self.now.profile c.args.self.now.zone c.args.n c.loop.counter c.args.count c.args.out.now.items c.loop.out.items c.loop.invariant.begun
    c.of_zones.ensures c.requires.can.serve.nothing_held c.requires.can.nano (seen g.B.Book.account c.malloc.new.at) c.in-Err.null (omega (arith, c.loop-test.true))
    c.of_book.ensures c.in-Err.ensures.answers

pub loop-preserved : goal.loop-preserved
loop-preserved g c =
    let v : AtView = seen g.B.Book.account c.args.at.now in
    let u : AtView = seen g.B.Book.account c.loop.at in
    record {
      begun = rw c.push_reserved.ensures.items
          (one_more v u c.args.self.now.profile c.args.self.now.zone c.args.n c.loop.counter c.args.count c.args.out.now.items c.loop.out.items c.loop.invariant.begun
          (seen g.B.Book.account c.malloc.new.at) c.in-Ok.block (omega (arith, c.loop-test.true)) c.in-Ok.ensures.answers);
      references = keeps_on c.args.at.now c.loop.at c.malloc.new.at c.loop.invariant.references c.malloc.ensures.references;
      room = omega (arith, c.push_reserved.ensures.len, c.push_reserved.ensures.capacity, c.loop.invariant.room, c.loop-test.true);
      within = omega (arith, c.loop-test.true);
    }

pub returns-clause-answers : goal.returns-clause-answers
returns-clause-answers g c =
    let v : AtView = seen g.B.Book.account c.args.at.now in
    let u : AtView = seen g.B.Book.account c.loop.at in
    all_served v u c.args.self.now.profile c.args.self.now.zone c.args.n c.loop.counter c.args.count c.args.out.now.items c.loop.out.items c.loop.invariant.begun
    c.of_zones.ensures c.requires.can.serve.nothing_held c.requires.can.nano (omega (arith, c.loop-test.false, c.loop.invariant.within)) c.of_book-2.ensures
