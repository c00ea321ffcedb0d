use Rattle.std.proofs.Common.{◌*◌, sym, subst, ◌∙◌}
use Rattle.mz_zone.specs.Calling.{AtView, CanCall, seen}
use Rattle.mz_zone.proofs.Batched.{keeps_all, keeps_on}
use Rattle.mz_zone.proofs.Ended.{at_first, all_ended, can_free, next_handed, one_ended, one_denied}
use Rattle.mz_zone.proofs.zone.Zone.batch_free.Goals as goal

pub loop-b-init : goal.loop-b-init
loop-b-init g c =
    let v : AtView = seen g.B.Book.account c.args.at.now in
    record {
      begun = at_first v c.args.self.now.profile c.args.self.now.zone c.args.all.now.items c.reverse.new.self.items c.reverse.ensures.items
          (subst (λ n. CanCall v c.args.self.now.profile c.args.self.now.zone (40 * n)) c.args.all.now.ok.0 c.requires.can) c.of_book.ensures;
      references = keeps_all c.args.at.now;
    }

pub free-freed-requires : goal.free-freed-requires
free-freed-requires g c =
    let v : AtView = seen g.B.Book.account c.args.at.now in
    let u : AtView = seen g.B.Book.account c.loop-b.at in
    record {
      can = can_free c.of_zones.ensures v u c.args.self.now.profile c.args.self.now.zone c.args.all.now.items c.loop-b.all.items
          c.requires.can.serve.nothing_held c.requires.can.nano c.loop-b.invariant.begun c.in-Some.b c.pop.new.self.items c.in-Some.ensures.items;
      block = next_handed c.of_zones.ensures v u c.args.self.now.profile c.args.self.now.zone c.args.all.now.items c.loop-b.all.items
          c.requires.can.serve.nothing_held c.requires.can.nano c.loop-b.invariant.begun c.in-Some.b c.pop.new.self.items c.in-Some.ensures.items
          c.requires.blocks c.keeps_its_place.ensures;
    }

pub loop-b-preserved : goal.loop-b-preserved
loop-b-preserved g c =
    let v : AtView = seen g.B.Book.account c.args.at.now in
    let u : AtView = seen g.B.Book.account c.loop-b.at in
    record {
      begun = one_ended c.of_zones.ensures v u c.args.self.now.profile c.args.self.now.zone c.args.all.now.items c.loop-b.all.items
          c.requires.can.serve.nothing_held c.requires.can.nano c.loop-b.invariant.begun c.in-Some.b c.pop.new.self.items c.in-Some.ensures.items
          (seen g.B.Book.account c.free-freed.new.at) c.keeps_its_place.ensures c.in-Ok.ensures.frees c.of_book-in-Some.ensures;
      references = keeps_on c.args.at.now c.loop-b.at c.free-freed.new.at c.loop-b.invariant.references c.free-freed.ensures.references;
    }

pub returns-in-Err-clause-frees : goal.returns-in-Err-clause-frees
returns-in-Err-clause-frees g c =
    let v : AtView = seen g.B.Book.account c.args.at.now in
    let u : AtView = seen g.B.Book.account c.loop-b.at in
    one_denied c.of_zones.ensures v u c.args.self.now.profile c.args.self.now.zone c.args.all.now.items c.loop-b.all.items
    c.requires.can.serve.nothing_held c.requires.can.nano c.loop-b.invariant.begun c.in-Some.b c.pop.new.self.items c.in-Some.ensures.items
    (seen g.B.Book.account c.free-freed.new.at) c.in-Err.fault c.reverse-in-Err.new.self.items c.reverse-in-Err.ensures.items c.in-Err.ensures.frees c.of_book-in-Some.ensures

pub returns-clause-frees : goal.returns-clause-frees
returns-clause-frees g c =
    let v : AtView = seen g.B.Book.account c.args.at.now in
    let u : AtView = seen g.B.Book.account c.loop-b.at in
    all_ended c.of_zones.ensures v u c.args.self.now.profile c.args.self.now.zone c.args.all.now.items c.loop-b.all.items
    c.requires.can.serve.nothing_held c.requires.can.nano c.loop-b.invariant.begun c.pop.new.self.items c.in_default.ensures.items (sym c.pop.new.self.ok.0 ∙ c.in_default.ensures.cases.1)
