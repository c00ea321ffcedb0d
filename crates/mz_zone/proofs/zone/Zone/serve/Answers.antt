use Rattle.std.proofs.Common.{Ok, Err, subst}
use Rattle.mz_rack.specs.Serving.{Answers as Racked}
use Rattle.mz_zone.specs.Calling.{AtView, seen}
use Rattle.mz_zone.specs.Answering.{Answers}
use Rattle.mz_zone.proofs.Serving.{IsPassed, by_slot, slot_placed, passed, can_serve, can_try, by_lot}
use Rattle.mz_zone.proofs.zone.Zone.serve.Goals as goal

pub try_nano-requires : goal.try_nano-requires
try_nano-requires g c = record { can = can_try (seen g.B.Book.account c.args.at.now) c.args.self.now.profile c.args.self.now.zone c.requires.can }

pub of_slot-requires : goal.of_slot-requires
of_slot-requires g c =
    let v : AtView = seen g.B.Book.account c.args.at.now in
    slot_placed c.of_zones.ensures v _ v.book.profile c.args.self.now.zone c.args.n c.args.al
    (can_try v c.args.self.now.profile c.args.self.now.zone c.requires.can) c.in-Some.slot c.in-Some.ensures.takes

pub alloc-requires : goal.alloc-requires
alloc-requires g c =
    let v : AtView = seen g.B.Book.account c.args.at.now in
    let u : AtView = seen g.B.Book.account c.try_nano.new.at in
    let may = can_try v c.args.self.now.profile c.args.self.now.zone c.requires.can in
    let pass : IsPassed c.of_zones.ensures v u v.book.profile c.args.self.now.zone c.args.n c.args.al may =
    passed c.of_zones.ensures v u v.book.profile c.args.self.now.zone c.args.n c.args.al may c.in_default.ensures.takes in
    record {
      can = can_serve v u c.args.self.now.profile c.args.self.now.rack.profile c.args.self.now.rack.zone c.args.self.now.zone c.requires.can pass.goes
          c.args.self.now.of_profile c.args.self.now.of_zone;
      power = c.requires.power;
      range = c.requires.range;
    }

pub returns-in-Some-clause-answers : goal.returns-in-Some-clause-answers
returns-in-Some-clause-answers g c =
    let v : AtView = seen g.B.Book.account c.args.at.now in
    let w : AtView = seen g.B.Book.account c.try_nano.new.at in
    let h : Answers v c.args.self.now.zone c.args.n c.args.al _ w =
    by_slot c.of_zones.ensures v w v.book.profile c.args.self.now.zone c.args.n c.args.al
    (can_try v c.args.self.now.profile c.args.self.now.zone c.requires.can) c.in-Some.slot c.in-Some.ensures.takes in
    rw c.of_slot.ensures h

pub returns-in-Ok-clause-answers : goal.returns-in-Ok-clause-answers
returns-in-Ok-clause-answers g c =
    let v : AtView = seen g.B.Book.account c.args.at.now in
    let u : AtView = seen g.B.Book.account c.try_nano.new.at in
    let may = can_try v c.args.self.now.profile c.args.self.now.zone c.requires.can in
    let pass : IsPassed c.of_zones.ensures v u v.book.profile c.args.self.now.zone c.args.n c.args.al may =
    passed c.of_zones.ensures v u v.book.profile c.args.self.now.zone c.args.n c.args.al may c.in_default.ensures.takes in
    let r : Racked u.book c.args.self.now.zone c.args.n c.args.al (Ok c.in-Ok.lot) (g.B.Book.account c.alloc.new.book) =
    subst (λ z. Racked u.book z c.args.n c.args.al (Ok c.in-Ok.lot) (g.B.Book.account c.alloc.new.book)) c.args.self.now.of_zone c.in-Ok.ensures in
    rw c.of_lot.ensures
    (by_lot c.of_zones.ensures v u (g.B.Book.account c.alloc.new.book) c.args.self.now.zone c.args.n c.args.al pass.goes pass.hand pass.tries (Ok c.in-Ok.lot) r)

pub returns-in-Err-clause-answers : goal.returns-in-Err-clause-answers
returns-in-Err-clause-answers g c =
    let v : AtView = seen g.B.Book.account c.args.at.now in
    let u : AtView = seen g.B.Book.account c.try_nano.new.at in
    let may = can_try v c.args.self.now.profile c.args.self.now.zone c.requires.can in
    let pass : IsPassed c.of_zones.ensures v u v.book.profile c.args.self.now.zone c.args.n c.args.al may =
    passed c.of_zones.ensures v u v.book.profile c.args.self.now.zone c.args.n c.args.al may c.in_default.ensures.takes in
    let r : Racked u.book c.args.self.now.zone c.args.n c.args.al (Err c.in-Err.null) (g.B.Book.account c.alloc.new.book) =
    subst (λ z. Racked u.book z c.args.n c.args.al (Err c.in-Err.null) (g.B.Book.account c.alloc.new.book)) c.args.self.now.of_zone c.in-Err.ensures in
    by_lot c.of_zones.ensures v u (g.B.Book.account c.alloc.new.book) c.args.self.now.zone c.args.n c.args.al pass.goes pass.hand pass.tries (Err c.in-Err.null) r
