use Rattle.std.proofs.Common.{ap, sym, subst, ◌∙◌}
use Rattle.std.specs.Prelude.{IfSome}
use Rattle.mz_zone.specs.Blocks.{BlockView}
use Rattle.mz_zone.specs.Calling.{AtView, IsHandedIn, seen}
use Rattle.mz_zone.specs.Resizing.{IsStuck}
use Rattle.mz_zone.proofs.Batched.{keeps_on}
use Rattle.mz_zone.proofs.HandedAgain.{made_handed, stays_handed, moved_handed}
use Rattle.mz_zone.proofs.InPlace.{can_again, handed_again, moves_now, moved_again}
use Rattle.mz_zone.proofs.zone.Zone.realloc.Goals as goal

pub move_on-requires : goal.move_on-requires
move_on-requires g c =
    let v : AtView = seen g.B.Book.account c.args.at.now in
    let u : AtView = seen g.B.Book.account c.stays.new.at in
    let stuck : IsStuck v c.in-Some.b c.args.n c.stays.new.b u = c.if-stays.ensures.stays in
    record {
      can = can_again c.of_zones.ensures v u c.args.self.now.zone c.args.n c.in-Some.b c.stays.new.b stuck c.args.self.now.profile c.requires.can;
      block = handed_again c.of_zones.ensures v u c.args.self.now.zone c.args.n c.in-Some.b c.stays.new.b stuck
          (subst (λ o. IfSome o (IsHandedIn v)) c.in-Some.is c.requires.block);
      of_zone = ap (λ (x : BlockView). x.zone) stuck.same ∙ (sym c.zone.ensures ∙ c.if-zone-self.false);
      moves = moves_now c.of_zones.ensures v u c.args.self.now.zone c.args.n c.in-Some.b c.stays.new.b stuck;
    }

pub returns-clause-reallocs : goal.returns-clause-reallocs
returns-clause-reallocs g c =
    let v : AtView = seen g.B.Book.account c.args.at.now in
    let u : AtView = seen g.B.Book.account c.stays.new.at in
    let stuck : IsStuck v c.in-Some.b c.args.n c.stays.new.b u = c.if-stays.ensures.stays in
    rw c.in-Some.is
    (moved_again c.of_zones.ensures v u c.args.self.now.zone c.args.n c.in-Some.b c.stays.new.b stuck c.move_on.result (seen g.B.Book.account c.move_on.new.at)
    (sym c.zone.ensures ∙ c.if-zone-self.false) c.move_on.ensures.moves)

pub returns-in-Ok-clause-handed : goal.returns-in-Ok-clause-handed
returns-in-Ok-clause-handed g c =
    made_handed c.of_zones.ensures (seen g.B.Book.account c.args.at.now) (seen g.B.Book.account c.malloc.new.at) c.args.self.now.zone c.args.n 16 c.in-Ok.block
    c.in-Ok.ensures.answers

pub returns-then-stays-clause-handed : goal.returns-then-stays-clause-handed
returns-then-stays-clause-handed g c =
    let v : AtView = seen g.B.Book.account c.args.at.now in
    stays_handed c.of_zones.ensures v (seen g.B.Book.account c.stays.new.at) c.in-Some.b c.stays.new.b c.args.n c.if-stays.ensures.stays
    (subst (λ o. IfSome o (IsHandedIn v)) c.in-Some.is c.requires.block)

pub returns-clause-references : goal.returns-clause-references
returns-clause-references g c = keeps_on c.args.at.now c.stays.new.at c.move_on.new.at c.if-stays.ensures.references c.move_on.ensures.references

pub returns-clause-handed : goal.returns-clause-handed
returns-clause-handed g c =
    moved_handed c.of_zones.ensures (seen g.B.Book.account c.stays.new.at) (seen g.B.Book.account c.move_on.new.at) c.args.self.now.zone c.args.n c.stays.new.b
    c.move_on.result c.move_on.ensures.moves
