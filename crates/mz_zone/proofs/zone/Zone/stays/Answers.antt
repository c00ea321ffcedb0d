use Rattle.std.proofs.Common.{◌≡◌, ap, sym, subst, ◌∙◌, refl, arith}
use Rattle.std.specs.Prelude.{nat_le, ◌==◌}
use Rattle.mz_base.specs.Sizes.{units_of}
use Rattle.mz_zone.specs.Blocks.{BlockView, of_lot, of_slot}
use Rattle.mz_zone.specs.Inners.{IsSound}
use Rattle.mz_zone.specs.Calling.{AtView, IsHandedIn, seen}
use Rattle.mz_zone.proofs.Freed.{of_its_lot, of_its_slot, freeable}
use Rattle.mz_zone.proofs.InPlace.{can_resize, some_of, lot_resized, slot_kept, slot_gone}
use Rattle.mz_zone.proofs.zone.Zone.stays.Goals.{in-Lot, in-Slot+then-n-le256, in-Slot+else-n-le256}
use Rattle.mz_zone.proofs.zone.Zone.stays.Goals as goal

pub resize-requires : goal.resize-requires
resize-requires g c =
    let v : AtView = seen g.B.Book.account c.args.at.now in
    let b : c.args.b.now ≡ of_lot c.in-Lot.lot = of_its_lot c.b.inside.inner c.in-Lot.lot c.args.b.now c.in-Lot.is c.b.view_is in
    record {
      can = can_resize v c.args.self.now.profile c.args.self.now.rack.profile c.args.self.now.rack.zone c.args.self.now.zone c.requires.can c.args.self.now.of_profile
          c.args.self.now.of_zone;
      lot = freeable v c.in-Lot.lot (subst (IsHandedIn v) b c.requires.block);
      of_zone = ap (λ (x : BlockView). x.zone) (sym b) ∙ (c.requires.of_zone ∙ sym c.args.self.now.of_zone);
      some = some_of c.args.n c.if-n-eq0.false;
    }

pub returns-clause-stays : goal.returns-clause-stays
returns-clause-stays g c =
    let v : AtView = seen g.B.Book.account c.args.at.now in
    elim c.match-b.branch [
      | in-Lot w ↦
          let b : c.args.b.now ≡ of_lot w.in-Lot.lot = of_its_lot c.b.inside.inner w.in-Lot.lot c.args.b.now w.in-Lot.is c.b.view_is in
          rw (w.result-is, w.b-inside-is, w.at-is, b)
          (lot_resized c.of_zones.ensures v (g.B.Book.account w.resize.new.book) w.in-Lot.lot w.resize.new.lot c.args.n c.requires.can.serve.nothing_held
          c.requires.can.nano w.resize.result w.resize.ensures)
      | in-Slot+then-n-le256 w ↦
          let b : c.args.b.now ≡ of_slot w.in-Slot.slot = of_its_slot c.b.inside.inner w.in-Slot.slot c.args.b.now w.in-Slot.is c.b.view_is in
          rw (w.result-is, w.b-inside-is, w.at-is, b)
          (slot_kept c.of_zones.ensures v c.args.self.now.profile c.args.self.now.zone 40 w.in-Slot.slot c.args.n c.requires.can (subst (IsHandedIn v) b c.requires.block)
          (subst IsSound w.in-Slot.is c.b.invariant) (w.units.result == w.class.result) (some_of c.args.n c.if-n-eq0.false) (omega (arith, w.if-n-le256.true))
          (ap (λ i. i == w.class.result) w.units.ensures ∙ ap (λ i. units_of c.args.n == i) w.class.ensures))
      | in-Slot+else-n-le256 w ↦
          let b : c.args.b.now ≡ of_slot w.in-Slot.slot = of_its_slot c.b.inside.inner w.in-Slot.slot c.args.b.now w.in-Slot.is c.b.view_is in
          rw (w.result-is, w.b-inside-is, w.at-is, b)
          (slot_gone c.of_zones.ensures v c.args.self.now.profile c.args.self.now.zone 40 w.in-Slot.slot c.args.n c.requires.can (subst (IsHandedIn v) b c.requires.block)
          (subst IsSound w.in-Slot.is c.b.invariant) (nat_le c.args.n 256) (omega (arith, w.if-n-le256.false)) refl)
    ]
