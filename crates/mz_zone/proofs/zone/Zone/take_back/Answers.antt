use Rattle.std.proofs.Common.{◌≡◌, Ok, Err, subst}
use Rattle.mz_rack.specs.Freeing.{Frees as Racked}
use Rattle.mz_zone.specs.Blocks.{of_lot, of_slot}
use Rattle.mz_zone.specs.Inners.{IsSound}
use Rattle.mz_zone.specs.Calling.{AtView, IsHandedIn, seen}
use Rattle.mz_zone.proofs.Freed.{of_its_lot, of_its_slot, can_hand, freeable, by_rack}
use Rattle.mz_zone.proofs.zone.Zone.take_back.Goals as goal

pub free-requires : goal.free-requires
free-requires g c =
    let v : AtView = seen g.B.Book.account c.args.at.now in
    let b : c.args.b ≡ of_lot c.in-Lot.lot = of_its_lot c.b.inside.inner c.in-Lot.lot c.args.b c.in-Lot.is c.b.view_is in
    rw c.in-Lot.lot-is
    record {
      can = can_hand v c.args.self.now.profile c.args.self.now.rack.profile c.args.self.now.rack.zone c.args.self.now.zone c.requires.can c.args.self.now.of_profile
          c.args.self.now.of_zone;
      lot = freeable v c.in-Lot.lot (subst (IsHandedIn v) b c.requires.block);
    }

pub returns-in-Ok-clause-frees : goal.returns-in-Ok-clause-frees
returns-in-Ok-clause-frees g c =
    let v : AtView = seen g.B.Book.account c.args.at.now in
    let b : c.args.b ≡ of_lot c.in-Lot.lot = of_its_lot c.b.inside.inner c.in-Lot.lot c.args.b c.in-Lot.is c.b.view_is in
    let a : Racked v.book c.args.self.now.zone c.in-Lot.lot (Ok tt) (g.B.Book.account c.free.new.book) =
    rw (c.in-Lot.lot-is, c.args.self.now.of_zone) at c.in-Ok.ensures in
    rw b (by_rack c.of_zones.ensures v (g.B.Book.account c.free.new.book) c.args.self.now.zone c.in-Lot.lot c.requires.can.serve.nothing_held c.requires.can.nano (Ok tt) a)

pub returns-in-Err-clause-frees : goal.returns-in-Err-clause-frees
returns-in-Err-clause-frees g c =
    let v : AtView = seen g.B.Book.account c.args.at.now in
    let b : c.args.b ≡ of_lot c.in-Lot.lot = of_its_lot c.b.inside.inner c.in-Lot.lot c.args.b c.in-Lot.is c.b.view_is in
    let a : Racked v.book c.args.self.now.zone c.in-Lot.lot (Err c.in-Err.fault) (g.B.Book.account c.free.new.book) =
    rw (c.in-Lot.lot-is, c.args.self.now.of_zone) at c.in-Err.ensures in
    rw (b, c.of_lot.ensures)
    (by_rack c.of_zones.ensures v (g.B.Book.account c.free.new.book) c.args.self.now.zone c.in-Lot.lot c.requires.can.serve.nothing_held c.requires.can.nano (Err c.in-Err.fault) a)

pub free_slot-requires : goal.free_slot-requires
free_slot-requires g c =
    let v : AtView = seen g.B.Book.account c.args.at.now in
    let b : c.args.b ≡ of_slot c.in-Slot.slot = of_its_slot c.b.inside.inner c.in-Slot.slot c.args.b c.in-Slot.is c.b.view_is in
    rw c.in-Slot.slot-is
    record {
      can = c.requires.can;
      block = subst (IsHandedIn v) b c.requires.block;
      placed = subst IsSound c.in-Slot.is c.b.invariant;
    }
