use Rattle.std.proofs.Common.{sym, ◌∙◌}
use Rattle.mz_book.specs.Account.{Account}
use Rattle.mz_book.specs.Calls.{IsSettled, IsLit}
use Rattle.mz_zone.proofs.NanoMaking.{can_light, may_note, may_unlight, was_made}
use Rattle.mz_zone.proofs.nano.make_block.Goals as goal

pub settle-requires : goal.settle-requires
settle-requires g c =
    rw (c.block-b.ensures, c.class-class.ensures)
    record { below = c.requires.below; least = c.requires.placed.class_.0; most = c.requires.placed.class_.1 }

pub hold_light-requires : goal.hold_light-requires
hold_light-requires g c =
    let s : Account = g.B.Book.account c.args.book.now in
    let set : IsSettled s c.block-b.result c.class-class.result (g.B.Book.account c.settle.new.self) = c.in-Ok.ensures.settles in
    rw (set.after, c.block-b.ensures, c.class-class.ensures, c.slot.ensures)
    (can_light c.of_zones.ensures s c.args.slot.now c.of_book.ensures c.requires)

pub note-requires : goal.note-requires
note-requires g c =
    let s : Account = g.B.Book.account c.args.book.now in
    let set : IsSettled s c.block-b.result c.class-class.result (g.B.Book.account c.settle.new.self) = c.in-Ok.ensures.settles in
    let lit : IsLit (g.B.Book.account c.settle.new.self) c.block-b.result c.slot.result 0 c.in-Ok-hold_light.light (g.B.Book.account c.hold_light.new.self) = c.in-Ok-hold_light.ensures.holds in
    may_note c.of_zones.ensures s c.args.slot.now c.of_book.ensures c.requires
    _ _ _ _ _ _ _ c.block-b.ensures c.class-class.ensures c.slot.ensures (c.first.ensures ∙ sym c.requires.placed.first) set lit

pub release_light-requires : goal.release_light-requires
release_light-requires g c =
    let s : Account = g.B.Book.account c.args.book.now in
    let set : IsSettled s c.block-b.result c.class-class.result (g.B.Book.account c.settle.new.self) = c.in-Ok.ensures.settles in
    let lit : IsLit (g.B.Book.account c.settle.new.self) c.block-b.result c.slot.result 0 c.in-Ok-hold_light.light (g.B.Book.account c.hold_light.new.self) = c.in-Ok-hold_light.ensures.holds in
    may_unlight c.of_zones.ensures s c.args.slot.now c.of_book.ensures c.requires
    _ _ _ _ _ _ _ c.block-b.ensures c.class-class.ensures c.slot.ensures (c.first.ensures ∙ sym c.requires.placed.first) set lit
    _ _ c.note.ensures

pub returns : goal.returns
returns g c =
    let s : Account = g.B.Book.account c.args.book.now in
    let set : IsSettled s c.block-b.result c.class-class.result (g.B.Book.account c.settle.new.self) = c.in-Ok.ensures.settles in
    let lit : IsLit (g.B.Book.account c.settle.new.self) c.block-b.result c.slot.result 0 c.in-Ok-hold_light.light (g.B.Book.account c.hold_light.new.self) = c.in-Ok-hold_light.ensures.holds in
    was_made c.of_zones.ensures s c.args.slot.now c.of_book.ensures c.requires
    _ _ _ _ _ _ _ c.block-b.ensures c.class-class.ensures c.slot.ensures (c.first.ensures ∙ sym c.requires.placed.first) set lit
    _ _ c.note.ensures _ c.release_light.ensures
