use Rattle.std.proofs.Common.{◌≡◌, ℕ, sym, ◌∙◌, arith}
use Rattle.mz_book.specs.Account.{Account}
use Rattle.mz_book.specs.Calls.{IsLit, IsUnlit}
use Rattle.mz_zone.proofs.NanoMaking.{may_relight, may_note_end, may_unlight_end, has_ended}
use Rattle.mz_zone.proofs.nano.end_block.Goals as goal

pub hold_light-requires : goal.hold_light-requires
hold_light-requires g c =
    rw (c.block.ensures, c.slot.ensures)
    (may_relight c.of_zones.ensures (g.B.Book.account c.args.book.now) c.args.slot.now c.of_book.ensures c.requires.can c.requires.in_hand)

pub unreachable-requires : goal.unreachable-requires
unreachable-requires g c =
    let un : IsUnlit (g.B.Book.account c.args.book.now) c.block.result c.slot.result 1 _ (g.B.Book.account c.hold_light.new.self) = c.in_default.ensures.holds in
    none un.idle
  where
    none : ◌≡◌ {A = ℕ} 1 0 → ⊥
    none e = omega arith

pub note-requires : goal.note-requires
note-requires g c =
    let s : Account = g.B.Book.account c.args.book.now in
    let lit : IsLit s c.block.result c.slot.result 1 c.in-Ok.light (g.B.Book.account c.hold_light.new.self) = c.in-Ok.ensures.holds in
    may_note_end c.of_zones.ensures s c.args.slot.now c.of_book.ensures c.requires.can c.requires.in_hand
    _ _ _ _ _ _ c.block.ensures c.class.ensures c.slot.ensures (c.first.ensures ∙ sym c.requires.can.placed.first) lit

pub release_light-requires : goal.release_light-requires
release_light-requires g c =
    let s : Account = g.B.Book.account c.args.book.now in
    let lit : IsLit s c.block.result c.slot.result 1 c.in-Ok.light (g.B.Book.account c.hold_light.new.self) = c.in-Ok.ensures.holds in
    may_unlight_end c.of_zones.ensures s c.args.slot.now c.of_book.ensures c.requires.can c.requires.in_hand
    _ _ _ _ _ _ c.block.ensures c.class.ensures c.slot.ensures (c.first.ensures ∙ sym c.requires.can.placed.first) lit
    _ _ c.note.ensures

pub returns : goal.returns
returns g c =
    let s : Account = g.B.Book.account c.args.book.now in
    let lit : IsLit s c.block.result c.slot.result 1 c.in-Ok.light (g.B.Book.account c.hold_light.new.self) = c.in-Ok.ensures.holds in
    has_ended c.of_zones.ensures s c.args.slot.now c.of_book.ensures c.requires.can c.requires.in_hand
    _ _ _ _ _ _ c.block.ensures c.class.ensures c.slot.ensures (c.first.ensures ∙ sym c.requires.can.placed.first) lit
    _ _ c.note.ensures _ c.release_light.ensures
