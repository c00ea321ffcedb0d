use Rattle.std.proofs.Common.{ap, sym, subst}
use Rattle.mz_events.specs.declared.event.Event.TheVariants.{New}
use Rattle.mz_events.specs.State.{Value}
use Rattle.mz_book.specs.Account.{known}
use Rattle.mz_book.specs.Calls.{CanNote, Notes}
use Rattle.mz_rack.specs.Stages.{at_magazine}
use Rattle.mz_rack.proofs.Steps.{stands_then}
use Rattle.mz_rack.proofs.Trying.{can_new, can_full, tried_new, tried_full, may_ask}
use Rattle.mz_rack.proofs.serve.try_block.Goals as goal

pub alloc-requires : goal.alloc-requires
alloc-requires g c =
    let s = g.B.Book.account c.args.book.now in
    let w = c.args.w.now in
    may_ask s w c.args.n c.args.al c.requires.ready.can c.args.magazine.now c.requires.stands

pub note-requires : goal.note-requires
note-requires g c =
    let L = c.of_books.ensures in
    let s = g.B.Book.account c.args.book.now in
    let w = c.args.w.now in
    let n = c.args.n in
    let al = c.args.al in
    let r = c.requires.ready in
    let x = c.in-Some.span in
    let p = c.in-Some.ensures s.site s.profile w.magazine (known s (at_magazine w)).kept c.requires.stands r.can.way.magazine r.can.size in
    subst (λ a. CanNote s (New w.magazine a n al)) (sym c.first.ensures.value) (can_new L s w n al r x (g.met.B.Book.orderly c.args.book.now).caller c.requires.room p.0)

pub note-requires-in-None : goal.note-requires-in-None
note-requires-in-None g c =
    let L = c.of_books.ensures in
    let s = g.B.Book.account c.args.book.now in
    let w = c.args.w.now in
    let n = c.args.n in
    let al = c.args.al in
    let r = c.requires.ready in
    let p = c.in-None.ensures s.site s.profile w.magazine (known s (at_magazine w)).kept c.requires.stands r.can.way.magazine r.can.size in
    can_full L s w n al r (g.met.B.Book.orderly c.args.book.now).caller c.requires.room p.0

pub returns-in-Some-clause-tried : goal.returns-in-Some-clause-tried
returns-in-Some-clause-tried g c =
    let L = c.of_books.ensures in
    let s = g.B.Book.account c.args.book.now in
    let w = c.args.w.now in
    let n = c.args.n in
    let al = c.args.al in
    let r = c.requires.ready in
    let x = c.in-Some.span in
    let p = c.in-Some.ensures s.site s.profile w.magazine (known s (at_magazine w)).kept c.requires.stands r.can.way.magazine r.can.size in
    tried_new L s w n al r x c.note.result _ p.0 (can_new L s w n al r x (g.met.B.Book.orderly c.args.book.now).caller c.requires.room p.0)
    (subst (λ a. Notes s (New w.magazine a n al) c.note.result (g.B.Book.account c.note.new.self)) c.first.ensures.value c.note.ensures)

pub returns-in-Some-clause-stands : goal.returns-in-Some-clause-stands
returns-in-Some-clause-stands g c =
    let L = c.of_books.ensures in
    let s = g.B.Book.account c.args.book.now in
    let w = c.args.w.now in
    let n = c.args.n in
    let al = c.args.al in
    let r = c.requires.ready in
    let x = c.in-Some.span in
    let p = c.in-Some.ensures s.site s.profile w.magazine (known s (at_magazine w)).kept c.requires.stands r.can.way.magazine r.can.size in
    let t = tried_new L s w n al r x c.note.result (g.B.Book.account c.note.new.self) p.0 (can_new L s w n al r x (g.met.B.Book.orderly c.args.book.now).caller c.requires.room p.0)
    (subst (λ a. Notes s (New w.magazine a n al) c.note.result (g.B.Book.account c.note.new.self)) c.first.ensures.value c.note.ensures) in
    stands_then s (g.B.Book.account c.note.new.self) w.magazine _ _ c.alloc.new.self t.since.grows.adds.same (ap (λ (v : Value). v.kept) t.learns) p.1

pub returns-in-None-clause-tried : goal.returns-in-None-clause-tried
returns-in-None-clause-tried g c =
    let L = c.of_books.ensures in
    let s = g.B.Book.account c.args.book.now in
    let w = c.args.w.now in
    let n = c.args.n in
    let al = c.args.al in
    let r = c.requires.ready in
    let p = c.in-None.ensures s.site s.profile w.magazine (known s (at_magazine w)).kept c.requires.stands r.can.way.magazine r.can.size in
    tried_full L s w n al r c.note-in-None.result _ p.0 (can_full L s w n al r (g.met.B.Book.orderly c.args.book.now).caller c.requires.room p.0) c.note-in-None.ensures

pub returns-in-None-clause-stands : goal.returns-in-None-clause-stands
returns-in-None-clause-stands g c =
    let L = c.of_books.ensures in
    let s = g.B.Book.account c.args.book.now in
    let w = c.args.w.now in
    let n = c.args.n in
    let al = c.args.al in
    let r = c.requires.ready in
    let p = c.in-None.ensures s.site s.profile w.magazine (known s (at_magazine w)).kept c.requires.stands r.can.way.magazine r.can.size in
    let t = tried_full L s w n al r c.note-in-None.result (g.B.Book.account c.note-in-None.new.self) p.0 (can_full L s w n al r (g.met.B.Book.orderly c.args.book.now).caller c.requires.room p.0) c.note-in-None.ensures in
    stands_then s (g.B.Book.account c.note-in-None.new.self) w.magazine _ _ c.alloc.new.self t.since.grows.adds.same (ap (λ (v : Value). v.kept) t.learns) p.1
