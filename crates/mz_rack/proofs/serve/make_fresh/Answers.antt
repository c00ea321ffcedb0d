use Rattle.std.proofs.Common.{ap, sym, subst, arith}
use Rattle.mz_events.specs.declared.event.Event.TheVariants.{Take}
use Rattle.mz_book.specs.Account.{known}
use Rattle.mz_book.specs.Calls.{CanNote, Notes}
use Rattle.std.specs.Prelude.{◌||◌}
use Rattle.mz_events.specs.Places.{is_depot}
use Rattle.mz_rack.specs.Stages.{at_magazine}
use Rattle.mz_rack.proofs.Taking.{can_take, taken, may_adopt, adopted, has_room_then, fresh}
use Rattle.mz_rack.proofs.serve.make_fresh.Goals as goal

pub note-requires : goal.note-requires
note-requires g c =
    let L = c.of_books.ensures in
    let t = g.B.Book.account c.args.book.now in
    let w = c.args.w.now in
    let n = c.args.n in
    let al = c.args.al in
    let k = c.requires.seeks in
    let ord = g.met.B.Book.orderly c.args.book.now in
    let r = c.args.region in
    let cut = c.requires.cut in
    let can = can_take L w n al t k r cut ord.caller (omega (arith, c.requires.room)) in
    subst (λ f. CanNote t (Take w.magazine f w.pages)) (sym c.first_page.ensures) can

pub adopt-requires : goal.adopt-requires
adopt-requires g c =
    let L = c.of_books.ensures in
    let t = g.B.Book.account c.args.book.now in
    let w = c.args.w.now in
    let n = c.args.n in
    let al = c.args.al in
    let k = c.requires.seeks in
    let ord = g.met.B.Book.orderly c.args.book.now in
    let r = c.args.region in
    let cut = c.requires.cut in
    let can = can_take L w n al t k r cut ord.caller (omega (arith, c.requires.room)) in
    let u = g.B.Book.account c.note.new.self in
    let noted = subst (λ f. Notes t (Take w.magazine f w.pages) c.note.result u) c.first_page.ensures c.note.ensures in
    let m = taken L w n al t k r cut c.note.result u can noted in
    may_adopt L w n al t k r cut ord.lawful c.args.magazine.now c.requires.stands c.note.result u m (g.met.B.Book.orderly c.note.new.self).lawful

pub make_block-requires-clause-ready : goal.make_block-requires-clause-ready
make_block-requires-clause-ready g c =
    let L = c.of_books.ensures in
    let t = g.B.Book.account c.args.book.now in
    let w = c.args.w.now in
    let n = c.args.n in
    let al = c.args.al in
    let k = c.requires.seeks in
    let ord = g.met.B.Book.orderly c.args.book.now in
    let r = c.args.region in
    let cut = c.requires.cut in
    let can = can_take L w n al t k r cut ord.caller (omega (arith, c.requires.room)) in
    let u = g.B.Book.account c.note.new.self in
    let noted = subst (λ f. Notes t (Take w.magazine f w.pages) c.note.result u) c.first_page.ensures c.note.ensures in
    let m = taken L w n al t k r cut c.note.result u can noted in
    m.ready

pub make_block-requires-clause-room : goal.make_block-requires-clause-room
make_block-requires-clause-room g c =
    let L = c.of_books.ensures in
    let t = g.B.Book.account c.args.book.now in
    let w = c.args.w.now in
    let n = c.args.n in
    let al = c.args.al in
    let k = c.requires.seeks in
    let ord = g.met.B.Book.orderly c.args.book.now in
    let r = c.args.region in
    let cut = c.requires.cut in
    let can = can_take L w n al t k r cut ord.caller (omega (arith, c.requires.room)) in
    let u = g.B.Book.account c.note.new.self in
    let noted = subst (λ f. Notes t (Take w.magazine f w.pages) c.note.result u) c.first_page.ensures c.note.ensures in
    let m = taken L w n al t k r cut c.note.result u can noted in
    omega (arith, m.since.grows.adds.spare, c.requires.room)

pub make_block-requires-clause-stands : goal.make_block-requires-clause-stands
make_block-requires-clause-stands g c =
    let L = c.of_books.ensures in
    let t = g.B.Book.account c.args.book.now in
    let w = c.args.w.now in
    let n = c.args.n in
    let al = c.args.al in
    let k = c.requires.seeks in
    let ord = g.met.B.Book.orderly c.args.book.now in
    let r = c.args.region in
    let cut = c.requires.cut in
    let can = can_take L w n al t k r cut ord.caller (omega (arith, c.requires.room)) in
    let u = g.B.Book.account c.note.new.self in
    let noted = subst (λ f. Notes t (Take w.magazine f w.pages) c.note.result u) c.first_page.ensures c.note.ensures in
    let m = taken L w n al t k r cut c.note.result u can noted in
    let stands_k = adopted L w n al t k r cut c.adopt.new.self c.note.result u m (c.adopt.ensures t.site t.profile w.magazine (known t (at_magazine w)).kept c.requires.stands (ap (λ b. b || is_depot w.magazine) k.can.way.magazine) cut.space) in
    stands_k

pub make_block-requires-clause-has_room : goal.make_block-requires-clause-has_room
make_block-requires-clause-has_room g c =
    let L = c.of_books.ensures in
    let t = g.B.Book.account c.args.book.now in
    let w = c.args.w.now in
    let n = c.args.n in
    let al = c.args.al in
    let k = c.requires.seeks in
    let ord = g.met.B.Book.orderly c.args.book.now in
    let r = c.args.region in
    let cut = c.requires.cut in
    let can = can_take L w n al t k r cut ord.caller (omega (arith, c.requires.room)) in
    let u = g.B.Book.account c.note.new.self in
    let noted = subst (λ f. Notes t (Take w.magazine f w.pages) c.note.result u) c.first_page.ensures c.note.ensures in
    let m = taken L w n al t k r cut c.note.result u can noted in
    has_room_then L w n al t k r cut ord.lawful c.note.result u m

pub returns-clause-fresh : goal.returns-clause-fresh
returns-clause-fresh g c =
    let L = c.of_books.ensures in
    let t = g.B.Book.account c.args.book.now in
    let w = c.args.w.now in
    let n = c.args.n in
    let al = c.args.al in
    let k = c.requires.seeks in
    let ord = g.met.B.Book.orderly c.args.book.now in
    let r = c.args.region in
    let cut = c.requires.cut in
    let can = can_take L w n al t k r cut ord.caller (omega (arith, c.requires.room)) in
    let u = g.B.Book.account c.note.new.self in
    let noted = subst (λ f. Notes t (Take w.magazine f w.pages) c.note.result u) c.first_page.ensures c.note.ensures in
    let m = taken L w n al t k r cut c.note.result u can noted in
    fresh L w n al t k r cut c.note.result u _ c.make_block.result m c.make_block.ensures.tried

pub returns-clause-stands : goal.returns-clause-stands
returns-clause-stands g c =
    let L = c.of_books.ensures in
    let t = g.B.Book.account c.args.book.now in
    let w = c.args.w.now in
    let n = c.args.n in
    let al = c.args.al in
    let k = c.requires.seeks in
    let ord = g.met.B.Book.orderly c.args.book.now in
    let r = c.args.region in
    let cut = c.requires.cut in
    let can = can_take L w n al t k r cut ord.caller (omega (arith, c.requires.room)) in
    let u = g.B.Book.account c.note.new.self in
    let noted = subst (λ f. Notes t (Take w.magazine f w.pages) c.note.result u) c.first_page.ensures c.note.ensures in
    let m = taken L w n al t k r cut c.note.result u can noted in
    c.make_block.ensures.stands
