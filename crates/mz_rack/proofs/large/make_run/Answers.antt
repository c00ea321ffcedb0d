use Rattle.std.proofs.Common.{◌/◌, sym, subst, arith}
use Rattle.mz_base.specs.declared.range.TheConstants.{PAGE}
use Rattle.mz_events.specs.declared.place.Place.TheVariants.{Large}
use Rattle.mz_events.specs.declared.event.Event.TheVariants.{Take}
use Rattle.mz_book.specs.Account.{known}
use Rattle.mz_book.specs.Calls.{CanNote, Notes}
use Rattle.mz_rack.specs.LargeStages.{large_spot}
use Rattle.mz_rack.proofs.Steps.{stands_then}
use Rattle.mz_rack.proofs.LargeLemmas.{as_block, was_block}
use Rattle.mz_rack.proofs.LargeServing.{can_take, is_taken, may_enter, can_new, is_done}
use Rattle.mz_rack.proofs.large.make_run.Goals as goal

pub note-requires : goal.note-requires
note-requires g c =
    let s = g.B.Book.account c.args.book.now in
    let w = c.args.w.now in
    let room = c.requires.room in
    subst (λ a. CanNote s (Take (Large w.zone) (a / PAGE) c.args.n)) (sym c.first.ensures.value)
    (can_take c.of_books.ensures w c.args.n c.args.al s c.requires.seeks c.args.run.now c.requires.found (g.met.B.Book.orderly c.args.book.now).caller (omega (arith, room)))

pub enter-requires : goal.enter-requires
enter-requires g c =
    let L = c.of_books.ensures in
    let s = g.B.Book.account c.args.book.now in
    let t = g.B.Book.account c.note.new.self in
    let w = c.args.w.now in
    let n = c.args.n in
    let al = c.args.al in
    let x = c.args.run.now in
    let room = c.requires.room in
    let ord = g.met.B.Book.orderly c.args.book.now in
    let can = can_take L w n al s c.requires.seeks x c.requires.found ord.caller (omega (arith, room)) in
    let m = is_taken L w n al s c.requires.seeks x c.requires.found c.note.result t can (subst (λ a. Notes s (Take (Large w.zone) (a / PAGE) n) c.note.result t) c.first.ensures.value c.note.ensures) in
    may_enter L w n al s c.requires.seeks x c.requires.found c.note.result t m ord.lawful (g.met.B.Book.orderly c.note.new.self).lawful c.args.large.now c.requires.stands

pub note-requires-2 : goal.note-requires-2
note-requires-2 g c =
    let L = c.of_books.ensures in
    let s = g.B.Book.account c.args.book.now in
    let t = g.B.Book.account c.note.new.self in
    let w = c.args.w.now in
    let n = c.args.n in
    let al = c.args.al in
    let x = c.args.run.now in
    let room = c.requires.room in
    let ord = g.met.B.Book.orderly c.args.book.now in
    let can = can_take L w n al s c.requires.seeks x c.requires.found ord.caller (omega (arith, room)) in
    let m = is_taken L w n al s c.requires.seeks x c.requires.found c.note.result t can (subst (λ a. Notes s (Take (Large w.zone) (a / PAGE) n) c.note.result t) c.first.ensures.value c.note.ensures) in
    let spare = m.since.grows.adds.spare in
    as_block t w.zone al x c.first-2.result c.len.result c.first-2.ensures.value c.len.ensures.value
    (can_new L w n al s c.requires.seeks x c.requires.found c.note.result t m ord.lawful (g.met.B.Book.orderly c.note.new.self).caller (omega (arith, room, spare)))

pub returns : goal.returns
returns g c =
    let L = c.of_books.ensures in
    let s = g.B.Book.account c.args.book.now in
    let t = g.B.Book.account c.note.new.self in
    let u = g.B.Book.account c.note-2.new.self in
    let w = c.args.w.now in
    let n = c.args.n in
    let al = c.args.al in
    let x = c.args.run.now in
    let room = c.requires.room in
    let ord = g.met.B.Book.orderly c.args.book.now in
    let can = can_take L w n al s c.requires.seeks x c.requires.found ord.caller (omega (arith, room)) in
    let m = is_taken L w n al s c.requires.seeks x c.requires.found c.note.result t can (subst (λ a. Notes s (Take (Large w.zone) (a / PAGE) n) c.note.result t) c.first.ensures.value c.note.ensures) in
    let spare = m.since.grows.adds.spare in
    let new = can_new L w n al s c.requires.seeks x c.requires.found c.note.result t m ord.lawful (g.met.B.Book.orderly c.note.new.self).caller (omega (arith, room, spare)) in
    let d = is_done L w n al s c.requires.seeks x c.requires.found c.note.result t m c.note-2.result u new (was_block t u w.zone al c.note-2.result x c.first-2.result c.len.result c.first-2.ensures.value c.len.ensures.value c.note-2.ensures) in
    record {
      fresh = d.fresh;
      stands = stands_then s u (Large w.zone) _ _ c.enter.new.self d.fresh.since.grows.adds.same d.kept_l (c.enter.ensures s.site s.profile w.zone (known s (large_spot w)).kept c.requires.stands);
    }
