use Rattle.std.proofs.Common.{subst, sym, length}
use Rattle.mz_events.specs.declared.event.Event.TheVariants.{End}
use Rattle.mz_book.specs.Account.{known}
use Rattle.mz_events.specs.Places.{spot_of}
use Rattle.mz_events.specs.Changes.{without_block}
use Rattle.mz_book.specs.Calls.{CanNote, Notes}
use Rattle.mz_rack.specs.FreeStages.{block_in}
use Rattle.mz_rack.proofs.Ended.{can_end, has_ended, kept_then, pushed_then}
use Rattle.mz_rack.proofs.free.end_in.Goals as goal

pub note-requires : goal.note-requires
note-requires g c =
    let s = g.B.Book.account c.args.book.now in
    let x = c.args.span in
    let q = c.args.place in
    let can = can_end c.of_books.ensures s q (block_in x) c.requires.lives (g.met.B.Book.orderly c.args.book.now).caller c.requires.room in
    subst (λ n. CanNote s (End q c.first-a.result n)) (sym c.len-s.ensures.value) (subst (λ a. CanNote s (End q a (length x.bytes))) (sym c.first-a.ensures.value) can)

pub returns-clause-ended : goal.returns-clause-ended
returns-clause-ended g c =
    let s = g.B.Book.account c.args.book.now in
    let t = g.B.Book.account c.note.new.self in
    let x = c.args.span in
    let q = c.args.place in
    let can = can_end c.of_books.ensures s q (block_in x) c.requires.lives (g.met.B.Book.orderly c.args.book.now).caller c.requires.room in
    has_ended c.of_books.ensures s q (block_in x) c.requires.lives c.note.result t can
    (subst (λ n. Notes s (End q x.first n) c.note.result t) c.len-s.ensures.value (subst (λ a. Notes s (End q a c.len-s.result) c.note.result t) c.first-a.ensures.value c.note.ensures))

pub returns-clause-stands : goal.returns-clause-stands
returns-clause-stands g c =
    let L = c.of_books.ensures in
    let s = g.B.Book.account c.args.book.now in
    let t = g.B.Book.account c.note.new.self in
    let x = c.args.span in
    let q = c.args.place in
    let l = c.requires.lives in
    let can = can_end L s q (block_in x) l (g.met.B.Book.orderly c.args.book.now).caller c.requires.room in
    let noted = subst (λ n. Notes s (End q x.first n) c.note.result t) c.len-s.ensures.value (subst (λ a. Notes s (End q a c.len-s.result) c.note.result t) c.first-a.ensures.value c.note.ensures) in
    let k = (known s (spot_of q)).kept in
    let same = (has_ended L s q (block_in x) l c.note.result t can noted).since.grows.adds.same in
    pushed_then s t q (without_block q (block_in x) k) (known t (spot_of q)).kept c.free-pushed.new.self c.free-pushed.result same (kept_then L s q (block_in x) l c.note.result t noted)
    (c.free-pushed.ensures s.site s.profile q k c.requires.stands l.blocks c.requires.space)
