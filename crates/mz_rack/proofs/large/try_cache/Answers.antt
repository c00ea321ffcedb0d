use Rattle.mz_book.specs.Account.{known}
use Rattle.mz_rack.specs.LargeStages.{large_spot}
use Rattle.mz_rack.proofs.Answered.{MomentLaws}
use Rattle.mz_rack.proofs.LargeLemmas.{as_block, was_block}
use Rattle.mz_rack.proofs.LargeSteps.{can_reuse, tried_reuse, reuse_stands, can_say_none, tried_none, none_stands}
use Rattle.mz_rack.proofs.large.try_cache.Goals as goal

pub note-requires : goal.note-requires
note-requires g c =
    let s = g.B.Book.account c.args.book.now in
    let w = c.args.w.now in
    let some = c.in-Some.ensures s.site s.profile w.zone (known s (large_spot w)).kept c.requires.stands in
    let ord = g.met.B.Book.orderly c.args.book.now in
    as_block s w.zone c.args.al c.in-Some.span c.first.result c.len.result c.first.ensures.value c.len.ensures.value
    (can_reuse c.of_books.ensures s w c.args.n c.args.al c.requires.ready c.in-Some.span some.0 c.best_fits.ensures.own ord.lawful ord.caller c.requires.room)

pub returns-in-Some : goal.returns-in-Some
returns-in-Some g c =
    let L = c.of_books.ensures in
    let M : MomentLaws = record { before = c.moments.ensures.before; after_one = c.states_split.ensures.one; after_joined = c.states_split.ensures.joined } in
    let s = g.B.Book.account c.args.book.now in
    let t = g.B.Book.account c.note.new.self in
    let w = c.args.w.now in
    let some = c.in-Some.ensures s.site s.profile w.zone (known s (large_spot w)).kept c.requires.stands in
    let ord = g.met.B.Book.orderly c.args.book.now in
    let can = can_reuse L s w c.args.n c.args.al c.requires.ready c.in-Some.span some.0 c.best_fits.ensures.own ord.lawful ord.caller c.requires.room in
    let noted = was_block s t w.zone c.args.al c.note.result c.in-Some.span c.first.result c.len.result c.first.ensures.value c.len.ensures.value c.note.ensures in
    record {
      tried = tried_reuse L s w c.args.n c.args.al c.requires.ready c.in-Some.span some.0 M c.others_leave_what_is_held.ensures c.note.result t (g.met.B.Book.orderly c.note.new.self).lawful can noted;
      stands = reuse_stands L s w c.args.n c.args.al c.requires.ready c.in-Some.span some.0 c.note.result t can noted c.reuse.new.self some.1;
    }

pub note-requires-in-None : goal.note-requires-in-None
note-requires-in-None g c =
    let s = g.B.Book.account c.args.book.now in
    let w = c.args.w.now in
    let none = c.in-None.ensures s.site s.profile w.zone (known s (large_spot w)).kept c.requires.stands in
    can_say_none c.of_books.ensures s w c.args.n c.args.al c.requires.ready (g.met.B.Book.orderly c.args.book.now).caller c.requires.room none.0

pub returns-in-None : goal.returns-in-None
returns-in-None g c =
    let L = c.of_books.ensures in
    let s = g.B.Book.account c.args.book.now in
    let t = g.B.Book.account c.note-in-None.new.self in
    let w = c.args.w.now in
    let none = c.in-None.ensures s.site s.profile w.zone (known s (large_spot w)).kept c.requires.stands in
    let can = can_say_none L s w c.args.n c.args.al c.requires.ready (g.met.B.Book.orderly c.args.book.now).caller c.requires.room none.0 in
    record {
      tried = tried_none L s w c.args.n c.args.al c.requires.ready c.note-in-None.result t none.0 can c.note-in-None.ensures;
      stands = none_stands L s w c.args.n c.args.al c.requires.ready c.note-in-None.result t can c.note-in-None.ensures c.reuse.new.self none.1;
    }
