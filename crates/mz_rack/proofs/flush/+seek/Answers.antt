use Rattle.mz_book.specs.Account.{known}
use Rattle.mz_rack.specs.Stages.{at_pages}
use Rattle.mz_rack.proofs.Seeking.{may_seek, found, found_none, found_then}
use Rattle.mz_rack.proofs.flush.+seek.Goals as goal

pub take_run-requires : goal.take_run-requires
take_run-requires g t c =
    let s = g.B.Book.account c.args.book.now in
    may_seek c.of_books.ensures c.args.zone c.args.w c.args.al s c.requires.can (g.met.B.Book.orderly c.args.book.now).lawful c.args.pages.now c.requires.stands_p

pub flush-requires : goal.flush-requires
flush-requires g t c =
    let L = c.of_books.ensures in
    let s = g.B.Book.account c.args.book.now in
    let none = c.in-None.ensures s.site s.profile (known s at_pages).kept c.requires.stands_p (L.ascending s.profile s.seen (g.met.B.Book.orderly c.args.book.now).lawful).taken in
    record { can = c.requires.can; dry = none.0; room = c.requires.room; stands_l = c.requires.stands_l; stands_p = none.1 }

pub returns-in-Some : goal.returns-in-Some
returns-in-Some g t c =
    let L = c.of_books.ensures in
    let s = g.B.Book.account c.args.book.now in
    let some = c.in-Some.ensures s.site s.profile (known s at_pages).kept c.requires.stands_p (L.ascending s.profile s.seen (g.met.B.Book.orderly c.args.book.now).lawful).taken in
    record { sought = found L c.args.zone c.args.w c.args.al s c.requires.can c.in-Some.span some.0; stands_l = c.requires.stands_l; stands_p = some.1 }

pub returns-in-Ok-clause-sought : goal.returns-in-Ok-clause-sought
returns-in-Ok-clause-sought g t c =
    let s = g.B.Book.account c.args.book.now in
    found_then c.of_books.ensures c.args.zone c.args.w c.args.al s c.requires.can (g.B.Book.account c.flush.new.book) (g.B.Book.account c.seek.new.book) c.seek.result c.in-Ok.ensures.flushes c.seek.ensures.sought

pub returns-in-Err-clause-sought : goal.returns-in-Err-clause-sought
returns-in-Err-clause-sought g t c =
    let s = g.B.Book.account c.args.book.now in
    found_none c.of_books.ensures c.args.zone c.args.w c.args.al s c.requires.can c.in-Err.dry (g.B.Book.account c.flush.new.book) c.in-Err.ensures.flushes
