use Rattle.mz_book.specs.Account.{state_of}
use Rattle.mz_threads_tests.specs.Toys.{large_is_full}
use Rattle.mz_threads_tests.proofs.FullCalls.{can_hold, can_note, reads_large, can_release, stands_again, was_full}
use Rattle.mz_threads_tests.proofs.register.client.note_full.Goals as goal

pub hold-large-requires : goal.hold-large-requires
hold-large-requires g c = can_hold (g.B.Book.account c.args.book.now) c.requires

pub note-ticket-requires : goal.note-ticket-requires
note-ticket-requires g c =
    let s = g.B.Book.account c.args.book.now in
    let t = g.B.Book.account c.hold-large.new.self in
    can_note s t s s c.hold-large.result.number 0 c.requires c.hold-large.ensures.holds c.hold-large.ensures.stands (c.when_an_event_fits.ensures t.profile (state_of t) t.caller)
    (reads_large s t s s c.hold-large.result.number 0 c.requires c.hold-large.ensures.holds c.hold-large.ensures.stands (c.what_an_event_reads.ensures.held t.profile _ large_is_full).1)

pub release-requires-clause-can : goal.release-requires-clause-can
release-requires-clause-can g c =
    let s = g.B.Book.account c.args.book.now in
    can_release s (g.B.Book.account c.hold-large.new.self) (g.B.Book.account c.note-ticket.new.self) s c.hold-large.result.number c.note-ticket.result c.requires c.hold-large.ensures.holds c.hold-large.ensures.stands c.note-ticket.ensures

pub release-requires-clause-stands : goal.release-requires-clause-stands
release-requires-clause-stands g c =
    let s = g.B.Book.account c.args.book.now in
    stands_again s (g.B.Book.account c.hold-large.new.self) (g.B.Book.account c.note-ticket.new.self) s c.hold-large.result.number c.note-ticket.result c.requires c.hold-large.ensures.holds c.hold-large.ensures.stands c.note-ticket.ensures

pub returns : goal.returns
returns g c =
    let s = g.B.Book.account c.args.book.now in
    was_full s (g.B.Book.account c.hold-large.new.self) (g.B.Book.account c.note-ticket.new.self) (g.B.Book.account c.release.new.self) c.hold-large.result.number c.note-ticket.result c.requires c.hold-large.ensures.holds c.hold-large.ensures.stands c.note-ticket.ensures c.release.ensures
