use Rattle.mz_threads_tests.proofs.BothFull.{may_at_first}
use Rattle.mz_threads_tests.proofs.book.a_client_of_any_book_notes_two_events.Goals as goal

pub note_both-tickets-requires : goal.note_both-tickets-requires
note_both-tickets-requires g c = may_at_first c.when_an_event_fits.ensures c.what_an_event_reads.ensures.same_spot _ _ c.in_ok-book.ensures c.in_ok-reserve.ensures.ok
