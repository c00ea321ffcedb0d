use Rattle.std.proofs.Common.{ap, ◌<◌, subst, sym, arith}
use Rattle.mz_book.specs.Account.{Account}
use Rattle.mz_threads_tests.proofs.FullCalls.{may_at_first}
use Rattle.mz_threads_tests.proofs.register.a_client_of_any_book_notes_at_a_plain_book.Goals as goal

pub note_full_often-requires : goal.note_full_often-requires
note_full_often-requires g c =
    let b = c.in_ok-book.ensures in
    may_at_first _ _ 1000 (ap (λ (a : Account). a.profile) b) (subst (λ (a : Account). a.caller < 2) (sym b) (omega arith)) (ap (λ (a : Account). a.held) b) (ap (λ (a : Account). a.seen) b) c.in_ok-reserve.ensures.ok
