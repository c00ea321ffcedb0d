use Rattle.std.proofs.Common.{◌≡◌, ◌-◌}
use Rattle.mz_threads_tests.proofs.SlotCalls.{with_refusal, with_end, refused, live_taken, may_end, ended, may_unlight_idle, put_out}
use Rattle.mz_threads_tests.proofs.book.slot.end_slot.Goals as goal

pub note-ticket-requires : goal.note-ticket-requires
note-ticket-requires g c =
    let r = (g.B.Book.account c.args.book.now).spare in
    let one : g.B.Book.account c.hold_light.new.self ≡ with_refusal r = refused _ _ r c.in-Err.found c.requires.start (c.in-Err.ensures.holds) in
    may_end _ r c.requires.room (live_taken _ _ r c.in-Ok.light one (c.in-Ok.ensures.holds)).0

pub release_light-requires : goal.release_light-requires
release_light-requires g c =
    let r = (g.B.Book.account c.args.book.now).spare in
    let one : g.B.Book.account c.hold_light.new.self ≡ with_refusal r = refused _ _ r c.in-Err.found c.requires.start (c.in-Err.ensures.holds) in
    let lit = live_taken _ _ r c.in-Ok.light one (c.in-Ok.ensures.holds) in
    let last : g.B.Book.account c.note-ticket.new.self ≡ with_end (r - 1) = ended _ _ r c.note-ticket.result lit.0 c.note-ticket.ensures in
    may_unlight_idle _ (r - 1) c.in-Ok.light lit.1 last

pub returns : goal.returns
returns g c =
    let r = (g.B.Book.account c.args.book.now).spare in
    let one : g.B.Book.account c.hold_light.new.self ≡ with_refusal r = refused _ _ r c.in-Err.found c.requires.start (c.in-Err.ensures.holds) in
    let lit = live_taken _ _ r c.in-Ok.light one (c.in-Ok.ensures.holds) in
    let last : g.B.Book.account c.note-ticket.new.self ≡ with_end (r - 1) = ended _ _ r c.note-ticket.result lit.0 c.note-ticket.ensures in
    put_out _ _ (r - 1) c.in-Ok.light lit.1 last c.release_light.ensures
