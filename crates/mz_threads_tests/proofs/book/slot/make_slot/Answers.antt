use Rattle.std.proofs.Common.{◌≡◌, ◌-◌}
use Rattle.mz_threads_tests.proofs.SlotCalls.{with_class, with_found, with_block, first_settles, second_finds, light_answers, light_taken, may_make, made, may_unlight, unlit}
use Rattle.mz_threads_tests.proofs.book.slot.make_slot.Goals as goal

pub unreachable-requires-in_default-hold_light : goal.unreachable-requires-in_default-hold_light
unreachable-requires-in_default-hold_light g c =
    let r = (g.B.Book.account c.args.book.now).spare in
    let one : g.B.Book.account c.settle.new.self ≡ with_class r = first_settles _ _ r tt c.requires.start (c.in-Ok.ensures.settles) in
    let two : g.B.Book.account c.settle-2.new.self ≡ with_found r = second_finds _ _ r c.in-Err.found one (c.in-Err.ensures.settles) in
    light_answers _ _ r c.in_default-hold_light.field-0 two (c.in_default-hold_light.ensures.holds)

pub note-ticket-requires : goal.note-ticket-requires
note-ticket-requires g c =
    let r = (g.B.Book.account c.args.book.now).spare in
    let one : g.B.Book.account c.settle.new.self ≡ with_class r = first_settles _ _ r tt c.requires.start (c.in-Ok.ensures.settles) in
    let two : g.B.Book.account c.settle-2.new.self ≡ with_found r = second_finds _ _ r c.in-Err.found one (c.in-Err.ensures.settles) in
    may_make _ r c.requires.room (light_taken _ _ r c.in-Ok-hold_light.light two (c.in-Ok-hold_light.ensures.holds)).0

pub release_light-requires : goal.release_light-requires
release_light-requires g c =
    let r = (g.B.Book.account c.args.book.now).spare in
    let one : g.B.Book.account c.settle.new.self ≡ with_class r = first_settles _ _ r tt c.requires.start (c.in-Ok.ensures.settles) in
    let two : g.B.Book.account c.settle-2.new.self ≡ with_found r = second_finds _ _ r c.in-Err.found one (c.in-Err.ensures.settles) in
    let lit = light_taken _ _ r c.in-Ok-hold_light.light two (c.in-Ok-hold_light.ensures.holds) in
    let four : g.B.Book.account c.note-ticket.new.self ≡ with_block (r - 1) = made _ _ r c.note-ticket.result lit.0 c.note-ticket.ensures in
    may_unlight _ (r - 1) c.in-Ok-hold_light.light lit.1 four

pub returns : goal.returns
returns g c =
    let r = (g.B.Book.account c.args.book.now).spare in
    let one : g.B.Book.account c.settle.new.self ≡ with_class r = first_settles _ _ r tt c.requires.start (c.in-Ok.ensures.settles) in
    let two : g.B.Book.account c.settle-2.new.self ≡ with_found r = second_finds _ _ r c.in-Err.found one (c.in-Err.ensures.settles) in
    let lit = light_taken _ _ r c.in-Ok-hold_light.light two (c.in-Ok-hold_light.ensures.holds) in
    let four : g.B.Book.account c.note-ticket.new.self ≡ with_block (r - 1) = made _ _ r c.note-ticket.result lit.0 c.note-ticket.ensures in
    unlit _ _ (r - 1) c.in-Ok-hold_light.light lit.1 four c.release_light.ensures
