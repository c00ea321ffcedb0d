use Rattle.std.proofs.Common.{subst, sym, length}
use Rattle.mz_events.specs.declared.event.Event.TheVariants.{No}
use Rattle.mz_book.specs.Calls.{CanNote, Notes}
use Rattle.mz_rack.specs.Freeing.{block_of}
use Rattle.mz_rack.proofs.Ended.{can_deny, is_denied}
use Rattle.mz_rack.proofs.free.deny_in.Goals as goal

pub note-ticket-requires : goal.note-ticket-requires
note-ticket-requires g c =
    let s = g.B.Book.account c.args.book.now in
    let x = c.args.lot.now.span in
    let q = c.args.place in
    let z = c.args.zone in
    let can = can_deny c.of_books.ensures s q (block_of c.args.lot.now) c.requires.lives z (g.met.B.Book.orderly c.args.book.now).caller c.requires.room c.requires.zone c.requires.zone_open c.requires.of_another in
    subst (λ n. CanNote s (No q z c.first.result n)) (sym c.size.ensures) (subst (λ a. CanNote s (No q z a (length x.bytes))) (sym c.first.ensures) can)

pub returns : goal.returns
returns g c =
    let s = g.B.Book.account c.args.book.now in
    let t = g.B.Book.account c.note-ticket.new.self in
    let x = c.args.lot.now.span in
    let q = c.args.place in
    let z = c.args.zone in
    let can = can_deny c.of_books.ensures s q (block_of c.args.lot.now) c.requires.lives z (g.met.B.Book.orderly c.args.book.now).caller c.requires.room c.requires.zone c.requires.zone_open c.requires.of_another in
    is_denied c.of_books.ensures s q (block_of c.args.lot.now) c.requires.lives z c.note-ticket.result c.args.number t (g.B.Book.account c.release.new.self) c.requires.number can
    (subst (λ n. Notes s (No q z x.first n) c.note-ticket.result t) c.size.ensures (subst (λ a. Notes s (No q z a c.size.result) c.note-ticket.result t) c.first.ensures c.note-ticket.ensures)) c.release.ensures
