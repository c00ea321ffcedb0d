use Rattle.std.proofs.Common.{◌≡◌, ◌∙◌, ◌*◌, ap, sym, arith}
use Rattle.std.proofs.lemmas.List.{map-id}
use Rattle.mz_base.specs.declared.range.TheConstants.{PAGE}
use Rattle.mz_events.specs.Places.{nano_start}
use Rattle.mz_book.specs.Plain.{opening_account, last_site}
use Rattle.mz_session.specs.Seats.{seat_of}
use Rattle.mz_session.proofs.OpenedLemmas.{opened, seated-new, nano-new, one-seat-new}
use Rattle.mz_session.proofs.session.Session.open.Goals as goal

pub returns : goal.returns
returns c =
    let p = c.args.p.now in
    let below = c.split-below.result.0 in
    let above = c.split-below.result.1 in
    let x = below.space in
    let n = seat_of c.in_ok-nano.nano c.in_ok-nano.seat in
    let back = c.split-below.ensures.back_first in
    let start : c.in_ok-space.space.first ≡ 0 = c.in_ok-space.ensures.first in
    let first : above.first ≡ nano_start p * PAGE = omega (arith, back, start) in
    let space : above.space ≡ x = c.split-below.ensures.back_space ∙ sym c.split-below.ensures.front_space in
    opened p x c.in_ok-zone.zone _ n c.new-4.result c.new-5.result.items c.requires.for_one c.in_ok-zone.ensures.profile c.in_ok-zone.ensures.zone
    (seated-new p x above n first space c.in_ok-nano.ensures) (nano-new above p n c.in_ok-nano.ensures) (one-seat-new above p n c.in_ok-nano.ensures)
    (c.in_ok-book.ensures ∙ ap (opening_account p) (ap last_site (map-id c.in_ok-keepers.keepers.items) ∙ c.in_ok-keepers.ensures.space))
    c.new-4.ensures c.new-5.ensures.items
