use Rattle.std.proofs.Common.{ap, ◌∙◌, arith}
use Rattle.std.specs.Option.{option_map}
use Rattle.mz_events.specs.declared.event.Event.TheVariants.{Move}
use Rattle.mz_events.specs.Places.{depot_of}
use Rattle.mz_events.specs.Standing.{Stands}
use Rattle.mz_book.specs.Account.{known}
use Rattle.mz_rack.specs.Stages.{at_magazine}
use Rattle.mz_rack.specs.FreeStages.{block_in}
use Rattle.mz_rack.proofs.Steps.{plain_k, itself, can_release, still_stands, has_k, drop_k, let_down}
use Rattle.mz_rack.proofs.Answered.{MomentLaws}
use Rattle.mz_rack.proofs.Ended.{nothing_out}
use Rattle.mz_rack.proofs.Dropping.{duty_is, held_one, way_then, owes_move, over_at_once, over_moved}
use Rattle.mz_rack.proofs.free.end_in_magazine.Goals as goal

pub recirculate-requires-clause-owes : goal.recirculate-requires-clause-owes
recirculate-requires-clause-owes g c =
    let L = c.of_books.ensures in
    let s = g.B.Book.account c.args.book.now in
    let w = c.args.w.now in
    let b = block_in c.args.span in
    let u = g.B.Book.account c.end_in.new.book in
    let x = c.end_in.ensures.ended in
    let m = w.magazine in
    let kept = (known u (at_magazine w)).kept in
    let stands = nothing_out u.site m kept (Stands c.end_in.new.keeper u.site u.profile m) c.end_in.result (L.depot s.profile m c.requires.way.magazine).magazine.not_large c.end_in.ensures.stands in
    let told = c.surplus.ensures u.site u.profile m kept stands c.requires.way.magazine in
    let f = c.in-Some.first in
    let o = owes_move L s u w b c.requires.way c.requires.lives x f (told ∙ ap (λ r. option_map (λ a. Move a m (depot_of m)) r) c.in-Some.is) in
    o

pub recirculate-requires-clause-room : goal.recirculate-requires-clause-room
recirculate-requires-clause-room g c =
    let L = c.of_books.ensures in
    let s = g.B.Book.account c.args.book.now in
    let w = c.args.w.now in
    let b = block_in c.args.span in
    let u = g.B.Book.account c.end_in.new.book in
    let x = c.end_in.ensures.ended in
    let m = w.magazine in
    let kept = (known u (at_magazine w)).kept in
    let stands = nothing_out u.site m kept (Stands c.end_in.new.keeper u.site u.profile m) c.end_in.result (L.depot s.profile m c.requires.way.magazine).magazine.not_large c.end_in.ensures.stands in
    let told = c.surplus.ensures u.site u.profile m kept stands c.requires.way.magazine in
    let f = c.in-Some.first in
    let o = owes_move L s u w b c.requires.way c.requires.lives x f (told ∙ ap (λ r. option_map (λ a. Move a m (depot_of m)) r) c.in-Some.is) in
    omega (arith, x.since.grows.adds.spare, c.requires.room)

pub returns-in-Some : goal.returns-in-Some
returns-in-Some g c =
    let L = c.of_books.ensures in
    let s = g.B.Book.account c.args.book.now in
    let w = c.args.w.now in
    let b = block_in c.args.span in
    let u = g.B.Book.account c.end_in.new.book in
    let x = c.end_in.ensures.ended in
    let m = w.magazine in
    let kept = (known u (at_magazine w)).kept in
    let stands = nothing_out u.site m kept (Stands c.end_in.new.keeper u.site u.profile m) c.end_in.result (L.depot s.profile m c.requires.way.magazine).magazine.not_large c.end_in.ensures.stands in
    let told = c.surplus.ensures u.site u.profile m kept stands c.requires.way.magazine in
    let f = c.in-Some.first in
    let o = owes_move L s u w b c.requires.way c.requires.lives x f (told ∙ ap (λ r. option_map (λ a. Move a m (depot_of m)) r) c.in-Some.is) in
    let moments : MomentLaws = record { before = c.moments.ensures.before; after_one = c.states_split.ensures.one; after_joined = c.states_split.ensures.joined } in
    over_moved L s u w b c.requires.way c.requires.lives x moments (g.B.Book.account c.recirculate.new.book) (g.met.B.Book.orderly c.recirculate.new.book).lawful f o c.recirculate.ensures

pub release-requires-clause-can : goal.release-requires-clause-can
release-requires-clause-can g c =
    let L = c.of_books.ensures in
    let s = g.B.Book.account c.args.book.now in
    let w = c.args.w.now in
    let b = block_in c.args.span in
    let u = g.B.Book.account c.end_in.new.book in
    let x = c.end_in.ensures.ended in
    let m = w.magazine in
    let kept = (known u (at_magazine w)).kept in
    let stands = nothing_out u.site m kept (Stands c.end_in.new.keeper u.site u.profile m) c.end_in.result (L.depot s.profile m c.requires.way.magazine).magazine.not_large c.end_in.ensures.stands in
    let told = c.surplus.ensures u.site u.profile m kept stands c.requires.way.magazine in
    let none = told ∙ ap (λ r. option_map (λ a. Move a m (depot_of m)) r) c.in-None.is in
    let way = way_then L s u w b c.requires.way c.requires.lives x in
    let a = itself u _ (held_one L s u w b c.requires.way c.requires.lives x) in
    can_release L u _ u a m w.k way.k (plain_k L u.profile w way) way.exists (has_k L u.profile w way) (duty_is L s u w b c.requires.way c.requires.lives x ∙ none)

pub release-requires-clause-stands : goal.release-requires-clause-stands
release-requires-clause-stands g c =
    let L = c.of_books.ensures in
    let s = g.B.Book.account c.args.book.now in
    let w = c.args.w.now in
    let b = block_in c.args.span in
    let u = g.B.Book.account c.end_in.new.book in
    let x = c.end_in.ensures.ended in
    let m = w.magazine in
    let kept = (known u (at_magazine w)).kept in
    let stands = nothing_out u.site m kept (Stands c.end_in.new.keeper u.site u.profile m) c.end_in.result (L.depot s.profile m c.requires.way.magazine).magazine.not_large c.end_in.ensures.stands in
    let told = c.surplus.ensures u.site u.profile m kept stands c.requires.way.magazine in
    let none = told ∙ ap (λ r. option_map (λ a. Move a m (depot_of m)) r) c.in-None.is in
    let way = way_then L s u w b c.requires.way c.requires.lives x in
    let a = itself u _ (held_one L s u w b c.requires.way c.requires.lives x) in
    still_stands L u _ u a m w.k way.k (plain_k L u.profile w way) way.exists c.end_in.new.keeper stands

pub returns-in-None : goal.returns-in-None
returns-in-None g c =
    let L = c.of_books.ensures in
    let s = g.B.Book.account c.args.book.now in
    let w = c.args.w.now in
    let b = block_in c.args.span in
    let u = g.B.Book.account c.end_in.new.book in
    let x = c.end_in.ensures.ended in
    let m = w.magazine in
    let kept = (known u (at_magazine w)).kept in
    let stands = nothing_out u.site m kept (Stands c.end_in.new.keeper u.site u.profile m) c.end_in.result (L.depot s.profile m c.requires.way.magazine).magazine.not_large c.end_in.ensures.stands in
    let told = c.surplus.ensures u.site u.profile m kept stands c.requires.way.magazine in
    let none = told ∙ ap (λ r. option_map (λ a. Move a m (depot_of m)) r) c.in-None.is in
    let way = way_then L s u w b c.requires.way c.requires.lives x in
    let a = itself u _ (held_one L s u w b c.requires.way c.requires.lives x) in
    let moments : MomentLaws = record { before = c.moments.ensures.before; after_one = c.states_split.ensures.one; after_joined = c.states_split.ensures.joined } in
    over_at_once L s u m b c.requires.lives x moments (g.B.Book.account c.release.new.self) (g.met.B.Book.orderly c.release.new.self).lawful (duty_is L s u w b c.requires.way c.requires.lives x ∙ none) (let_down u _ u w.k _ _ a c.release.ensures (drop_k L u.profile w way))

pub recirculate-requires-clause-stands : goal.recirculate-requires-clause-stands
recirculate-requires-clause-stands g c =
    let L = c.of_books.ensures in
    let s = g.B.Book.account c.args.book.now in
    let u = g.B.Book.account c.end_in.new.book in
    let m = c.args.w.now.magazine in
    nothing_out u.site m (known u (at_magazine c.args.w.now)).kept (Stands c.end_in.new.keeper u.site u.profile m) c.end_in.result (L.depot s.profile m c.requires.way.magazine).magazine.not_large c.end_in.ensures.stands
