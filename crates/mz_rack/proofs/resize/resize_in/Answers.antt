use Rattle.std.proofs.Common.{ap, subst, sym, false}
use Rattle.mz_events.specs.declared.event.Event.TheVariants.{Size}
use Rattle.mz_events.specs.Places.{spot_of}
use Rattle.mz_events.specs.Standing.{Stands}
use Rattle.mz_book.specs.Account.{known}
use Rattle.mz_book.specs.Calls.{CanNote, Notes}
use Rattle.mz_rack.specs.Lots.{LotView}
use Rattle.mz_rack.specs.Freeing.{block_of}
use Rattle.mz_rack.specs.ResizeStages.{Refits, IsSettled}
use Rattle.mz_rack.proofs.Resizing.{can_resize, settled, refused}
use Rattle.mz_rack.proofs.resize.resize_in.Goals as goal

pub returns-then-not-resize : goal.returns-then-not-resize
returns-then-not-resize g c =
    let L = c.of_books.ensures in
    let F = c.live_blocks_have_their_forms.ensures in
    let s = g.B.Book.account c.args.book.now in
    let u = g.B.Book.account c.release.new.self in
    let q = c.args.place in
    let n = c.args.size in
    let l = c.args.lot.now in
    let y = c.resize.new.span in
    let kept = (known s (spot_of q)).kept in
    let is = Stands c.resize.new.self s.site s.profile q in
    let told = subst (λ (x : LotView). Refits kept x.span n is c.resize.result y) c.lot.view_is (c.resize.ensures s.site s.profile q kept c.requires.stands c.requires.regions c.requires.size) in
    subst (λ z. IsSettled s l n false u (record { zone = z; span = y })) (ap (λ (x : LotView). x.zone) (sym c.lot.view_is))
    (refused L F s q l c.requires.lives c.requires.regions (g.met.B.Book.orderly c.args.book.now).lawful n c.requires.size c.args.number u y is c.requires.number c.release.ensures
    (subst (λ r. Refits kept l.span n is r y) c.if-not-resize.true told))

pub note-requires : goal.note-requires
note-requires g c =
    let L = c.of_books.ensures in
    let F = c.live_blocks_have_their_forms.ensures in
    let s = g.B.Book.account c.args.book.now in
    let ord = g.met.B.Book.orderly c.args.book.now in
    let q = c.args.place in
    let n = c.args.size in
    let l = c.args.lot.now in
    let y = c.resize.new.span in
    let kept = (known s (spot_of q)).kept in
    let is = Stands c.resize.new.self s.site s.profile q in
    let told = subst (λ (x : LotView). Refits kept x.span n is c.resize.result y) c.lot.view_is (c.resize.ensures s.site s.profile q kept c.requires.stands c.requires.regions c.requires.size) in
    let yes = subst (λ r. Refits kept l.span n is r y) c.if-not-resize.false told in
    let can = can_resize L F s q l c.requires.lives c.requires.regions ord.lawful n c.requires.size ord.caller c.requires.room yes.0 in
    subst (λ b. CanNote s (Size q c.first-a.result b n)) (sym c.size-s.ensures) (subst (λ a. CanNote s (Size q a (block_of l).size n)) (sym c.first-a.ensures) can)

pub returns : goal.returns
returns g c =
    let L = c.of_books.ensures in
    let F = c.live_blocks_have_their_forms.ensures in
    let s = g.B.Book.account c.args.book.now in
    let ord = g.met.B.Book.orderly c.args.book.now in
    let t = g.B.Book.account c.note.new.self in
    let u = g.B.Book.account c.release-2.new.self in
    let q = c.args.place in
    let n = c.args.size in
    let l = c.args.lot.now in
    let y = c.resize.new.span in
    let kept = (known s (spot_of q)).kept in
    let is = Stands c.resize.new.self s.site s.profile q in
    let told = subst (λ (x : LotView). Refits kept x.span n is c.resize.result y) c.lot.view_is (c.resize.ensures s.site s.profile q kept c.requires.stands c.requires.regions c.requires.size) in
    let yes = subst (λ r. Refits kept l.span n is r y) c.if-not-resize.false told in
    let can = can_resize L F s q l c.requires.lives c.requires.regions ord.lawful n c.requires.size ord.caller c.requires.room yes.0 in
    let noted = subst (λ a. Notes s (Size q a (block_of l).size n) c.note.result t) c.first-a.ensures (subst (λ b. Notes s (Size q c.first-a.result b n) c.note.result t) c.size-s.ensures c.note.ensures) in
    settled L F s q l c.requires.lives c.requires.regions ord.lawful n c.requires.size c.note.result t can noted c.args.number u (record { zone = c.lot.inside.zone; span = y }) c.requires.number c.release-2.ensures (ap (λ (x : LotView). x.zone) c.lot.view_is) yes.1
