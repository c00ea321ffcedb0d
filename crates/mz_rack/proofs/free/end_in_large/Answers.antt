use Rattle.std.proofs.Common.{refl, subst, arith}
use Rattle.mz_events.specs.declared.place.Place.TheVariants.{Large}
use Rattle.mz_events.specs.Standing.{Stands}
use Rattle.mz_book.specs.Account.{known}
use Rattle.mz_rack.specs.Flushing.{PushedOut}
use Rattle.mz_rack.specs.LargeStages.{large_spot}
use Rattle.mz_rack.specs.FreeStages.{block_in}
use Rattle.mz_rack.proofs.Steps.{itself, can_release, still_stands, let_down}
use Rattle.mz_rack.proofs.LargeSteps.{has_l, drop_l, there_l}
use Rattle.mz_rack.proofs.Answered.{MomentLaws}
use Rattle.mz_rack.proofs.Dropping.{none_owed, way_large, held_large, owes_run, over_at_once, over_pushed}
use Rattle.mz_rack.proofs.free.end_in_large.Goals as goal

pub push_out-requires-clause-owes : goal.push_out-requires-clause-owes
push_out-requires-clause-owes g c =
    let L = c.of_books.ensures in
    let s = g.B.Book.account c.args.book.now in
    let w = c.args.w.now in
    let b = block_in c.args.span in
    let u = g.B.Book.account c.end_in.new.book in
    let x = c.end_in.ensures.ended in
    let kept = (known u (large_spot w)).kept in
    let is = Stands c.end_in.new.keeper u.site u.profile (Large w.zone) in
    let out = subst (λ o. PushedOut u.site (Large w.zone) kept is o) c.in-Some.is c.end_in.ensures.stands in
    let o = owes_run L s u w b c.requires.way c.requires.lives x c.in-Some.run' out.1 out.2 in
    o

pub push_out-requires-clause-stands : goal.push_out-requires-clause-stands
push_out-requires-clause-stands g c =
    let L = c.of_books.ensures in
    let s = g.B.Book.account c.args.book.now in
    let w = c.args.w.now in
    let b = block_in c.args.span in
    let u = g.B.Book.account c.end_in.new.book in
    let x = c.end_in.ensures.ended in
    let kept = (known u (large_spot w)).kept in
    let is = Stands c.end_in.new.keeper u.site u.profile (Large w.zone) in
    let out = subst (λ o. PushedOut u.site (Large w.zone) kept is o) c.in-Some.is c.end_in.ensures.stands in
    let o = owes_run L s u w b c.requires.way c.requires.lives x c.in-Some.run' out.1 out.2 in
    out.3

pub push_out-requires-clause-room : goal.push_out-requires-clause-room
push_out-requires-clause-room g c =
    let L = c.of_books.ensures in
    let s = g.B.Book.account c.args.book.now in
    let w = c.args.w.now in
    let b = block_in c.args.span in
    let u = g.B.Book.account c.end_in.new.book in
    let x = c.end_in.ensures.ended in
    let kept = (known u (large_spot w)).kept in
    let is = Stands c.end_in.new.keeper u.site u.profile (Large w.zone) in
    omega (arith, x.since.grows.adds.spare, c.requires.room)

pub returns-in-Some : goal.returns-in-Some
returns-in-Some g c =
    let L = c.of_books.ensures in
    let s = g.B.Book.account c.args.book.now in
    let w = c.args.w.now in
    let b = block_in c.args.span in
    let u = g.B.Book.account c.end_in.new.book in
    let x = c.end_in.ensures.ended in
    let kept = (known u (large_spot w)).kept in
    let is = Stands c.end_in.new.keeper u.site u.profile (Large w.zone) in
    let out = subst (λ o. PushedOut u.site (Large w.zone) kept is o) c.in-Some.is c.end_in.ensures.stands in
    let o = owes_run L s u w b c.requires.way c.requires.lives x c.in-Some.run' out.1 out.2 in
    let moments : MomentLaws = record { before = c.moments.ensures.before; after_one = c.states_split.ensures.one; after_joined = c.states_split.ensures.joined } in
    over_pushed L s u w b c.requires.way c.requires.lives x moments (g.B.Book.account c.push_out.new.book) (g.met.B.Book.orderly c.push_out.new.book).lawful c.in-Some.run' o c.push_out.ensures

pub release-requires-clause-can : goal.release-requires-clause-can
release-requires-clause-can g c =
    let L = c.of_books.ensures in
    let s = g.B.Book.account c.args.book.now in
    let w = c.args.w.now in
    let b = block_in c.args.span in
    let u = g.B.Book.account c.end_in.new.book in
    let x = c.end_in.ensures.ended in
    let kept = (known u (large_spot w)).kept in
    let is = Stands c.end_in.new.keeper u.site u.profile (Large w.zone) in
    let out = subst (λ o. PushedOut u.site (Large w.zone) kept is o) c.in-None.is c.end_in.ensures.stands in
    let calm = none_owed L s u w b c.requires.way c.requires.lives x (out.0 refl) in
    let way = way_large L s u w b c.requires.way c.requires.lives x in
    let a = itself u _ (held_large L s u w b c.requires.way c.requires.lives x) in
    can_release L u _ u a (Large w.zone) w.l way.l refl (there_l L u.profile w way) (has_l L u.profile w way) calm

pub release-requires-clause-stands : goal.release-requires-clause-stands
release-requires-clause-stands g c =
    let L = c.of_books.ensures in
    let s = g.B.Book.account c.args.book.now in
    let w = c.args.w.now in
    let b = block_in c.args.span in
    let u = g.B.Book.account c.end_in.new.book in
    let x = c.end_in.ensures.ended in
    let kept = (known u (large_spot w)).kept in
    let is = Stands c.end_in.new.keeper u.site u.profile (Large w.zone) in
    let out = subst (λ o. PushedOut u.site (Large w.zone) kept is o) c.in-None.is c.end_in.ensures.stands in
    let calm = none_owed L s u w b c.requires.way c.requires.lives x (out.0 refl) in
    let way = way_large L s u w b c.requires.way c.requires.lives x in
    let a = itself u _ (held_large L s u w b c.requires.way c.requires.lives x) in
    still_stands L u _ u a (Large w.zone) w.l way.l refl (there_l L u.profile w way) c.end_in.new.keeper out.1

pub returns-in-None : goal.returns-in-None
returns-in-None g c =
    let L = c.of_books.ensures in
    let s = g.B.Book.account c.args.book.now in
    let w = c.args.w.now in
    let b = block_in c.args.span in
    let u = g.B.Book.account c.end_in.new.book in
    let x = c.end_in.ensures.ended in
    let kept = (known u (large_spot w)).kept in
    let is = Stands c.end_in.new.keeper u.site u.profile (Large w.zone) in
    let out = subst (λ o. PushedOut u.site (Large w.zone) kept is o) c.in-None.is c.end_in.ensures.stands in
    let calm = none_owed L s u w b c.requires.way c.requires.lives x (out.0 refl) in
    let way = way_large L s u w b c.requires.way c.requires.lives x in
    let a = itself u _ (held_large L s u w b c.requires.way c.requires.lives x) in
    let moments : MomentLaws = record { before = c.moments.ensures.before; after_one = c.states_split.ensures.one; after_joined = c.states_split.ensures.joined } in
    over_at_once L s u (Large w.zone) b c.requires.lives x moments (g.B.Book.account c.release.new.self) (g.met.B.Book.orderly c.release.new.self).lawful calm (let_down u _ u w.l _ _ a c.release.ensures (drop_l L u.profile w way))
