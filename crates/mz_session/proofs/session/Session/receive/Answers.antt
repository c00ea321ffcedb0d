use Rattle.std.proofs.Common.{[], ◌∷◌, Some, refl, ap, sym, subst}
use Rattle.mz_words.specs.declared.name.Name.TheVariants.{Given}
use Rattle.mz_book.specs.Plain.{CanGive}
use Rattle.mz_session.specs.declared.parcel.Parcel.{Parcel}
use Rattle.mz_session.specs.Changes.{AreWith}
use Rattle.mz_session.specs.Sessions.{SessionView, IsKept}
use Rattle.mz_session.specs.Giving.{with_coming, Receives}
use Rattle.mz_session.specs.contracts.session.Session.{the_view}
use Rattle.mz_session.proofs.KeepLemmas.{on-ok}
use Rattle.mz_session.proofs.PlaceLemmas.{no-start}
use Rattle.mz_session.proofs.GivingLemmas.{can-give, given-again, keeps-arrived}
use Rattle.mz_session.proofs.session.Session.receive.Goals as goal

pub give-requires : goal.give-requires
give-requires c =
    let old : SessionView = the_view c.self.inside in
    let g : Parcel = c.args.parcel in
    let kept : IsKept (with_coming old (g ∷ c.requires.0)) = subst (λ x. IsKept (with_coming x (g ∷ c.requires.0))) (sym c.self.view_is) c.requires.1 in
    subst (CanGive old.at.book 0 0) (sym c.first.ensures) (can-give old g c.requires.0 kept)

pub insert-requires-clause-start : goal.insert-requires-clause-start
insert-requires-clause-start c =
    let old : SessionView = the_view c.self.inside in
    let g : Parcel = c.args.parcel in
    let kept : IsKept (with_coming old (g ∷ c.requires.0)) = subst (λ x. IsKept (with_coming x (g ∷ c.requires.0))) (sym c.self.view_is) c.requires.1 in
    no-start c.of_sessions.ensures (with_coming old c.requires.0) g.block [] (keeps-arrived old g c.requires.0 kept) c.of_book.ensures

pub returns : goal.returns
returns c =
    let old : SessionView = the_view c.self.inside in
    let g : Parcel = c.args.parcel in
    let new : SessionView = the_view (record { zone = c.self.inside.zone; book = c.give.new.self; nano = c.self.inside.nano; seat = c.self.inside.seat; blocks = c.insert.new.self; parcels = c.self.inside.parcels }) in
    on-ok c.insert.result (AreWith old.blocks (Given g.name) (Some g.block) new.blocks) (Receives c.args.self.now g new)
    (λ with_it.
    subst (λ x. Receives x g new) c.self.view_is
    (record { zone = refl; at = ap (λ b. record { book = b; nano = old.at.nano }) (given-again old.at.book c.first.result new.at.book c.give.ensures); parcels = refl; blocks = with_it }))
    c.insert.ensures
