use Rattle.std.proofs.Common.{◌≡◌, ◌∙◌, ◌∷◌, [], List, length, refl, ap, sym, subst, arith, rules}
use Rattle.std.specs.Vec.Iter.{into_iter_items}
use Rattle.mz_session.specs.declared.parcel.Parcel.{Parcel}
use Rattle.mz_session.specs.Sessions.{SessionView}
use Rattle.mz_session.specs.Giving.{with_coming}
use Rattle.mz_session.specs.contracts.session.Session.{the_view}
use Rattle.mz_session.proofs.GivingLemmas.{Arrives, arrive-first, arrive-next, arrive-last}
use Rattle.mz_session.proofs.session.Session.deliver.Goals as goal

nothing-left : {X : Type 0} (l : List X) → length l ≡ 0 → l ≡ []
nothing-left [] is = refl
nothing-left (x ∷ xs) is = absurd (omega (arith, is))

pub loop-parcel-init : goal.loop-parcel-init
loop-parcel-init c =
    let s : SessionView = c.args.self.now in
    let inside : SessionView = the_view c.self.inside in
    let first : Arrives s inside.parcels (with_coming inside []) =
    subst (λ x. Arrives s x.parcels (with_coming x [])) (sym c.self.view_is) (arrive-first s c.deal.new.self c.in_ok-deal.ensures) in
    let items : into_iter_items c.into_iter-parcel-iterator.result ≡ inside.parcels = c.into_iter-parcel-iterator.ensures.into_iter_gives.0 ∙ ap (λ v. v.items) c.replace-parcels.ensures.value in
    let none : c.replace-parcels.new.dest.items ≡ [] = ap (λ v. v.items) c.replace-parcels.ensures.after ∙ c.new.ensures.items in
    (tt, tt, subst (λ l. Arrives s l (with_coming inside c.replace-parcels.new.dest.items)) (sym items) (subst (λ l. Arrives s inside.parcels (with_coming inside l)) (sym none) first), search rules)

pub loop-parcel-preserved : goal.loop-parcel-preserved
loop-parcel-preserved c =
    let s : SessionView = c.args.self.now in
    let u : SessionView = c.loop-parcel.self in
    let g : Parcel = c.in-Some.parcel in
    let steps : into_iter_items c.loop-parcel.parcel-iterator ≡ g ∷ into_iter_items c.next.new.self = c.in-Some.ensures.steps.0 in
    let was = c.loop-parcel.invariant.3 in
    let gone = c.in-Some.ensures.steps.1 in
    let short = ap length steps in (
      tt,
      tt,
      arrive-next s u c.receive.new.self g (into_iter_items c.next.new.self) (subst (λ l. Arrives s l u) steps c.loop-parcel.invariant.2) c.in_ok-receive.ensures,
      omega (arith, was, gone, short),
    )

pub returns : goal.returns
returns c =
    let s : SessionView = c.args.self.now in
    let u : SessionView = c.loop-parcel.self in
    let none = c.in-None.ensures.steps in
    let empty : into_iter_items c.loop-parcel.parcel-iterator ≡ [] = nothing-left (into_iter_items c.loop-parcel.parcel-iterator) (sym c.loop-parcel.invariant.3 ∙ none.0) in
    arrive-last s u (subst (λ l. Arrives s l u) empty c.loop-parcel.invariant.2)
