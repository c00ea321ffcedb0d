use Rattle.std.proofs.Common.{◌≡◌, ℕ, ◌<◌, List, ◌++◌, ◌∷◌, length, sym, ap, ◌∙◌, subst, refl}
use Rattle.std.specs.Prelude.{◌==◌, MatchOption, IsTrue}
use Rattle.std.specs.List.{HoldsAt, list_any, remove}
use Rattle.std.proofs.lemmas.Bool.{false≢true}
use Rattle.mz_base.specs.Space.{Block, page_of}
use Rattle.mz_ground.specs.Views.{SpanView}
use Rattle.mz_events.specs.Standing.{LargeKept}
use Rattle.mz_large.specs.Large.{keeping_of, IsLarge, HandsOut}
use Rattle.mz_large.proofs.OneOut.{at-place, none-passes}
use Rattle.mz_large.proofs.Keeping.{taken_out}
use Rattle.mz_large.proofs.large.Large.take_out.Goals as goal

pub returns-in_err-i : goal.returns-in_err-i
returns-in_err-i c =
    let none = none-passes (λ r. r.first == c.args.first) c.self.inside.cache c.in_err-i.ensures in
    subst (λ o. MatchOption o ((c.args.self.now ≡ c.args.self.now) × ¬ IsTrue (list_any (λ r. r.first == c.args.first) c.args.self.now.kept.cached)) (λ s. (page_of s.first ≡ c.args.first) × HandsOut c.args.self.now s c.args.self.now))
    (sym c.from_residual.ensures)
    (refl, λ some. false≢true (sym none ∙ ap (λ (v : LargeKept). list_any (λ r. r.first == c.args.first) v.kept.cached) c.self.view_is ∙ some))

taken_at : (room : ℕ) (live : List Block) (cached : List SpanView) (i : ℕ) (s : SpanView) (new : List SpanView) (now : LargeKept)
    → keeping_of room live cached ≡ now → IsLarge room live cached → i < length cached → HoldsAt (λ t. t ≡ s) cached i → new ≡ remove cached i
    → IsLarge room live new × HandsOut now s (keeping_of room live new)
taken_at room live cached i s new now view h within is left =
    let place = at-place cached i s within is in
    let done = taken_out room live place.front s place.back (subst (IsLarge room live) place.all h) in
    let others : new ≡ place.front ++ place.back = left ∙ place.others in (
      subst (IsLarge room live) (sym others) done.large,
      subst (λ v. HandsOut v s (keeping_of room live new)) (ap (keeping_of room live) (sym place.all) ∙ view)
          (subst (λ l. HandsOut (keeping_of room live (place.front ++ s ∷ place.back)) s (keeping_of room live l)) (sym others) done.out),
    )

pub invariant_of-self : goal.invariant_of-self
invariant_of-self c =
    let i = c.self.inside in
    (taken_at i.live.room i.live.blocks i.cache c.in_ok-i.i c.take.result c.take.new.self c.args.self.now c.self.view_is c.self.invariant c.in_ok-i.ensures.0 c.take.ensures.value c.take.ensures.left).0

pub returns : goal.returns
returns c =
    let i = c.self.inside in
    let here : page_of c.take.result.first ≡ c.args.first = ap (λ (t : SpanView). page_of t.first) (sym (c.take.ensures.value c.take.result)) ∙ c.in_ok-i.ensures.1 c.take.result in
    (here, (taken_at i.live.room i.live.blocks i.cache c.in_ok-i.i c.take.result c.take.new.self c.args.self.now c.self.view_is c.self.invariant c.in_ok-i.ensures.0 c.take.ensures.value c.take.ensures.left).1)
