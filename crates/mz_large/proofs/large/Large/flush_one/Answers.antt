use Rattle.std.proofs.Common.{◌≡◌, ℕ, List, [], ◌∷◌, Option, Some, None, map, sym, ap, ◌∙◌, subst}
use Rattle.std.specs.Prelude.{MatchOption}
use Rattle.mz_base.specs.Space.{Block}
use Rattle.mz_ground.specs.Views.{SpanView}
use Rattle.mz_events.specs.Standing.{LargeKept}
use Rattle.mz_large.specs.Large.{run_of_span, keeping_of, IsLarge, HandsOut}
use Rattle.mz_large.proofs.Keeping.{taken_out}
use Rattle.mz_large.proofs.large.Large.flush_one.Goals as goal

flushed : (room : ℕ) (live : List Block) (cached new : List SpanView) (got : Option SpanView) (now : LargeKept)
    → keeping_of room live cached ≡ now → IsLarge room live cached → MatchOption got ((cached ≡ []) × (new ≡ [])) (λ s. cached ≡ s ∷ new)
    → IsLarge room live new × MatchOption got ((keeping_of room live new ≡ now) × (now.kept.cached ≡ []))
    (λ s. (now.kept.cached ≡ run_of_span s ∷ map run_of_span new) × HandsOut now s (keeping_of room live new))
flushed room live cached new None now view h was =
    let same : cached ≡ new = was.0 ∙ sym was.1 in (
      subst (IsLarge room live) same h,
      (ap (keeping_of room live) (sym same) ∙ view, ap (λ (v : LargeKept). v.kept.cached) (sym view) ∙ ap (map run_of_span) was.0),
    )
flushed room live cached new (Some s) now view h was =
    let done = taken_out room live [] s new (subst (IsLarge room live) was h) in (
      done.large,
      (
        ap (λ (v : LargeKept). v.kept.cached) (sym view) ∙ ap (map run_of_span) was,
        subst (λ v. HandsOut v s (keeping_of room live new)) (ap (keeping_of room live) (sym was) ∙ view) done.out,
      ),
    )

pub invariant_of-self : goal.invariant_of-self
invariant_of-self c =
    let i = c.self.inside in
    (flushed i.live.room i.live.blocks i.cache c.pop_oldest.new.self c.pop_oldest.result c.args.self.now c.self.view_is c.self.invariant c.pop_oldest.ensures).0

pub returns : goal.returns
returns c =
    let i = c.self.inside in
    (flushed i.live.room i.live.blocks i.cache c.pop_oldest.new.self c.pop_oldest.result c.args.self.now c.self.view_is c.self.invariant c.pop_oldest.ensures).1
