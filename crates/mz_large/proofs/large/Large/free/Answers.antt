use Rattle.std.proofs.Common.{◌≡◌, ℕ, ◌<◌, true, List, [], ◌∷◌, ◌++◌, Option, Some, None, length, sym, ap, ◌∙◌, subst}
use Rattle.std.specs.Prelude.{MatchOption, IsTrue}
use Rattle.std.proofs.lemmas.List.{length-map}
use Rattle.mz_base.specs.Space.{Block}
use Rattle.mz_base.specs.Lists.{has_block, drop_block}
use Rattle.mz_ground.specs.Views.{SpanView}
use Rattle.mz_events.specs.declared.place.Place.{Place}
use Rattle.mz_events.specs.Places.{is_large}
use Rattle.mz_events.specs.Changes.{without_block}
use Rattle.mz_events.specs.Standing.{LargeKept, IsOf}
use Rattle.mz_large.specs.Blocks.{BlocksView}
use Rattle.mz_large.specs.Large.{block_of, run_of_span, space_of, keeping_of, IsLarge, HandsOut}
use Rattle.mz_large.proofs.Keeping.{freed, taken_out}
use Rattle.mz_large.proofs.large.Large.free.Goals as goal

abbrev after : LargeKept → Place → SpanView → LargeKept
after old q s = record old { space = Some s.space; kept = without_block q (block_of s) old.kept }

-- what is answered, by the run that was pushed out
abbrev Pushes : LargeKept → SpanView → Option SpanView → LargeKept → Type 0
Pushes old s got new =
    (q : Place) → IsTrue (is_large q) →
    MatchOption got ((length old.kept.cached < 16) × (new ≡ after old q s))
    (λ t. (length old.kept.cached ≡ 16) × ((after old q s).kept.cached ≡ run_of_span t ∷ new.kept.cached) × HandsOut (after old q s) t new)

pushed : (room : ℕ) (live : List Block) (cached : List SpanView) (s : SpanView) (got : Option SpanView) (new : List SpanView)
    → IsLarge room live cached → IsOf (space_of cached) s.space → has_block live (block_of s) ≡ true
    → MatchOption got ((length cached < 16) × (new ≡ cached ++ s ∷ [])) (λ t. (length cached ≡ 16) × (t ∷ new ≡ cached ++ s ∷ []))
    → IsLarge room (drop_block (block_of s) live) new × Pushes (keeping_of room live cached) s got (keeping_of room (drop_block (block_of s) live) new)
pushed room live cached s None new h of among was =
    let done = freed room live cached s h of among in
    let rest = drop_block (block_of s) live in (
      subst (IsLarge room (drop_block (block_of s) live)) (sym was.1) done.large,
      λ q kind. (subst (λ n. n < 16) (sym (length-map cached run_of_span)) was.0, ap (keeping_of room (drop_block (block_of s) live)) was.1 ∙ done.is q kind),
    )
pushed room live cached s (Some t) new h of among was =
    let done = freed room live cached s h of among in
    let out = taken_out room (drop_block (block_of s) live) [] t new (subst (IsLarge room (drop_block (block_of s) live)) (sym was.1) done.large) in (
      out.large,
      λ q kind.
          let is : keeping_of room (drop_block (block_of s) live) (t ∷ new) ≡ after (keeping_of room live cached) q s = ap (keeping_of room (drop_block (block_of s) live)) was.1 ∙ done.is q kind in (
            length-map cached run_of_span ∙ was.0,
            sym (ap (λ (v : LargeKept). v.kept.cached) is),
            subst (λ v. HandsOut v t (keeping_of room (drop_block (block_of s) live) new)) is out.out,
          ),
    )

-- the same, of what is seen of large
frees : (room : ℕ) (live : List Block) (cached : List SpanView) (s : SpanView) (b : Block) (left : BlocksView) (got : Option SpanView) (new : List SpanView) (now : LargeKept)
    → keeping_of room live cached ≡ now → IsLarge room live cached → IsOf now.space s.space
    → b ≡ block_of s → has_block live b ≡ true → left ≡ record { room = room; blocks = drop_block b live }
    → MatchOption got ((length cached < 16) × (new ≡ cached ++ s ∷ [])) (λ t. (length cached ≡ 16) × (t ∷ new ≡ cached ++ s ∷ []))
    → IsLarge left.room left.blocks new × ((has_block now.kept.live (block_of s) ≡ true) × Pushes now s got (keeping_of left.room left.blocks new))
frees room live cached s b left got new now view h of is among leaves was =
    let here : has_block live (block_of s) ≡ true = subst (λ d. has_block live d ≡ true) is among in
    let done = pushed room live cached s got new h (subst (λ (v : LargeKept). IsOf v.space s.space) (sym view) of) here was in
    let rest : record { room = room; blocks = drop_block (block_of s) live } ≡ left = sym (leaves ∙ ap (λ d. record { room = room; blocks = drop_block d live }) is) in (
      subst (λ (v : BlocksView). IsLarge v.room v.blocks new) rest done.0,
      (
        ap (λ (v : LargeKept). has_block v.kept.live (block_of s)) (sym view) ∙ here,
        subst (λ (v : BlocksView). Pushes now s got (keeping_of v.room v.blocks new)) rest
            (subst (λ v. Pushes v s got (keeping_of room (drop_block (block_of s) live) new)) view done.1),
      ),
    )

pub invariant_of-self : goal.invariant_of-self
invariant_of-self c =
    let i = c.self.inside in
    (frees i.live.room i.live.blocks i.cache c.args.s c.of.result c.remove.new.self c.push.result c.push.new.self c.args.self.now c.self.view_is c.self.invariant c.requires c.of.ensures.value c.if-remove.ensures.0 c.if-remove.ensures.1 c.push.ensures).0

pub returns-then-remove : goal.returns-then-remove
returns-then-remove c =
    let i = c.self.inside in
    (frees i.live.room i.live.blocks i.cache c.args.s c.of.result c.remove.new.self c.push.result c.push.new.self c.args.self.now c.self.view_is c.self.invariant c.requires c.of.ensures.value c.if-remove.ensures.0 c.if-remove.ensures.1 c.push.ensures).1
