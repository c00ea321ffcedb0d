use Rattle.std.proofs.Common.{◌≡◌, ◌^◌, ◌<◌, length, get_or, sym, ap, ◌∙◌, subst, arith}
use Rattle.mz_base.specs.Space.{Block}
use Rattle.mz_base.specs.Lists.{size_at}
use Rattle.mz_large.specs.Blocks.{BlocksView, IsPlaceOf}
use Rattle.mz_large.proofs.Places.{size-there, size-none}
use Rattle.std.proofs.lemmas.List.{get_or_default}
use Rattle.mz_large.proofs.live.Live.size_at.Goals as goal
use Rattle.mz_large.proofs.live.Live.size_at.Goals.{else-place-len-via-then-place-len+else-index-a, else-place-len-via-else-place-len}

pub returns-then-index-a : goal.returns-then-index-a
returns-then-index-a c =
    let i = c.self.inside in
    let same = ap (λ (v : BlocksView). v.blocks) c.self.view_is in
    let place : IsPlaceOf i.items.items c.args.a c.place-place.result = subst (λ l. IsPlaceOf l c.args.a c.place-place.result) (sym same) c.place-place.ensures in
    let long = c.len.ensures in
    let ok = i.items.ok in
    let near = c.if-place-len.true in
    let within : c.place-place.result < length i.items.items = omega arith in
    let x = c.index-then-index-a.result.now in
    let here : get_or i.items.items c.place-place.result c.index-then-index-a.result.now ≡ c.index-then-index-a.result.now = sym c.index-then-index-a.ensures in
    let both : c.index.result.now ≡ get_or i.items.items c.place-place.result c.index-then-index-a.result.now = c.index.ensures ∙ get_or_default i.items.items c.place-place.result c.index.result.now c.index-then-index-a.result.now within in
    let at : (get_or i.items.items c.place-place.result c.index-then-index-a.result.now).first ≡ c.args.a = ap (λ (d : Block). d.first) (sym both ∙ sym c.behind-self.view_is) ∙ c.if-index-a.true in
    ap (λ (d : Block). d.size) (c.behind-self-then-index-a.view_is ∙ sym here)
    ∙ sym (size-there (2 ^ 63) i.items.items 0 c.args.a c.place-place.result c.index-then-index-a.result.now c.self.invariant.0 place within at) ∙ ap (λ l. size_at l c.args.a) same

pub returns-else-place-len : goal.returns-else-place-len
returns-else-place-len c =
    let i = c.self.inside in
    let same = ap (λ (v : BlocksView). v.blocks) c.self.view_is in
    let place : IsPlaceOf i.items.items c.args.a c.place-place.result = subst (λ l. IsPlaceOf l c.args.a c.place-place.result) (sym same) c.place-place.ensures in
    let long = c.len.ensures in
    let ok = i.items.ok in
    let other : (d : Block) → c.place-place.result < length i.items.items → (get_or i.items.items c.place-place.result d).first ≡ c.args.a → ⊥ =
    elim c.else-place-len.branch [
      | else-place-len-via-then-place-len+else-index-a w ↦ λ d within at. w.if-index-a.false (ap (λ (e : Block). e.first) (w.behind-self.view_is ∙ w.index.ensures ∙ get_or_default i.items.items c.place-place.result w.index.result.now d within) ∙ at)
      | else-place-len-via-else-place-len w ↦ λ d within at. let far = w.if-place-len.false in absurd (omega arith)
    ] in
    sym (size-none (2 ^ 63) i.items.items 0 c.args.a c.place-place.result c.self.invariant.0 place other) ∙ ap (λ l. size_at l c.args.a) same
