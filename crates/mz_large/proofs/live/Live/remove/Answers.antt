use Rattle.std.proofs.Common.{◌≡◌, ℕ, ◌^◌, ◌<◌, true, List, length, get_or, sym, ap, ◌∙◌, subst, refl, arith}
use Rattle.std.specs.List.{remove}
use Rattle.mz_base.specs.Space.{Block}
use Rattle.mz_base.specs.Lists.{has_block, drop_block}
use Rattle.mz_large.specs.Blocks.{BlocksView, IsTiled, IsPlaceOf}
use Rattle.mz_large.proofs.Places.{not-there, there, removed-dropped, dropped-tiled}
use Rattle.mz_large.proofs.live.Live.remove.Goals as goal
use Rattle.mz_large.proofs.live.Live.remove.Goals.{then-there-b-via-then-there-b, then-there-b-via-else-there-b+then-there-b-2}

abbrev the_blocks : ℕ → List Block → BlocksView
the_blocks n l = record { room = n; blocks = l }

pub returns-then-place-len : goal.returns-then-place-len
returns-then-place-len c =
    let i = c.self.inside in
    let same = ap (λ (v : BlocksView). v.blocks) c.self.view_is in
    let place : IsPlaceOf i.items.items c.args.b.first c.place-place.result = subst (λ l. IsPlaceOf l c.args.b.first c.place-place.result) (sym same) (subst (λ f. IsPlaceOf c.args.self.now.blocks f c.place-place.result) (ap (λ (d : Block). d.first) c.b.view_is) c.place-place.ensures) in
    let long = c.len.ensures in
    let ok = i.items.ok in
    let far = c.if-place-len.true in
    (ap (λ l. has_block l c.args.b) (sym same) ∙ not-there (2 ^ 63) i.items.items 0 c.args.b c.place-place.result c.args.b c.self.invariant.0 place (λ within is. absurd (omega arith)), refl)

pub returns-then-there-b : goal.returns-then-there-b
returns-then-there-b c =
    let i = c.self.inside in
    let same = ap (λ (v : BlocksView). v.blocks) c.self.view_is in
    let place : IsPlaceOf i.items.items c.args.b.first c.place-place.result = subst (λ l. IsPlaceOf l c.args.b.first c.place-place.result) (sym same) (subst (λ f. IsPlaceOf c.args.self.now.blocks f c.place-place.result) (ap (λ (d : Block). d.first) c.b.view_is) c.place-place.ensures) in
    let first = ap (λ (d : Block). d.first) (c.there.view_is ∙ c.index-there.ensures) in
    let size = ap (λ (d : Block). d.size) (c.there.view_is ∙ c.index-there.ensures) in
    let own_first = ap (λ (d : Block). d.first) c.b.view_is in
    let own_size = ap (λ (d : Block). d.size) c.b.view_is in
    let other : c.place-place.result < length i.items.items → get_or i.items.items c.place-place.result c.index-there.result.now ≡ c.args.b → ⊥ =
    elim c.then-there-b.branch [
      | then-there-b-via-then-there-b w ↦ λ within is. w.if-there-b.true (first ∙ ap (λ (d : Block). d.first) is ∙ sym own_first)
      | then-there-b-via-else-there-b+then-there-b-2 w ↦ λ within is. w.if-there-b-2.true (size ∙ ap (λ (d : Block). d.size) is ∙ sym own_size)
    ] in
    (ap (λ l. has_block l c.args.b) (sym same) ∙ not-there (2 ^ 63) i.items.items 0 c.args.b c.place-place.result c.index-there.result.now c.self.invariant.0 place other, refl)

-- the block at its place is dropped
record IsDropped (bs items new : List Block) (b : Block) : Type 0 where
  among : has_block bs b ≡ true
  is : new ≡ drop_block b items
  tiled : IsTiled (2 ^ 63) 0 new

drops : (bs items new : List Block) (b : Block) (place : ℕ) (d : Block)
    → items ≡ bs → IsTiled (2 ^ 63) 0 items → IsPlaceOf bs b.first place → place < length items → d ≡ get_or items place d → d ≡ b → new ≡ remove items place
    → IsDropped bs items new b
drops bs items new b place d same tiled at within here is removed =
    let among = there items b place d within (sym here ∙ is) in
    let own : IsPlaceOf items b.first place = subst (λ l. IsPlaceOf l b.first place) (sym same) at in
    let done = removed-dropped (2 ^ 63) items items new b b.first place refl tiled among refl own removed in
    record { among = ap (λ l. has_block l b) (sym same) ∙ among; is = done; tiled = dropped-tiled (2 ^ 63) items items new b refl tiled done }

same-parts : (b d : Block) → d.first ≡ b.first → d.size ≡ b.size → d ≡ b
same-parts b d first size = ap (λ n. record { first = n; size = d.size }) first ∙ ap (λ n. record { first = b.first; size = n }) size

dropped : (c : goal.After-remove) → IsDropped c.args.self.now.blocks c.self.inside.items.items c.remove.new.self.items c.args.b
dropped c =
    let i = c.self.inside in
    let place : IsPlaceOf c.args.self.now.blocks c.args.b.first c.place-place.result = subst (λ (b : Block). IsPlaceOf c.args.self.now.blocks b.first c.place-place.result) c.b.view_is c.place-place.ensures in
    let first : c.index-there.result.now.first ≡ c.args.b.first = ap (λ (b : Block). b.first) (sym c.there.view_is) ∙ c.if-there-b.false ∙ ap (λ (b : Block). b.first) c.b.view_is in
    let size : c.index-there.result.now.size ≡ c.args.b.size = ap (λ (b : Block). b.size) (sym c.there.view_is) ∙ c.if-there-b-2.false ∙ ap (λ (b : Block). b.size) c.b.view_is in
    let long = c.len.ensures in
    let ok = i.items.ok in
    let near = c.if-place-len.false in
    drops c.args.self.now.blocks i.items.items c.remove.new.self.items c.args.b c.place-place.result c.index-there.result.now (ap (λ (v : BlocksView). v.blocks) c.self.view_is) c.self.invariant.0 place (omega arith)
    c.index-there.ensures (same-parts c.args.b c.index-there.result.now first size) c.remove.ensures.items

pub returns : goal.returns
returns c =
    let done = dropped c in
    (done.among, ap (the_blocks c.self.inside.room) done.is ∙ ap (λ (v : BlocksView). record v { blocks = drop_block c.args.b v.blocks }) c.self.view_is)

pub invariant_of-self : goal.invariant_of-self
invariant_of-self c =
    let more = c.remove.ensures.capacity in
    let room = c.self.invariant.1 in
    ((dropped c).tiled, omega arith)
