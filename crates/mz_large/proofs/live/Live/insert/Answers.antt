use Rattle.std.proofs.Common.{◌≡◌, ℕ, ◌^◌, ◌≤◌, true, List, length, sym, ap, ◌∙◌, subst, arith}
use Rattle.std.specs.List.{list_all}
use Rattle.mz_base.specs.Space.{Block, block_end, blocks_apart}
use Rattle.mz_base.specs.Lists.{add_block}
use Rattle.mz_large.specs.Blocks.{BlocksView, IsTiled, IsPlaceOf}
use Rattle.mz_large.proofs.Places.{add-insert}
use Rattle.mz_large.proofs.Tiled.{tiled-add}
use Rattle.mz_large.proofs.live.Live.insert.Goals as goal

abbrev the_blocks : ℕ → List Block → BlocksView
the_blocks n l = record { room = n; blocks = l }

pub unreachable-requires : goal.unreachable-requires
unreachable-requires c =
    let i = c.self.inside in
    let lengths = ap (λ (v : BlocksView). length v.blocks) c.self.view_is in
    let rooms = ap (λ (v : BlocksView). v.room) c.self.view_is in
    let few = c.requires.room in
    let full = c.in-Err.ensures.full in
    let enough = c.self.invariant.1 in
    let ok = i.items.ok in
    omega arith

added : (c : goal.In-Ok) → c.insert.new.self.items ≡ add_block c.args.b c.self.inside.items.items
added c =
    let i = c.self.inside in
    let same = ap (λ (v : BlocksView). v.blocks) c.self.view_is in
    let apart : list_all (λ d. blocks_apart d c.args.b) i.items.items ≡ true = ap (list_all (λ d. blocks_apart d c.args.b)) same ∙ c.requires.apart in
    let place : IsPlaceOf c.args.self.now.blocks c.args.b.first c.place-place.result = subst (λ (b : Block). IsPlaceOf c.args.self.now.blocks b.first c.place-place.result) c.b.view_is c.place-place.ensures in
    c.in-Ok.ensures.items ∙ add-insert (2 ^ 63) i.items.items 0 c.args.b c.place-place.result c.self.invariant.0 c.requires.paged apart (subst (λ l. IsPlaceOf l c.args.b.first c.place-place.result) (sym same) place)

pub returns : goal.returns
returns c =
    ap (the_blocks c.self.inside.room) (added c) ∙ ap (λ (v : BlocksView). record v { blocks = add_block c.args.b v.blocks }) c.self.view_is

pub invariant_of-self : goal.invariant_of-self
invariant_of-self c =
    let i = c.self.inside in
    let same = ap (λ (v : BlocksView). v.blocks) c.self.view_is in
    let apart : list_all (λ d. blocks_apart d c.args.b) i.items.items ≡ true = ap (list_all (λ d. blocks_apart d c.args.b)) same ∙ c.requires.apart in
    let small = c.requires.small in
    let high : block_end c.args.b ≤ 2 ^ 63 = omega arith in
    let more = c.in-Ok.ensures.capacity in
    let room = c.self.invariant.1 in
    (subst (IsTiled (2 ^ 63) 0) (sym (added c)) (tiled-add (2 ^ 63) i.items.items 0 c.args.b c.self.invariant.0 (record { low = omega arith; paged = c.requires.paged; high = high }) apart), omega arith)
