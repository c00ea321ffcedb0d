use Rattle.std.proofs.Common.{◌≡◌, ℕ, suc, ◌-◌, ◌^◌, ◌/◌, ◌≤◌, true, false, List, get_or, sym, ap, ◌∙◌, subst, arith}
use Rattle.mz_base.specs.declared.range.TheConstants.{PAGE}
use Rattle.mz_base.specs.Space.{Block}
use Rattle.mz_base.specs.Lists.{has_block}
use Rattle.mz_events.specs.Separation.{has_page}
use Rattle.mz_events.specs.Changes.{run_of}
use Rattle.mz_large.specs.Blocks.{BlocksView, IsTiled, IsPlaceBehind}
use Rattle.mz_large.proofs.Places.{held-none, held-not, page-within, page-above, there}
use Rattle.mz_large.proofs.live.Live.holding.Goals as goal

pub returns-then-behind-eq0 : goal.returns-then-behind-eq0
returns-then-behind-eq0 c = held-none c.args.self.now.blocks c.args.page (subst (IsPlaceBehind c.args.self.now.blocks c.args.page) c.if-behind-eq0.true c.behind-behind.ensures)

-- the last of the blocks that begin in the page or before it
record IsLast (bs : List Block) (page behind : ℕ) (b : Block) : Type 0 where
  after : behind ≡ suc (behind - 1)
  here : get_or bs (behind - 1) b ≡ b
  begins : b.first / PAGE ≤ page
  among : has_block bs b ≡ true

is-last : (items bs : List Block) (page behind : ℕ) (b : Block) → items ≡ bs → IsPlaceBehind bs page behind → (behind ≡ 0 → ⊥) → b ≡ get_or items (behind - 1) b → IsLast bs page behind b
is-last items bs page behind b same split some is =
    let within = split.within in
    let here : get_or bs (behind - 1) b ≡ b = ap (λ l. get_or l (behind - 1) b) (sym same) ∙ sym is in
    record {
      after = omega arith;
      here = here;
      begins = subst (λ (d : Block). d.first / PAGE ≤ page) here (split.before (behind - 1) b (omega arith) (omega arith));
      among = there bs b (behind - 1) b (omega arith) here;
    }

pub overflow_sub-page : goal.overflow_sub-page
overflow_sub-page c =
    let last = is-last c.self.inside.items.items c.args.self.now.blocks c.args.page c.behind-behind.result c.index-block.result.now (ap (λ (v : BlocksView). v.blocks) c.self.view_is) c.behind-behind.ensures c.if-behind-eq0.false c.index-block.ensures in
    subst (λ (b : Block). b.first / PAGE ≤ c.args.page) (sym c.block.view_is) last.begins

pub returns-then-page-block : goal.returns-then-page-block
returns-then-page-block c =
    let last = is-last c.self.inside.items.items c.args.self.now.blocks c.args.page c.behind-behind.result c.index-block.result.now (ap (λ (v : BlocksView). v.blocks) c.self.view_is) c.behind-behind.ensures c.if-behind-eq0.false c.index-block.ensures in
    let begins = last.begins in
    let near = c.if-page-block.true in
    let first : c.block.inside.first / PAGE ≡ c.index-block.result.now.first / PAGE = ap (λ (b : Block). b.first / PAGE) c.block.view_is in
    let size : c.block.inside.size / PAGE ≡ c.index-block.result.now.size / PAGE = ap (λ (b : Block). b.size / PAGE) c.block.view_is in
    (last.among, page-within c.index-block.result.now c.args.page last.begins (omega arith))

pub returns-else-page-block : goal.returns-else-page-block
returns-else-page-block c =
    let last = is-last c.self.inside.items.items c.args.self.now.blocks c.args.page c.behind-behind.result c.index-block.result.now (ap (λ (v : BlocksView). v.blocks) c.self.view_is) c.behind-behind.ensures c.if-behind-eq0.false c.index-block.ensures in
    let begins = last.begins in
    let far = c.if-page-block.false in
    let first : c.block.inside.first / PAGE ≡ c.index-block.result.now.first / PAGE = ap (λ (b : Block). b.first / PAGE) c.block.view_is in
    let size : c.block.inside.size / PAGE ≡ c.index-block.result.now.size / PAGE = ap (λ (b : Block). b.size / PAGE) c.block.view_is in
    let none : has_page (run_of (get_or c.args.self.now.blocks (c.behind-behind.result - 1) c.index-block.result.now)) c.args.page ≡ false =
    ap (λ (b : Block). has_page (run_of b) c.args.page) last.here ∙ page-above c.index-block.result.now c.args.page (omega arith) in
    held-not (2 ^ 63) c.args.self.now.blocks 0 c.args.page (c.behind-behind.result - 1) c.index-block.result.now (subst (λ (v : BlocksView). IsTiled (2 ^ 63) 0 v.blocks) c.self.view_is c.self.invariant.0)
    (subst (IsPlaceBehind c.args.self.now.blocks c.args.page) last.after c.behind-behind.ensures) none
