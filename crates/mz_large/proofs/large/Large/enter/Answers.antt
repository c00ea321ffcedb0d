use Rattle.std.proofs.Common.{◌≡◌, ℕ, ◌^◌, ◌<◌, true, List, length, sym, ap, ◌∙◌, subst}
use Rattle.std.specs.List.{list_all}
use Rattle.mz_base.specs.Space.{Block, runs_apart, blocks_apart, block_end}
use Rattle.mz_base.specs.Lists.{add_block}
use Rattle.mz_ground.specs.Views.{SpanView}
use Rattle.mz_events.specs.Changes.{with_block, with_run}
use Rattle.mz_events.specs.Standing.{LargeKept}
use Rattle.mz_large.specs.Blocks.{BlocksView, IsPaged}
use Rattle.mz_large.specs.Large.{run_of_span, block_of, keeping_of, IsLarge}
use Rattle.mz_large.proofs.Keeping.{HasEntered, entered}
use Rattle.mz_large.proofs.large.Large.enter.Goals as goal

enters : (room : ℕ) (live : List Block) (cached : List SpanView) (now : LargeKept) (s : SpanView) (b : Block)
    → keeping_of room live cached ≡ now → IsLarge room live cached
    → length now.kept.runs < now.room → IsPaged (block_of s) → list_all (λ r. runs_apart r (run_of_span s)) now.kept.runs ≡ true
    → b ≡ block_of s → block_end b < 2 ^ 63 → HasEntered room live cached (block_of s)
enters room live cached now s b view large few paged apart is small =
    entered room live cached (block_of s) large (subst (λ (v : LargeKept). length v.kept.runs < v.room) (sym view) few) paged (subst (λ d. block_end d < 2 ^ 63) is small)
    (ap (λ (v : LargeKept). list_all (λ r. runs_apart r (run_of_span s)) v.kept.runs) view ∙ apart)

pub insert-requires : goal.insert-requires
insert-requires c =
    let i = c.self.inside in
    let is = c.of.ensures.value in
    let done = enters i.live.room i.live.blocks i.cache c.args.self.now c.args.s.now c.of.result c.self.view_is c.self.invariant c.requires.room c.requires.paged c.requires.apart is c.of.ensures.small in
    record {
      room = done.free;
      paged = subst (λ b. IsPaged b) (sym is) c.requires.paged;
      small = c.of.ensures.small;
      apart = subst (λ b. list_all (λ e. blocks_apart e b) c.self.inside.live.blocks ≡ true) (sym is) done.apart;
    }

pub returns : goal.returns
returns c =
    let i = c.self.inside in
    let is = c.of.ensures.value in
    let done = enters i.live.room i.live.blocks i.cache c.args.self.now c.args.s.now c.of.result c.self.view_is c.self.invariant c.requires.room c.requires.paged c.requires.apart is c.of.ensures.small in
    ap (λ (v : BlocksView). keeping_of v.room v.blocks i.cache) (c.insert.ensures ∙ ap (λ b. record i.live { blocks = add_block b i.live.blocks }) is)
    ∙ done.is ∙ ap (λ (v : LargeKept). record v { kept = with_block (block_of c.args.s.now) (with_run (run_of_span c.args.s.now) v.kept) }) c.self.view_is

pub invariant_of-self : goal.invariant_of-self
invariant_of-self c =
    let i = c.self.inside in
    let is = c.of.ensures.value in
    let done = enters i.live.room i.live.blocks i.cache c.args.self.now c.args.s.now c.of.result c.self.view_is c.self.invariant c.requires.room c.requires.paged c.requires.apart is c.of.ensures.small in
    subst (λ (v : BlocksView). IsLarge v.room v.blocks i.cache) (sym (c.insert.ensures ∙ ap (λ b. record i.live { blocks = add_block b i.live.blocks }) is)) done.large
