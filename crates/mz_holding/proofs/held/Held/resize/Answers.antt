use Rattle.std.proofs.Common.{◌+◌, ◌-◌, ◌*◌, ◌≤◌, not, subst, sym, ap, ◌∙◌, arith}
use Rattle.std.specs.Prelude.{max}
use Rattle.mz_base.specs.Space.{block_at, same_block}
use Rattle.mz_base.specs.Lists.{drop_block}
use Rattle.mz_holding.specs.Gaps.{IsGap, AreSpread}
use Rattle.mz_holding.specs.LiveBlocks.{IsHeld, IsIdleBound, live_of}
use Rattle.mz_holding.specs.HeldRuns.{live_of_held}
use Rattle.mz_holding.proofs.NeighbourLemmas.{spread_filter}
use Rattle.mz_holding.proofs.ChangeLemmas.{held_drop, drop_fits, held_add, add_fits, apart_without}
use Rattle.mz_holding.proofs.RoomLemmas.{bound_resized}
use Rattle.mz_holding.proofs.held.Held.resize.Goals as goal

pub overflow_sub-self : goal.overflow_sub-self
overflow_sub-self c = drop_fits c.args.self.now.first c.args.self.now.pages c.args.self.now.used (live_of_held c.args.self.now) c.args.self.now.sound c.args.self.now.blocks.spread c.args.a c.args.n c.requires.there

pub overflow_add-self : goal.overflow_add-self
overflow_add-self c =
    let less = held_drop c.args.self.now.first c.args.self.now.pages c.args.self.now.used (live_of_held c.args.self.now) c.args.self.now.sound c.args.self.now.blocks.spread c.args.a c.args.n c.requires.there in
    let limit = c.args.self.now.sound.1 in
    let fits : c.args.self.now.used - c.args.n + c.args.m ≤ c.args.self.now.pages * 16384 = add_fits c.args.self.now.first c.args.self.now.pages (c.args.self.now.used - c.args.n) (drop_block (block_at c.args.a c.args.n) (live_of_held c.args.self.now)) less (spread_filter (λ b. not (same_block (block_at c.args.a c.args.n) b)) (live_of_held c.args.self.now) c.args.self.now.blocks.spread) c.args.a c.args.m c.requires.some c.requires.lies (apart_without (live_of_held c.args.self.now) c.args.a c.args.n c.args.m c.args.self.now.blocks.spread c.requires.there c.requires.apart) in
    omega arith

pub invariant_of-self-2 : goal.invariant_of-self-2
invariant_of-self-2 c =
    let less = held_drop c.args.self.now.first c.args.self.now.pages c.args.self.now.used (live_of_held c.args.self.now) c.args.self.now.sound c.args.self.now.blocks.spread c.args.a c.args.n c.requires.there in
    record {
      sound = subst (IsHeld c.args.self.now.first c.args.self.now.pages (c.args.self.now.used - c.args.n + c.args.m)) (sym c.in_ok-resize.ensures.ok) (held_add c.args.self.now.first c.args.self.now.pages (c.args.self.now.used - c.args.n) (drop_block (block_at c.args.a c.args.n) (live_of_held c.args.self.now)) less (spread_filter (λ b. not (same_block (block_at c.args.a c.args.n) b)) (live_of_held c.args.self.now) c.args.self.now.blocks.spread) c.args.a c.args.m c.requires.some c.requires.lies (apart_without (live_of_held c.args.self.now) c.args.a c.args.n c.args.m c.args.self.now.blocks.spread c.requires.there c.requires.apart));
      bound = subst (λ k. IsIdleBound c.args.self.now.first c.args.self.now.pages k (live_of c.resize.new.self)) (sym (c.max-self.ensures ∙ ap (max c.args.self.now.most) c.saturating_sub.ensures))
          (subst (IsIdleBound c.args.self.now.first c.args.self.now.pages (max c.args.self.now.most (c.gap_within-low.result.1 - c.gap_within-low.result.0))) (sym c.in_ok-resize.ensures.ok)
          (bound_resized c.args.self.now.first c.args.self.now.pages c.args.self.now.most (live_of_held c.args.self.now) c.args.self.now.blocks.spread c.args.self.now.bound c.args.a c.args.n c.args.m c.gap_within-low.result.0 c.gap_within-low.result.1 c.requires.there c.requires.some (subst AreSpread c.in_ok-resize.ensures.ok c.resize.new.self.spread)
          (subst (λ bs. IsGap (c.args.self.now.first * 16384) ((c.args.self.now.first + c.args.self.now.pages) * 16384) bs (c.args.a + 1) c.gap_within-low.result.0 c.gap_within-low.result.1) c.in_ok-resize.ensures.ok c.gap_within-low.ensures.gap)));
    }
