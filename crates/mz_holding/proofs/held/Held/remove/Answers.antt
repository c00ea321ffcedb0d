use Rattle.std.proofs.Common.{◌+◌, ◌-◌, ◌*◌, subst, sym, ap, ◌∙◌}
use Rattle.std.specs.Prelude.{max}
use Rattle.mz_base.specs.Space.{block_at}
use Rattle.mz_holding.specs.Gaps.{IsGap}
use Rattle.mz_holding.specs.LiveBlocks.{IsHeld, IsIdleBound, live_of}
use Rattle.mz_holding.specs.HeldRuns.{live_of_held}
use Rattle.mz_holding.proofs.ChangeLemmas.{held_drop, drop_fits}
use Rattle.mz_holding.proofs.RoomLemmas.{bound_dropped}
use Rattle.mz_holding.proofs.held.Held.remove.Goals as goal

pub overflow_sub-self : goal.overflow_sub-self
overflow_sub-self c = drop_fits c.args.self.now.first c.args.self.now.pages c.args.self.now.used (live_of_held c.args.self.now) c.args.self.now.sound c.args.self.now.blocks.spread c.args.a c.args.n c.requires

pub invariant_of-self : goal.invariant_of-self
invariant_of-self c = record {
  sound = subst (IsHeld c.args.self.now.first c.args.self.now.pages (c.args.self.now.used - c.args.n)) (sym c.remove.ensures) (held_drop c.args.self.now.first c.args.self.now.pages c.args.self.now.used (live_of_held c.args.self.now) c.args.self.now.sound c.args.self.now.blocks.spread c.args.a c.args.n c.requires);
  bound = subst (λ k. IsIdleBound c.args.self.now.first c.args.self.now.pages k (live_of c.remove.new.self)) (sym (c.max-self.ensures ∙ ap (max c.args.self.now.most) c.saturating_sub.ensures))
      (subst (IsIdleBound c.args.self.now.first c.args.self.now.pages (max c.args.self.now.most (c.gap_within-low.result.1 - c.gap_within-low.result.0))) (sym c.remove.ensures)
      (bound_dropped c.args.self.now.first c.args.self.now.pages c.args.self.now.most (live_of_held c.args.self.now) c.args.self.now.blocks.spread c.args.self.now.bound (block_at c.args.a c.args.n) c.gap_within-low.result.0 c.gap_within-low.result.1 c.requires
      (subst (λ bs. IsGap (c.args.self.now.first * 16384) ((c.args.self.now.first + c.args.self.now.pages) * 16384) bs c.args.a c.gap_within-low.result.0 c.gap_within-low.result.1) c.remove.ensures c.gap_within-low.ensures.gap)));
}
