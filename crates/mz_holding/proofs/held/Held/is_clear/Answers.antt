use Rattle.std.proofs.Common.{◌∙◌}
use Rattle.mz_holding.specs.HeldRuns.{run_of_held, live_of_held}
use Rattle.mz_holding.proofs.HeldLemmas.{clear_in_gap}
use Rattle.mz_holding.proofs.held.Held.is_clear.Goals as goal

pub returns : goal.returns
returns c = c.lies_between.ensures ∙ clear_in_gap (run_of_held c.args.self.now) (live_of_held c.args.self.now) c.args.a c.args.n c.gap-low.result.0 c.gap-low.result.1 c.args.self.now.blocks.spread c.requires.some c.requires.above c.requires.below c.gap-low.ensures.from c.gap-low.ensures.to c.gap-low.ensures.gap
