use Rattle.std.proofs.Common.{◌∙◌}
use Rattle.mz_holding.specs.HeldRuns.{run_of_held, live_of_held}
use Rattle.mz_holding.proofs.HeldLemmas.{clear_but_in_gaps}
use Rattle.mz_holding.proofs.held.Held.is_clear_but.Goals as goal

pub returns : goal.returns
returns c = c.lies_between.ensures ∙ clear_but_in_gaps (run_of_held c.args.self.now) (live_of_held c.args.self.now) c.args.a c.args.n c.gap-low.result.0 c.gap-high.result.1 c.args.self.now.blocks.spread c.requires.some c.requires.above c.requires.below c.gap-low.ensures.from c.gap-high.ensures.to c.gap-low.result.1 c.gap-high.result.0 c.gap-low.ensures.gap c.gap-high.ensures.gap
