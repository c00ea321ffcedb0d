use Rattle.std.proofs.Common.{ap, sym, ◌∙◌}
use Rattle.mz_holding.specs.HeldRuns.{run_of_held, live_of_held}
use Rattle.mz_holding.proofs.HeldLemmas.{is_near_from, front_found, front_alone, front_lower, front_upper}
use Rattle.mz_holding.proofs.held.Held.is_at_front.Goals as goal

pub returns-then-is_near : goal.returns-then-is_near
returns-then-is_near c = front_found (run_of_held c.args.self.now) (live_of_held c.args.self.now) c.args.a c.args.n c.args.al c.gap-low.result.0 c.gap-low.result.1 c.args.self.now.blocks.spread c.requires.some c.requires.whole c.requires.aligned c.gap-low.ensures.from c.gap-low.ensures.to c.gap-low.ensures.gap c.args.freed (sym c.is_near.ensures ∙ c.if-is_near.true)

pub returns-in-None : goal.returns-in-None
returns-in-None c = front_alone (run_of_held c.args.self.now) (live_of_held c.args.self.now) c.args.a c.args.n c.args.al c.gap-low.result.0 c.gap-low.result.1 c.args.self.now.blocks.spread c.requires.some c.requires.whole c.requires.aligned c.gap-low.ensures.from c.gap-low.ensures.to c.gap-low.ensures.gap c.args.freed (sym c.is_near.ensures ∙ c.if-is_near.false) c.in-None.is

pub returns-then-freed-a : goal.returns-then-freed-a
returns-then-freed-a c = front_lower (run_of_held c.args.self.now) (live_of_held c.args.self.now) c.args.a c.args.n c.args.al c.gap-low.result.0 c.gap-low.result.1 c.args.self.now.blocks.spread c.requires.some c.requires.whole c.requires.aligned c.gap-low.ensures.from c.gap-low.ensures.to c.gap-low.ensures.gap c.args.freed c.in-Some.freed c.is_near-then-freed-a.result (sym c.is_near.ensures ∙ c.if-is_near.false) c.in-Some.is c.requires.byte c.if-freed-a.true (c.is_near-then-freed-a.ensures ∙ ap (λ l. is_near_from l c.gap-low.result.1 c.args.a c.args.n c.args.al) c.max.ensures)

pub returns-else-freed-a : goal.returns-else-freed-a
returns-else-freed-a c = front_upper (run_of_held c.args.self.now) (live_of_held c.args.self.now) c.args.a c.args.n c.args.al c.gap-low.result.0 c.gap-low.result.1 c.args.self.now.blocks.spread c.requires.some c.requires.whole c.requires.aligned c.gap-low.ensures.from c.gap-low.ensures.to c.gap-low.ensures.gap c.args.freed c.in-Some.freed c.is_near-else-freed-a.result (sym c.is_near.ensures ∙ c.if-is_near.false) c.in-Some.is c.requires.byte c.if-freed-a.false (c.is_near-else-freed-a.ensures ∙ ap (λ t. is_near_from c.gap-low.result.0 t c.args.a c.args.n c.args.al) c.min.ensures)
