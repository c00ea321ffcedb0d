use Rattle.std.proofs.Common.{ap, sym, ◌∙◌}
use Rattle.mz_holding.specs.HeldRuns.{live_of_held}
use Rattle.mz_holding.proofs.WalkLemmas.{has_is_found, is_found}
use Rattle.mz_holding.proofs.held.Held.has_block.Goals as goal

pub returns-in-Some : goal.returns-in-Some
returns-in-Some c = sym (has_is_found (live_of_held c.args.self.now) c.args.a c.args.n c.args.self.now.blocks.spread ∙ ap (λ o. is_found o c.args.n) (sym c.find.ensures ∙ c.in-Some.is))

pub returns-in-None : goal.returns-in-None
returns-in-None c = sym (has_is_found (live_of_held c.args.self.now) c.args.a c.args.n c.args.self.now.blocks.spread ∙ ap (λ o. is_found o c.args.n) (sym c.find.ensures ∙ c.in-None.is))
