use Rattle.std.proofs.Common.{ap, subst, sym, ◌∙◌, not}
use Rattle.mz_base.specs.Space.{block_at, same_block}
use Rattle.mz_holding.specs.Gaps.{AreSpread, blocks_of_pairs}
use Rattle.mz_holding.proofs.NeighbourLemmas.{remove_is_drop, spread_filter}
use Rattle.mz_holding.proofs.blocks.Blocks.remove.Goals as goal

pub returns : goal.returns
returns c = ap blocks_of_pairs c.remove.ensures.entries ∙ remove_is_drop c.args.self.now.sizes.entries c.args.a c.args._n c.args.self.now.spread c.requires

pub invariant_of-self : goal.invariant_of-self
invariant_of-self c = record { spread = subst AreSpread (sym (ap blocks_of_pairs c.remove.ensures.entries ∙ remove_is_drop c.args.self.now.sizes.entries c.args.a c.args._n c.args.self.now.spread c.requires)) (spread_filter (λ b. not (same_block (block_at c.args.a c.args._n) b)) (blocks_of_pairs c.args.self.now.sizes.entries) c.args.self.now.spread) }
