use Rattle.std.proofs.Common.{ap, subst, sym, ◌∙◌, inl, inr}
use Rattle.mz_base.specs.Space.{block_at}
use Rattle.mz_holding.specs.Gaps.{AreSpread, blocks_of_pairs}
use Rattle.mz_holding.proofs.NeighbourLemmas.{insert_is_add, spread_add, either_way}
use Rattle.mz_holding.proofs.blocks.Blocks.insert.Goals as goal

pub invariant_of-self : goal.invariant_of-self
invariant_of-self c = record {
  spread =
      elim (either_way c.insert.result _ _ c.insert.ensures.entries c.insert.ensures.err) [
        | inl yes_ ↦ subst AreSpread (sym (ap blocks_of_pairs yes_ ∙ insert_is_add c.args.self.now.sizes.entries c.args.a c.args.n c.requires.some c.args.self.now.spread c.requires.apart)) (spread_add (block_at c.args.a c.args.n) (blocks_of_pairs c.args.self.now.sizes.entries) c.requires.some c.requires.fits c.requires.apart c.args.self.now.spread)
        | inr no_ ↦ subst (λ es. AreSpread (blocks_of_pairs es)) (sym no_) c.args.self.now.spread
      ];
}

pub returns-clause-ok : goal.returns-clause-ok
returns-clause-ok c = ap blocks_of_pairs c.in_ok-insert.ensures.entries ∙ insert_is_add c.args.self.now.sizes.entries c.args.a c.args.n c.requires.some c.args.self.now.spread c.requires.apart
