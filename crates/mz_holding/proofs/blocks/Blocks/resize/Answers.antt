use Rattle.std.proofs.Common.{ap, subst, sym, ◌∙◌, inl, inr}
use Rattle.mz_holding.specs.Gaps.{AreSpread, blocks_of_pairs}
use Rattle.mz_holding.proofs.NeighbourLemmas.{insert_is_resize, either_way}
use Rattle.mz_holding.proofs.ChangeLemmas.{spread_resized}
use Rattle.mz_holding.proofs.blocks.Blocks.resize.Goals as goal

pub invariant_of-self : goal.invariant_of-self
invariant_of-self c = record {
  spread =
      elim (either_way c.insert.result _ _ c.insert.ensures.entries c.insert.ensures.err) [
        | inl yes_ ↦ subst AreSpread (sym (ap blocks_of_pairs yes_ ∙ insert_is_resize c.args.self.now.sizes.entries c.args.a c.args._n c.args.m c.args.self.now.spread c.requires.there)) (spread_resized (blocks_of_pairs c.args.self.now.sizes.entries) c.args.a c.args._n c.args.m c.args.self.now.spread c.requires.some c.requires.fits c.requires.there c.requires.apart)
        | inr no_ ↦ subst (λ es. AreSpread (blocks_of_pairs es)) (sym no_) c.args.self.now.spread
      ];
}

pub returns-clause-ok : goal.returns-clause-ok
returns-clause-ok c = ap blocks_of_pairs c.in_ok-insert.ensures.entries ∙ insert_is_resize c.args.self.now.sizes.entries c.args.a c.args._n c.args.m c.args.self.now.spread c.requires.there
