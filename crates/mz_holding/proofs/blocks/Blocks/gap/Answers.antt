use Rattle.std.specs.Ordering.{nat_cmp}
use Rattle.std.specs.BTreeMap.Range.{range_contains}
use Rattle.std.specs.declared.ops.Bound.TheVariants.{Excluded, Unbounded}
use Rattle.std.proofs.Common.{subst, sym}
use Rattle.mz_holding.specs.Gaps.{IsGap, far, blocks_of_pairs, end_or_none}
use Rattle.mz_holding.proofs.NeighbourLemmas.{gap_of_ranges, last_fits}
use Rattle.mz_holding.proofs.blocks.Blocks.gap.Goals as goal

pub end_of-requires : goal.end_of-requires
end_of-requires c = last_fits c.args.self.now.sizes.entries (λ e. range_contains nat_cmp Unbounded (Excluded c.args.a) e.0) c.last_below-below.result c.args.self.now.spread c.last_below-below.ensures

pub returns : goal.returns
returns c =
    let h = gap_of_ranges c.args.self.now.sizes.entries c.args.a c.last_below-below.result c.first_from-above.result c.args.self.now.spread c.last_below-below.ensures c.first_from-above.ensures in
    subst (λ l. IsGap 0 far (blocks_of_pairs c.args.self.now.sizes.entries) c.args.a l c.start_of.result) (sym c.end_of.ensures)
    (subst (λ t. IsGap 0 far (blocks_of_pairs c.args.self.now.sizes.entries) c.args.a (end_or_none c.last_below-below.result) t) (sym c.start_of.ensures) h)
