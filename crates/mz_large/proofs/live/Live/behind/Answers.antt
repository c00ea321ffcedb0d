use Rattle.std.proofs.Common.{◌^◌, ◌/◌, ◌∙◌, subst, sym, ap, rules}
use Rattle.std.specs.Prelude.{nat_le}
use Rattle.std.proofs.lemmas.List.Sorted.{IsPartitionPoint-from_clause, IsPartitionedBy-leb}
use Rattle.mz_base.specs.declared.range.TheConstants.{PAGE}
use Rattle.mz_base.specs.Space.{Block}
use Rattle.mz_large.specs.Blocks.{BlocksView, IsTiled, IsPlaceBehind}
use Rattle.mz_large.proofs.Places.{split-found, pages-ascend}
use Rattle.mz_large.proofs.live.Live.behind.Goals as goal

pub returns : goal.returns
returns c =
    let live = c.deref.result.now in
    let tiled : IsTiled (2 ^ 63) 0 live = subst (λ l. IsTiled (2 ^ 63) 0 l) (sym c.deref.ensures.value) c.self.invariant.0 in
    subst (λ l. IsPlaceBehind l c.args.page c.partition_point.result) (c.deref.ensures.value ∙ ap (λ (v : BlocksView). v.blocks) c.self.view_is)
    (split-found live c.args.page c.partition_point.result c.partition_point.ensures.bound
    (IsPartitionPoint-from_clause (λ (b : Block). nat_le (b.first / PAGE) c.args.page) live c.partition_point.result c.partition_point.ensures.partitioned
    (IsPartitionedBy-leb (λ (b : Block). b.first / PAGE) live c.args.page (pages-ascend (2 ^ 63) live tiled)) (λ a r f' k. search rules)))
