use Rattle.std.proofs.Common.{◌^◌, ◌∙◌, subst, ap, rules}
use Rattle.std.specs.Prelude.{nat_lt}
use Rattle.std.specs.List.Sorted.{IsNonDecreasingBy}
use Rattle.std.proofs.lemmas.List.Sorted.{IsPartitionPoint-from_clause, IsPartitionedBy-ltb}
use Rattle.mz_base.specs.Space.{Block}
use Rattle.mz_large.specs.Blocks.{BlocksView, IsPlaceOf}
use Rattle.mz_large.proofs.Places.{place-found, tiled-ascends}
use Rattle.mz_large.proofs.live.Live.place.Goals as goal

pub returns : goal.returns
returns c =
    let i = c.self.inside in
    let live = c.deref.result.now in
    let ascends : IsNonDecreasingBy (λ (b : Block). b.first) live = tiled-ascends (2 ^ 63) live 0 (rw c.deref.ensures.value c.self.invariant.0) in
    subst (λ l. IsPlaceOf l c.args.first c.partition_point.result) (c.deref.ensures.value ∙ ap (λ (v : BlocksView). v.blocks) c.self.view_is)
    (place-found live c.args.first c.partition_point.result c.partition_point.ensures.bound
    (IsPartitionPoint-from_clause (λ (b : Block). nat_lt b.first c.args.first) live c.partition_point.result c.partition_point.ensures.partitioned
    (IsPartitionedBy-ltb (λ (b : Block). b.first) live c.args.first ascends) (λ a r f' k. search rules)))
