use Rattle.std.proofs.Common.{rules}
use Rattle.std.specs.Prelude.{nat_le}
use Rattle.std.proofs.lemmas.List.Sorted.{IsPartitionedBy-leb, IsPartitionPoint-from_clause}
use Rattle.mz_holding.proofs.OrderLemmas.{not_falling, all_taken, all_left_over}
use Rattle.mz_holding.proofs.runs.count_to.Goals as goal

pub returns-clause-below : goal.returns-clause-below
returns-clause-below c =
    let parted = IsPartitionedBy-leb (λ h. h.first) c.args.runs.now c.args.page (not_falling c.args.runs.now c.requires) in
    let point = IsPartitionPoint-from_clause (λ h. nat_le h.first c.args.page) _ _ c.partition_point.ensures.partitioned parted (λ a r q k. search rules) in
    all_taken c.args.runs.now c.args.page c.partition_point.result c.partition_point.ensures.bound point.0

pub returns-clause-above : goal.returns-clause-above
returns-clause-above c =
    let parted = IsPartitionedBy-leb (λ h. h.first) c.args.runs.now c.args.page (not_falling c.args.runs.now c.requires) in
    let point = IsPartitionPoint-from_clause (λ h. nat_le h.first c.args.page) _ _ c.partition_point.ensures.partitioned parted (λ a r q k. search rules) in
    all_left_over c.args.runs.now c.args.page c.partition_point.result c.partition_point.ensures.bound point.1
