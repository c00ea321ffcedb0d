use Rattle.std.proofs.Common.{◌≡◌, ap, ◌∙◌, arith}
use Rattle.mz_base.specs.Lists.{size_sum}
use Rattle.mz_region.specs.Views.{RegionView}
use Rattle.mz_region.proofs.Kept.{sum_within, all_small}
use Rattle.mz_region.proofs.region.Region.idle_bytes.Goals as goal

pub overflow_mul-result : goal.overflow_mul-result
overflow_mul-result g c =
    let i = c.self.inside in
    let held = c.self.invariant in
    let small = all_small g.row.Q g.row.N i.first i.begins i.in_use i.ground i.live_bytes i.count held in
    omega arith

pub overflow_sub-result : goal.overflow_sub-result
overflow_sub-result g c =
    let i = c.self.inside in
    let held = c.self.invariant in
    sum_within g.row.Q g.row.N i.first i.begins i.in_use i.ground i.live_bytes i.count held

pub returns : goal.returns
returns g c =
    let i = c.self.inside in
    let held = c.self.invariant in
    let within = sum_within g.row.Q g.row.N i.first i.begins i.in_use i.ground i.live_bytes i.count held in
    let sum : i.live_bytes ≡ size_sum c.args.self.now.live = held.sum ∙ ap (λ (v : RegionView). size_sum v.live) c.self.view_is in
    omega arith
