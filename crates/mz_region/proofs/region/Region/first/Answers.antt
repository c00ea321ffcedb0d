use Rattle.std.proofs.Common.{subst}
use Rattle.mz_region.specs.Views.{IsRegion}
use Rattle.mz_region.proofs.Kept.{region_is}
use Rattle.mz_region.proofs.region.Region.first.Goals as goal

pub returns-clause-is : goal.returns-clause-is
returns-clause-is g c =
    let i = c.self.inside in
    let held = c.self.invariant in
    subst (IsRegion g.row.Q g.row.N) c.self.view_is (region_is g.row.Q g.row.N i.first i.begins i.in_use i.ground i.live_bytes i.count held)
