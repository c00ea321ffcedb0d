use Rattle.std.proofs.Common.{◌≡◌, ◌*◌, false}
use Rattle.std.specs.Prelude.{nat_lt}
use Rattle.std.specs.List.{AllWithin}
use Rattle.mz_region.specs.Views.{RegionView}
use Rattle.mz_base.specs.Lists.{size_sum}
use Rattle.mz_magazine.proofs.search.lowest_sparse.Given as goal

-- none of those before is it
abbrev pub invariant-loop-member : goal.invariant-loop-member
invariant-loop-member g l = AllWithin (λ (r : RegionView). nat_lt (4 * size_sum r.live) (3 * (g.row.Q * g.row.N)) ≡ false) l.members 0 l.member-index
