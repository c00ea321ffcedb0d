use Rattle.std.proofs.Common.{◌≡◌, ◌*◌, false}
use Rattle.std.specs.List.{AllWithin}
use Rattle.mz_region.specs.Views.{RegionView}
use Rattle.mz_magazine.specs.Members.{region_has_room}
use Rattle.mz_magazine.proofs.search.alloc_in_lowest.Given as goal

-- nothing has changed, and no region before the i-th has room
abbrev pub invariant-loop-i : goal.invariant-loop-i
invariant-loop-i g l = record {
  same : l.members ≡ l.initial.members;
  none : AllWithin (λ (r : RegionView). region_has_room (g.row.Q * g.row.N) (g.row.Q * l.n) l.al r ≡ false) l.members 0 l.i;
}
