use Rattle.std.proofs.Common.{◌≡◌, ◌*◌, false}
use Rattle.std.specs.List.{AllWithin}
use Rattle.mz_region.specs.Views.{RegionView}
use Rattle.mz_magazine.specs.Members.{region_has_room}
use Rattle.mz_magazine.proofs.search.lowest_with_room.Given as goal

-- none of those before is it
abbrev pub invariant-loop-member : goal.invariant-loop-member
invariant-loop-member g l = AllWithin (λ (r : RegionView). region_has_room (g.row.Q * g.row.N) (g.row.Q * l.n) l.al r ≡ false) l.members 0 l.member-index
