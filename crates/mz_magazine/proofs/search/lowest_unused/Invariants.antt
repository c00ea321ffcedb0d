use Rattle.std.proofs.Common.{◌≡◌, false, length}
use Rattle.std.specs.Prelude.{◌==◌}
use Rattle.std.specs.List.{AllWithin}
use Rattle.mz_region.specs.Views.{RegionView}
use Rattle.mz_magazine.proofs.search.lowest_unused.Given as goal

-- none of those before is it
abbrev pub invariant-loop-member : goal.invariant-loop-member
invariant-loop-member g l = AllWithin (λ (r : RegionView). (length r.live == 0) ≡ false) l.members 0 l.member-index
