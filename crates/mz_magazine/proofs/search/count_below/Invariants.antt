use Rattle.std.proofs.Common.{◌-◌, ◌<◌, ◌≤◌, length}
use Rattle.std.specs.List.{AllWithin}
use Rattle.mz_region.specs.Views.{RegionView}
use Rattle.mz_magazine.proofs.search.count_below.Given as goal

-- those before low begin at or below the address, and those from high on above it
abbrev pub invariant-loop-low : goal.invariant-loop-low
invariant-loop-low g l = record {
  order : l.low ≤ l.high;
  within : l.high ≤ length l.members;
  below : AllWithin (λ (r : RegionView). r.first ≤ l.a) l.members 0 l.low;
  above : AllWithin (λ (r : RegionView). l.a < r.first) l.members l.high (length l.members);
}

abbrev pub decreases-loop-low : goal.decreases-loop-low
decreases-loop-low g l = l.high - l.low
