use Rattle.std.proofs.Common.{◌≡◌, ◌≤◌, drop, length}
use Rattle.std.specs.Prelude.{map}
use Rattle.std.specs.Option.{option_map}
use Rattle.mz_events.specs.Room.{best_fit}
use Rattle.mz_holding.specs.HeldRuns.{run_of_extent}
use Rattle.mz_holding.proofs.placing.best_fit.Given as goal

abbrev pub invariant-loop-i : goal.invariant-loop-i
invariant-loop-i l = record {
  within : l.i ≤ length l.cached;
  best : option_map run_of_extent l.best ≡ best_fit (map run_of_extent (drop l.i l.cached)) l.pages;
}

abbrev pub decreases-loop-i : goal.decreases-loop-i
decreases-loop-i l = l.i
