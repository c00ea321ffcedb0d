use Rattle.std.proofs.Common.{◌≡◌, drop}
use Rattle.std.specs.Prelude.{map}
use Rattle.mz_events.specs.Room.{any_fits}
use Rattle.mz_holding.specs.HeldRuns.{run_of_extent}
use Rattle.mz_holding.proofs.placing.any_fits.Given as goal

abbrev pub invariant-loop-run : goal.invariant-loop-run
invariant-loop-run l = any_fits (map run_of_extent l.cached) l.pages ≡ any_fits (map run_of_extent (drop l.run-index l.cached)) l.pages
