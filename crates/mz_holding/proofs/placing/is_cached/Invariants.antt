use Rattle.std.proofs.Common.{◌≡◌, drop}
use Rattle.std.specs.Prelude.{map}
use Rattle.mz_base.specs.Space.{run_at}
use Rattle.mz_base.specs.Lists.{has_run}
use Rattle.mz_holding.specs.HeldRuns.{run_of_extent}
use Rattle.mz_holding.proofs.placing.is_cached.Given as goal

abbrev pub invariant-loop-run : goal.invariant-loop-run
invariant-loop-run l = has_run (map run_of_extent l.cached) (run_at l.first l.pages) ≡ has_run (map run_of_extent (drop l.run-index l.cached)) (run_at l.first l.pages)
