use Rattle.std.proofs.Common.{◌≡◌, ◌++◌, drop}
use Rattle.std.specs.Prelude.{map}
use Rattle.mz_holding.specs.HeldRuns.{run_of_extent, run_of_held}
use Rattle.mz_holding.proofs.runs.list_runs.Given as goal

abbrev pub invariant-loop-held : goal.invariant-loop-held
invariant-loop-held l = map run_of_extent l.list.items ++ map run_of_held (drop l.held-index l.runs) ≡ map run_of_held l.runs
