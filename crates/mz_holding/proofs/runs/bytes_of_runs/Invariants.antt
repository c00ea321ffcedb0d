use Rattle.std.proofs.Common.{◌≡◌, ◌+◌, drop}
use Rattle.std.specs.Prelude.{map, sum_by}
use Rattle.mz_base.specs.Lists.{run_bytes}
use Rattle.mz_holding.specs.HeldRuns.{run_of_held}
use Rattle.mz_holding.proofs.runs.bytes_of_runs.Given as goal

abbrev pub invariant-loop-held : goal.invariant-loop-held
invariant-loop-held l = sum_by run_bytes (map run_of_held l.runs) ≡ l.all + sum_by run_bytes (map run_of_held (drop l.held-index l.runs))
