use Rattle.std.proofs.Common.{◌≡◌, ◌++◌, drop}
use Rattle.std.specs.Prelude.{map}
use Rattle.mz_holding.specs.HeldRuns.{block_of, live_in_runs}
use Rattle.mz_holding.proofs.runs.list_blocks.Given as goal

abbrev pub invariant-loop-held : goal.invariant-loop-held
invariant-loop-held l = map block_of l.list.items ++ live_in_runs (drop l.held-index l.runs) ≡ live_in_runs l.runs
