use Rattle.std.proofs.Common.{◌≡◌, ◌++◌, map, drop}
use Rattle.mz_history.specs.Listed.{run_at_place}
use Rattle.mz_history.proofs.lists.push_runs.Given as goal

abbrev pub invariant-loop-i : goal.invariant-loop-i
invariant-loop-i l = l.list.items ++ map (run_at_place l.k) (drop l.i l.runs) ≡ l.initial.list.items ++ map (run_at_place l.k) l.runs
