use Rattle.std.proofs.Common.{◌≡◌, ◌*◌, drop}
use Rattle.std.specs.Prelude.{find, nat_lt}
use Rattle.mz_base.specs.Lists.{run_bytes}
use Rattle.mz_holding.specs.HeldRuns.{run_of_held}
use Rattle.mz_holding.proofs.runs.lowest_sparse.Given as goal

abbrev pub invariant-loop-held : goal.invariant-loop-held
invariant-loop-held l = find (λ h. nat_lt (4 * h.used) (3 * run_bytes (run_of_held h))) l.runs ≡ find (λ h. nat_lt (4 * h.used) (3 * run_bytes (run_of_held h))) (drop l.held-index l.runs)
