use Rattle.std.proofs.Common.{◌≡◌, drop, length}
use Rattle.std.specs.Prelude.{find, ◌==◌}
use Rattle.mz_holding.specs.HeldRuns.{live_of_held}
use Rattle.mz_holding.proofs.runs.lowest_unused.Given as goal

abbrev pub invariant-loop-held : goal.invariant-loop-held
invariant-loop-held l = find (λ h. length (live_of_held h) == 0) l.runs ≡ find (λ h. length (live_of_held h) == 0) (drop l.held-index l.runs)
