use Rattle.std.proofs.Common.{◌-◌}
use Rattle.mz_holding.specs.HeldRuns.{run_of_held, live_of_held}
use Rattle.mz_holding.proofs.WalkLemmas.{Walked}
use Rattle.mz_holding.proofs.held.Held.has_room.Given as goal

abbrev pub invariant-loop-x : goal.invariant-loop-x
invariant-loop-x l = Walked (run_of_held l.self) (live_of_held l.self) l.n l.al l.x

abbrev pub decreases-loop-x : goal.decreases-loop-x
decreases-loop-x l = l.end - l.x
