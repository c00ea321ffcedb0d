use Rattle.std.proofs.Common.{◌-◌, length}
use Rattle.mz_holding.proofs.TakeLemmas.{AreSame}
use Rattle.mz_holding.proofs.runs.learn.Given as goal

abbrev pub invariant-loop-i : goal.invariant-loop-i
invariant-loop-i l = AreSame l.runs.items l.fn.runs.items

abbrev pub decreases-loop-i : goal.decreases-loop-i
decreases-loop-i l = length l.runs.items - l.i
