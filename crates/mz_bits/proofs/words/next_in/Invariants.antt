use Rattle.std.proofs.Common.{◌-◌, ◌≤◌}
use Rattle.mz_bits.specs.Words.{NoneIs}
use Rattle.mz_bits.proofs.words.next_in.Given as goal

abbrev pub invariant-loop-from : goal.invariant-loop-from
invariant-loop-from l = record { above : l.i ≤ l.from; none : NoneIs l.value l.words l.i l.from }

abbrev pub decreases-loop-from : goal.decreases-loop-from
decreases-loop-from l = l.end - l.from
