use Rattle.std.proofs.Common.{◌-◌, ◌≤◌}
use Rattle.mz_bits.specs.Words.{Writes}
use Rattle.mz_bits.proofs.words.write_in.Given as goal

abbrev pub invariant-loop-from : goal.invariant-loop-from
invariant-loop-from l = record { above : l.i ≤ l.from; below : l.from ≤ l.end; made : Writes l.value l.initial.words l.i (l.from - l.i) l.words }

abbrev pub decreases-loop-from : goal.decreases-loop-from
decreases-loop-from l = l.end - l.from
