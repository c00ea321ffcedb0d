use Rattle.std.proofs.Common.{◌≤◌, ◌-◌, length, take}
use Rattle.mz_io.specs.Stream.{Takes}
use Rattle.mz_io.proofs.sink.write_all.Given as goal

-- the front of the output was taken
abbrev pub invariant-loop-at : goal.invariant-loop-at
invariant-loop-at g l =
    record {
      taken : Takes (g.K.Sink.taken l.fn.sink) (g.K.Sink.taken l.sink) (take l.at l.output);
      count : l.at ≤ length l.output;
      kept : g.K.Sink.faults l.fn.sink ≤ g.K.Sink.faults l.sink;
    }

abbrev pub decreases-loop-at : goal.decreases-loop-at
decreases-loop-at g l = length l.output - l.at
