use Rattle.std.proofs.Common.{◌≡◌, ◌<◌, ◌+◌, ◌^◌, length, drop}
use Rattle.mz_trace.specs.Rounds.{lines_of_rounds}
use Rattle.mz_run.specs.Passing.{passed}
use Rattle.mz_run.proofs.built.pass_rounds.Given as goal

-- the rounds so far are passed over
abbrev pub invariant-loop-round : goal.invariant-loop-round
invariant-loop-round l =
    record {
      same : passed l.fn.line (lines_of_rounds l.rounds) ≡ passed l.line (lines_of_rounds (drop l.round-index l.rounds));
      fits : l.line + length (lines_of_rounds (drop l.round-index l.rounds)) < 2 ^ 64;
    }
