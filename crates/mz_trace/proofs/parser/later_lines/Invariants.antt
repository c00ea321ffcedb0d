use Rattle.std.proofs.Common.{◌+◌, ◌<◌, ◌^◌, length}
use Rattle.mz_words.specs.Lines.{cuts}
use Rattle.mz_trace.proofs.LaterLines.{IsBehind}
use Rattle.mz_trace.proofs.parser.later_lines.Given as goal

abbrev pub invariant-loop-line : goal.invariant-loop-line
invariant-loop-line l = record { read : IsBehind l.callers (cuts l.bytes) l.number (cuts l.rest) l.reader; room : l.number + length l.rest < 2 ^ 64 }

abbrev pub decreases-loop-line : goal.decreases-loop-line
decreases-loop-line l = length l.rest
