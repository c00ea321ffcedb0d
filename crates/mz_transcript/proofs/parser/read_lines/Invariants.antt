use Rattle.std.proofs.Common.{◌≡◌, ◌≤◌, ◌+◌, length}
use Rattle.mz_words.specs.Lines.{cuts}
use Rattle.mz_transcript.specs.Stages.{reading, reading_of}
use Rattle.mz_transcript.proofs.parser.read_lines.Given as goal

abbrev pub invariant-loop-line : goal.invariant-loop-line
invariant-loop-line l = (reading_of l.bytes ≡ reading l.stage l.number (cuts l.rest)) × (l.number + length l.rest ≤ length l.bytes + 1)

abbrev pub decreases-loop-line : goal.decreases-loop-line
decreases-loop-line l = length l.rest
