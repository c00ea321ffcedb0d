use Rattle.std.proofs.Common.{◌≡◌, ◌≤◌, ◌+◌, ◌-◌, length, vec_len}
use Rattle.std.specs.Io.KnownBytes.{Consumes}
use Rattle.mz_run.specs.Top.{most_bytes}
use Rattle.mz_run.proofs.input.read_input.Given as goal

-- what was read is kept, and it is at most one byte too much
abbrev pub invariant-loop-piece : goal.invariant-loop-piece
invariant-loop-piece g l =
    record {
      read : Consumes (g.S.Source.left l.fn.source) (g.S.Source.left l.source) l.bytes.items;
      count : vec_len l.bytes ≤ most_bytes + 1;
      piece : length l.piece ≡ 65536;
      kept : g.S.Source.faults l.fn.source ≤ g.S.Source.faults l.source;
    }

abbrev pub decreases-loop-piece : goal.decreases-loop-piece
decreases-loop-piece g l = most_bytes + 1 - vec_len l.bytes
