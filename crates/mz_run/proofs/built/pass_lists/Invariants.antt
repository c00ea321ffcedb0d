use Rattle.std.proofs.Common.{◌≡◌, ◌<◌, ◌+◌, ◌^◌, length, map, drop}
use Rattle.mz_trace.specs.Rounds.{call_line, calls_from}
use Rattle.mz_run.specs.Passing.{passed}
use Rattle.mz_run.proofs.built.pass_lists.Given as goal

-- the lists so far are passed over
abbrev pub invariant-loop-commands : goal.invariant-loop-commands
invariant-loop-commands l =
    record {
      same : passed l.fn.line (map call_line (calls_from 0 l.lists)) ≡ passed l.line (map call_line (calls_from l.commands-index (drop l.commands-index l.lists)));
      fits : l.line + length (calls_from l.commands-index (drop l.commands-index l.lists)) < 2 ^ 64;
    }
