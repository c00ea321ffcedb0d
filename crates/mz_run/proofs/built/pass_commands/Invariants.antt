use Rattle.std.proofs.Common.{◌≡◌, ◌<◌, ◌+◌, ◌^◌, ℕ, length, map, drop}
use Rattle.mz_lines.specs.declared.line.Line.TheVariants as line
use Rattle.mz_run.specs.Passing.{passed}
use Rattle.mz_run.proofs.built.pass_commands.Given as goal

-- the commands so far are passed over
abbrev pub invariant-loop-command : goal.invariant-loop-command
invariant-loop-command l =
    record {
      same : (caller : ℕ) → passed l.fn.line (map (line.Call caller) l.commands) ≡ passed l.line (map (line.Call caller) (drop l.command-index l.commands));
      fits : l.line + length (drop l.command-index l.commands) < 2 ^ 64;
    }
