use Rattle.std.proofs.Common.{◌≡◌, ◌++◌, take, map}
use Rattle.std.specs.Prelude.{string_bytes}
use Rattle.mz_trace.specs.Rounds.{call_line, calls_from}
use Rattle.mz_trace.specs.Texts.{lines_text}
use Rattle.mz_trace.proofs.printer.print_callers.Given as goal

abbrev pub invariant-loop-caller : goal.invariant-loop-caller
invariant-loop-caller l = string_bytes l.out ≡ string_bytes l.initial.out ++ lines_text (map call_line (calls_from 0 (take l.caller l.lists)))
