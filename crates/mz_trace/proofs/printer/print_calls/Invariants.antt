use Rattle.std.proofs.Common.{◌≡◌, ◌++◌, take, map}
use Rattle.std.specs.Prelude.{string_bytes}
use Rattle.mz_trace.specs.Texts.{lines_text}
use Rattle.mz_lines.specs.declared.line.Line.TheVariants.{Call as call}
use Rattle.mz_trace.proofs.printer.print_calls.Given as goal

abbrev pub invariant-loop-command : goal.invariant-loop-command
invariant-loop-command l = string_bytes l.out ≡ string_bytes l.initial.out ++ lines_text (map (λ c. call l.caller c) (take l.command-index l.commands))
