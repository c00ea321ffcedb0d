use Rattle.std.proofs.Common.{◌≡◌, ◌++◌, take, map}
use Rattle.std.specs.Prelude.{string_bytes}
use Rattle.mz_trace.specs.Texts.{lines_text}
use Rattle.mz_lines.specs.declared.line.Line.TheVariants.{Start as start}
use Rattle.mz_trace.proofs.printer.print_starts.Given as goal

abbrev pub invariant-loop-line : goal.invariant-loop-line
invariant-loop-line l = string_bytes l.out ≡ string_bytes l.initial.out ++ lines_text (map start (take l.line-index l.lines))
