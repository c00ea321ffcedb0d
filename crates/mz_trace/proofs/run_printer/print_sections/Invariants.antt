use Rattle.std.proofs.Common.{◌≡◌, ◌++◌, string_bytes, take}
use Rattle.std.specs.List.{flat_map}
use Rattle.mz_words.specs.Lines.{line_text}
use Rattle.mz_trace.specs.RunTexts.{sections_from}
use Rattle.mz_trace.proofs.run_printer.print_sections.Given as goal

abbrev pub invariant-loop-caller : goal.invariant-loop-caller
invariant-loop-caller l = string_bytes l.out ≡ string_bytes l.initial.out ++ flat_map line_text (sections_from 0 (take l.caller l.callers))
