use Rattle.std.proofs.Common.{◌≡◌, ◌++◌, string_bytes, take}
use Rattle.std.specs.List.{flat_map}
use Rattle.mz_words.specs.Lines.{line_text}
use Rattle.mz_trace.specs.RunTexts.{call_record_lines}
use Rattle.mz_trace.proofs.run_printer.print_calls.Given as goal

abbrev pub invariant-loop-outcome : goal.invariant-loop-outcome
invariant-loop-outcome l = string_bytes l.out ≡ string_bytes l.initial.out ++ flat_map line_text (flat_map call_record_lines (take l.outcome-index l.calls))
