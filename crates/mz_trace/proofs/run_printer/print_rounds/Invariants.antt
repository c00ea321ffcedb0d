use Rattle.std.proofs.Common.{◌≡◌, ◌++◌, string_bytes, take}
use Rattle.std.specs.List.{flat_map}
use Rattle.mz_words.specs.Lines.{line_text}
use Rattle.mz_trace.specs.RunTexts.{run_round_lines}
use Rattle.mz_trace.proofs.run_printer.print_rounds.Given as goal

abbrev pub invariant-loop-round : goal.invariant-loop-round
invariant-loop-round l = string_bytes l.out ≡ string_bytes l.initial.out ++ flat_map line_text (flat_map run_round_lines (take l.round-index l.rounds))
