use Rattle.std.proofs.Common.{◌≡◌, ◌++◌, take}
use Rattle.std.specs.Prelude.{string_bytes}
use Rattle.mz_trace.specs.Rounds.{lines_of_rounds}
use Rattle.mz_trace.specs.Texts.{lines_text}
use Rattle.mz_trace.proofs.printer.print_rounds.Given as goal

abbrev pub invariant-loop-round : goal.invariant-loop-round
invariant-loop-round l = string_bytes l.out ≡ string_bytes l.initial.out ++ lines_text (lines_of_rounds (take l.round-index l.rounds))
