use Rattle.std.proofs.Common.{◌≡◌, ◌++◌, string_bytes, take}
use Rattle.mz_words.specs.Hex.{hex_word}
use Rattle.mz_words.proofs.printing.print_hex.Given as goal

abbrev pub invariant-loop-b : goal.invariant-loop-b
invariant-loop-b l = string_bytes l.out ≡ string_bytes l.initial.out ++ hex_word (take l.b-index l.bytes)
