-- From words to lines. These follow the code; that the lines are those of the texts is proved.
use Rattle.std.specs.Prelude.{ℕ, List, [], ◌∷◌, Option, None, Some, if◌then◌else◌}
use Rattle.mz_words.specs.declared.kind.Word.{Word}
use Rattle.mz_words.specs.declared.table.Form.{Form}
use Rattle.mz_words.specs.declared.table.Form.TheVariants as form
use Rattle.mz_words.specs.declared.table.TheConstants.{ROUND_LINES}
use Rattle.mz_words.specs.Numbers.{caller_of, ◌>>=◌}
use Rattle.mz_words.specs.Sentences.{sentence_in}
use Rattle.mz_lines.specs.declared.line.Line.{Line}
use Rattle.mz_lines.specs.declared.line.Line.TheVariants.{Round, Start, Call}
use Rattle.mz_lines.specs.Commands.{command_in}
use Rattle.mz_lines.specs.RoundLines.{start_of}
use Rattle.mz_lines.specs.Whys.{begins_with_digit}

-- a line of the table of round lines, of which one begins a round
abbrev pub heading_of : Form → List Word → Option Line
heading_of form.Round [] = Some Round
heading_of f ws = start_of f ws >>= λ x. Some (Start x)

abbrev pub heading_in : ℕ → List (List ℕ) → Option Line
heading_in callers ts = sentence_in callers ROUND_LINES ts >>= λ s. heading_of s.form s.words

-- a line of a caller
abbrev pub call_in : ℕ → List ℕ → List (List ℕ) → Option Line
call_in callers first ts = do
  caller ← caller_of callers first
  command ← command_in callers ts
  Some (Call caller command)

-- the line that the words spell
abbrev pub line_in : ℕ → List (List ℕ) → Option Line
line_in callers [] = None
line_in callers (t ∷ ts) = if begins_with_digit t then call_in callers t ts else heading_in callers (t ∷ ts)
