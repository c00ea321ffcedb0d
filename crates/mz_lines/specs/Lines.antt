-- The lines of a trace behind its first two, and the words of each. This project's own.
use Rattle.std.specs.Prelude.{ℕ, Bool, true, false, nat_lt, ◌&&◌, List, [], ◌∷◌, Option, None, Some, codes}
use Rattle.std.specs.Str.{bytes_eq}
use Rattle.std.specs.Fmt.{decimal}
use Rattle.mz_lines.specs.declared.command.Command.{Command}
use Rattle.mz_lines.specs.declared.command.Command.TheVariants.{Give}
use Rattle.mz_lines.specs.declared.line.Line.{Line}
use Rattle.mz_lines.specs.declared.line.Line.TheVariants.{Round, Start, Call}
use Rattle.mz_lines.specs.Commands.{command_words, command_fits}
use Rattle.mz_lines.specs.RoundLines.{start_words, start_fits}

-- the words of a line
abbrev pub line_words : Line → List (List ℕ)
line_words Round = codes "round" ∷ []
line_words (Start x) = start_words x
line_words (Call caller command) = decimal caller ∷ command_words command

-- a line of a trace with so many callers
abbrev pub line_fits : ℕ → Line → Bool
line_fits callers Round = true
line_fits callers (Start x) = start_fits x
line_fits callers (Call caller command) = nat_lt caller callers && command_fits callers command

-- the line gives a block under this name
abbrev pub command_gives : List ℕ → Command → Bool
command_gives base (Give name to given) = bytes_eq given.base base
command_gives base _ = false

abbrev pub gives : List ℕ → Line → Bool
gives base Round = false
gives base (Start x) = false
gives base (Call caller command) = command_gives base command

-- the name under which a command gives a block
abbrev pub given_by : Command → Option (List ℕ)
given_by (Give name to given) = Some given.base
given_by _ = None
