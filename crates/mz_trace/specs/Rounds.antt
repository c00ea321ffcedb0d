-- How lines make rounds. This project's own.
use Rattle.std.specs.Prelude.{ℕ, zero, suc, ◌+◌, ◌≡◌, ◌==◌, List, [], ◌∷◌, ◌++◌, map, length, if◌then◌else◌}
use Rattle.std.specs.List.{AllByRecursion}
use Rattle.mz_lines.specs.declared.command.Command.{Command}
use Rattle.mz_trace.specs.declared.round.Round.{Round}
use Rattle.mz_lines.specs.declared.line.Line.{Line}
use Rattle.mz_lines.specs.declared.line.Line.TheVariants.{Round as round, Start as start, Call as call}

-- a command with the caller that gives it
abbrev pub Call : Type 0
Call = ℕ × Command

abbrev pub call_line : Call → Line
call_line c = call c.0 c.1

-- the commands of one caller, in their order
abbrev pub commands_by : ℕ → List Call → List Command
commands_by caller [] = []
commands_by caller (c ∷ cs) = if c.0 == caller then c.1 ∷ commands_by caller cs else commands_by caller cs

-- the lists of so many callers, from one caller on
abbrev pub lists_from : ℕ → ℕ → List Call → List (List Command)
lists_from first zero cs = []
lists_from first (suc n) cs = commands_by first cs ∷ lists_from (first + 1) n cs

-- The lines make the round r: `round`, what is done at the start, and then the commands of all callers, among which
-- each caller's stand in the order of its list.
pub record IsRound (callers : ℕ) (lines : List Line) (r : Round) : Type 0 where
  pub calls : List Call
  pub parts : lines ≡ round ∷ (map start r.lines ++ map call_line calls)
  pub lists : r.commands ≡ lists_from 0 callers calls

-- The lines make these rounds, one after the other.
pub data AreRounds (callers : ℕ) : List Line → List Round → Type 0 where
  none : AreRounds callers [] []
  more :
      (front back : List Line) (before : List Round) (r : Round) → AreRounds callers front before → IsRound callers back r
      → AreRounds callers (front ++ back) (before ++ r ∷ [])

-- The normal form of rounds: in each, the commands of caller 0 first, then those of caller 1, and so on.
abbrev pub calls_from : ℕ → List (List Command) → List Call
calls_from first [] = []
calls_from first (cs ∷ lists) = map (λ c. (first, c)) cs ++ calls_from (first + 1) lists

abbrev pub round_lines : Round → List Line
round_lines r = round ∷ (map start r.lines ++ map call_line (calls_from 0 r.commands))

abbrev pub lines_of_rounds : List Round → List Line
lines_of_rounds [] = []
lines_of_rounds (r ∷ rs) = round_lines r ++ lines_of_rounds rs

-- each round has a list for each caller
abbrev pub HaveLists : ℕ → List Round → Type 0
HaveLists callers rs = AllByRecursion (λ r. length r.commands ≡ callers) rs
