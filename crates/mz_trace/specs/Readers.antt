-- What the reader of traces keeps of the lines that it has read, and what reading comes to. These go as the code goes; the
-- definitions of traces and of bad lines don't need them.
use Rattle.std.specs.Prelude.{ℕ, ◌≡◌, ◌+◌, ◌<◌, ◌==◌, ◌||◌, ◌++◌, Bool, true, false, nat_le, List, [], ◌∷◌, Option, None, Some, Result, Ok, Err, length, replicate, slice_set, slice_index_or, if◌then◌else◌}
use Rattle.std.specs.Option.{option_map, option_map_or}
use Rattle.std.specs.Result.{result_err, result_map_both}
use Rattle.mz_base.specs.declared.profile.Profile.{Profile}
use Rattle.mz_words.specs.Lines.{Cut, words_of, is_plain}
use Rattle.mz_lines.specs.declared.command.Command.{Command}
use Rattle.mz_lines.specs.declared.round_line.RoundLine.{RoundLine}
use Rattle.mz_lines.specs.declared.line.Line.{Line}
use Rattle.mz_lines.specs.declared.line.Line.TheVariants.{Round, Start, Call}
use Rattle.mz_lines.specs.declared.why.Why.{Why}
use Rattle.mz_lines.specs.declared.why.Why.TheVariants.{NotPlain, NotTrace, NotSpace, OutOfPlace, GivenBefore}
use Rattle.mz_lines.specs.LineReading.{line_in}
use Rattle.mz_lines.specs.Lines.{given_by}
use Rattle.mz_lines.specs.Spaces.{profile_in}
use Rattle.mz_lines.specs.Whys.{why_number, word_why}
use Rattle.mz_trace.specs.declared.round.TheConstants.{MOST_ROUNDS}
use Rattle.mz_trace.specs.declared.round.Round.{Round as Rounded}
use Rattle.mz_trace.specs.declared.trace.Trace.{Trace}
use Rattle.mz_trace.specs.declared.open_round.OpenRound.{OpenRound}
use Rattle.mz_trace.specs.declared.reader.Reader.{Reader}
use Rattle.mz_trace.specs.declared.fault.TraceFault.{TraceFault}
use Rattle.mz_trace.specs.declared.fault.TraceFault.TheVariants.{Bad, NoMemory}
use Rattle.mz_trace.specs.Faults.{BadLine, why_of, first}
use Rattle.mz_trace.specs.Given.{has_name, with_name}

-- the open round as a round, and one with nothing yet
abbrev pub rounded : OpenRound → Rounded
rounded r = record { lines = r.lines; commands = r.commands }

abbrev pub blank : ℕ → OpenRound
blank callers = record { lines = []; commands = replicate callers [] }

-- with one more line at its start, and with one more command
abbrev pub with_start : RoundLine → OpenRound → OpenRound
with_start x r = record { lines = r.lines ++ x ∷ []; commands = r.commands }

abbrev pub with_call : ℕ → Command → OpenRound → OpenRound
with_call caller command r = record { lines = r.lines; commands = slice_set r.commands caller (slice_index_or r.commands caller [] ++ command ∷ []) }

-- the rounds so far
abbrev pub rounds_in : Reader → List Rounded
rounds_in r = if r.begun == 0 then r.rounds else r.rounds ++ rounded r.open ∷ []

-- the names under which blocks were given, with that of a command
abbrev pub noted : Command → List (List ℕ) → List (List ℕ)
noted command names = option_map_or (with_name names) (given_by command) names

-- what is kept before the first line, and with one more line
abbrev pub fresh : ℕ → Reader
fresh callers = record { begun = 0; calling = false; given = []; rounds = []; «open» = blank callers }

abbrev pub added : ℕ → Line → Reader → Reader
added callers Round r = record { begun = r.begun + 1; calling = false; given = r.given; rounds = rounds_in r; «open» = blank callers }
added callers (Start x) r = record r { «open» = with_start x r.open }
added callers (Call caller command) r = record r { calling = true; given = noted command r.given; «open» = with_call caller command r.open }

-- a line for which there is room
abbrev pub CanAdd : Reader → Line → Type 0
CanAdd r Round = r.begun < MOST_ROUNDS
CanAdd r (Start x) = Unit {0}
CanAdd r (Call caller command) = caller < length r.open.commands

-- the reader finds a line out of place, or a name that it gives given before
abbrev pub is_misplaced : Reader → Line → Bool
is_misplaced r Round = nat_le MOST_ROUNDS r.begun
is_misplaced r (Start x) = (r.begun == 0) || r.calling
is_misplaced r (Call caller command) = r.begun == 0

abbrev pub name_given : Line → Option (List ℕ)
name_given Round = None
name_given (Start x) = None
name_given (Call caller command) = given_by command

abbrev pub is_given : Reader → Line → Bool
is_given r x = option_map_or (has_name r.given) (name_given x) false

abbrev pub place_why : Reader → Line → Option Why
place_why r x = if is_misplaced r x then Some OutOfPlace else if is_given r x then Some GivenBefore else None

-- the first why of a line's words, and of a line
abbrev pub words_why : ℕ → Reader → List (List ℕ) → Option Why
words_why callers r words = option_map_or (place_why r) (line_in callers words) (word_why callers words)

abbrev pub cut_why : ℕ → Reader → Cut → Option Why
cut_why callers r l = if is_plain l then words_why callers r (words_of l.text) else Some NotPlain

-- what is kept with the line that these words are
abbrev pub with_words : ℕ → Reader → List (List ℕ) → Reader
with_words callers r words = option_map_or (λ x. added callers x r) (line_in callers words) r

-- The first why is told; where there is none, this is kept.
pub record Keeps (first : Option Why) (kept new : Reader) (why : Option Why) : Type 0 where
  pub told : why ≡ first
  pub kept_is : why ≡ None → new ≡ kept

-- What is kept of lines one after the other, of which the first has this number; else the first bad one.
abbrev pub reading : ℕ → Reader → ℕ → List Cut → Result Reader BadLine
reading callers r number [] = Ok r
reading callers r number (l ∷ ls) = option_map_or (λ y. Err (number, y)) (cut_why callers r l) (reading callers (with_words callers r (words_of l.text)) (number + 1) ls)

-- the profile of the second line, or its first why
abbrev pub second_in : Cut → Result Profile Why
second_in l = if is_plain l then option_map_or (λ p. Ok p) (profile_in (words_of l.text)) (Err NotSpace) else Err NotPlain

-- what reading a text comes to
abbrev pub made : Profile → Reader → Trace
made p r = record { profile = p; rounds = rounds_in r }

abbrev pub text_behind : Result Profile Why → List Cut → Result Trace BadLine
text_behind (Ok p) ls = result_map_both (made p) (λ b. b) (reading p.callers (fresh p.callers) 3 ls)
text_behind (Err y) ls = Err (2, y)

abbrev pub text_second : List Cut → Result Trace BadLine
text_second [] = Err (2, NotSpace)
text_second (m ∷ ls) = text_behind (second_in m) ls

abbrev pub text_read : List Cut → Result Trace BadLine
text_read [] = Err (1, NotTrace)
text_read (l ∷ ls) = option_map_or (λ y. Err (1, y)) (why_of first l) (text_second ls)

-- the number of a bad line, and the number of its first why
abbrev pub numbers_of : Option BadLine → Option (ℕ × ℕ)
numbers_of bad = option_map (λ b. (b.0, why_number b.1)) bad

-- the answer is the trace that reading comes to, or the fault has the numbers of the bad line, or memory ran out
abbrev pub ComesTo : Result Trace BadLine → Result Trace TraceFault → Type 0
ComesTo wanted (Ok t) = wanted ≡ Ok t
ComesTo wanted (Err NoMemory) = Unit {0}
ComesTo wanted (Err (Bad line why)) = numbers_of (result_err wanted) ≡ Some (line, why)
