-- What the program runs today: one caller, one zone, and all commands but those that name a zone. This project's own.
use Rattle.std.specs.Prelude.{ℕ, ◌+◌, ◌==◌, ◌≡◌, Bool, true, false, ◌&&◌, not, List, length, position, Option, Some, IsTrue, if◌then◌else◌}
use Rattle.std.specs.List.{list_all}
use Rattle.std.specs.Option.{option_map}
use Rattle.mz_base.specs.declared.profile.Profile.{Profile}
use Rattle.mz_lines.specs.declared.command.Command.{Command}
use Rattle.mz_lines.specs.declared.command.Command.TheVariants.{Malloc, Calloc, Valloc, Memalign, Realloc, Free, FreeAt, ZoneFree, SizedFree, Size, Fill, Show, Link, Give, Batch, Unbatch, Use}
use Rattle.mz_trace.specs.declared.round.Round.{Round}
use Rattle.mz_trace.specs.declared.trace.Trace.{Trace}
use Rattle.mz_lines.specs.declared.line.Line.{Line}
use Rattle.mz_lines.specs.declared.line.Line.TheVariants as line
use Rattle.mz_trace.specs.Rounds.{HaveLists}
use Rattle.mz_trace.specs.Texts.{IsTraceText, lines_of}

-- a space within the limits that has these numbers
abbrev pub is_built_space : Profile → Bool
is_built_space p = (p.callers == 1) && (p.zones == 1)

-- all but `zfree` and `use`, which name a zone
abbrev pub is_built_command : Command → Bool
is_built_command (Malloc name n) = true
is_built_command (Calloc name n m) = true
is_built_command (Valloc name n) = true
is_built_command (Memalign name al n) = true
is_built_command (Realloc names n) = true
is_built_command (Free name) = true
is_built_command (FreeAt name off) = true
is_built_command (ZoneFree zone name) = false
is_built_command (SizedFree name n) = true
is_built_command (Size name) = true
is_built_command (Fill name byte) = true
is_built_command (Show name off count) = true
is_built_command (Link name off target) = true
is_built_command (Give name to given) = true
is_built_command (Batch name count n) = true
is_built_command (Unbatch name) = true
is_built_command (Use zone) = false

-- `round`, and those commands
abbrev pub is_built_line : Line → Bool
is_built_line line.Round = true
is_built_line (line.Start x) = false
is_built_line (line.Call caller command) = is_built_command command

-- a round of such lines, with one list of commands
abbrev pub is_built_round : Round → Bool
is_built_round r = (length r.lines == 0) && (length r.commands == 1) && list_all (list_all is_built_command) r.commands

-- The first line that isn't built, counted from 1: the second, which has the space, or a later one.
abbrev pub unbuilt_line : Profile → List Line → Option ℕ
unbuilt_line p lines = if is_built_space p then option_map (λ k. k + 3) (position (λ l. not (is_built_line l)) lines) else Some 2

-- a trace whose lines are all built, with a list of commands for each caller in each round
pub record IsBuilt (t : Trace) : Type 0 where
  pub space : IsTrue (is_built_space t.profile)
  pub lines : IsTrue (list_all is_built_line (lines_of t))
  pub lists : HaveLists t.profile.callers t.rounds

-- the bytes are the text of a trace, whose first line that isn't built is this one
pub record HasUnbuilt (bytes : List ℕ) (number : ℕ) : Type 0 where
  pub trace : Trace
  pub text : IsTraceText bytes trace
  pub first : unbuilt_line trace.profile text.lines ≡ Some number
