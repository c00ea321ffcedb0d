-- The texts of traces. This project's own.
use Rattle.std.specs.Prelude.{ℕ, ◌≡◌, ◌≤◌, List, [], ◌∷◌, ◌++◌, length, count_by, codes, true}
use Rattle.std.specs.List.{list_all, flat_map}
use Rattle.mz_base.specs.Limits.{IsWithinLimits}
use Rattle.mz_base.specs.declared.profile.Profile.{Profile}
use Rattle.mz_trace.specs.declared.round.TheConstants.{MOST_ROUNDS}
use Rattle.mz_trace.specs.declared.trace.Trace.{Trace}
use Rattle.mz_words.specs.Lines.{line_text}
use Rattle.mz_lines.specs.declared.line.Line.{Line}
use Rattle.mz_lines.specs.Lines.{line_words, line_fits, gives}
use Rattle.mz_lines.specs.Spaces.{space_words}
use Rattle.mz_trace.specs.Rounds.{AreRounds, HaveLists, lines_of_rounds}

-- the words of the first line
abbrev pub first_words : List (List ℕ)
first_words = codes "mzone-trace" ∷ codes "1" ∷ []

-- the text of lines, and of lines behind a profile
abbrev pub lines_text : List Line → List ℕ
lines_text lines = flat_map (λ l. line_text (line_words l)) lines

abbrev pub text_of : Profile → List Line → List ℕ
text_of p lines = line_text first_words ++ line_text (space_words p) ++ lines_text lines

-- What the lines of a trace keep, whatever rounds they make: each is one of a trace with this profile, and no two give
-- a block under the same name.
pub record AreLines (p : Profile) (lines : List Line) : Type 0 where
  pub limits : IsWithinLimits p
  pub each : list_all (line_fits p.callers) lines ≡ true
  pub given_once : (base : List ℕ) → count_by (gives base) lines ≤ 1

-- The bytes are a text of the trace.
pub record IsTraceText (bytes : List ℕ) (t : Trace) : Type 0 where
  pub lines : List Line
  pub spelled : bytes ≡ text_of t.profile lines
  pub kept : AreLines t.profile lines
  pub rounds : AreRounds t.profile.callers lines t.rounds
  pub few : length t.rounds ≤ MOST_ROUNDS

-- the bytes are a text of some trace
abbrev pub HasTrace : List ℕ → Type 0
HasTrace bytes = (t : Trace) × IsTraceText bytes t

-- the lines of a trace in normal form, and that text
abbrev pub lines_of : Trace → List Line
lines_of t = lines_of_rounds t.rounds

abbrev pub normal_text : Trace → List ℕ
normal_text t = text_of t.profile (lines_of t)

-- the values that are traces
pub record IsTrace (t : Trace) : Type 0 where
  pub kept : AreLines t.profile (lines_of t)
  pub lists : HaveLists t.profile.callers t.rounds
  pub few : length t.rounds ≤ MOST_ROUNDS
