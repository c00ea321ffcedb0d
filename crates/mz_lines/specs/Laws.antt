-- What the definitions of lines mean: what is written of them is read again, what is read is written, and words are a line
-- of a trace exactly where no why of a line's words holds. This project's own.
use Rattle.std.specs.Prelude.{ℕ, ◌≡◌, ◌<◌, ◌≤◌, ◌^◌, true, nat_le, List, length, Option, None, Some}
use Rattle.std.specs.List.{list_all}
use Rattle.std.specs.Fmt.{decimal}
use Rattle.mz_base.specs.declared.profile.Profile.{Profile}
use Rattle.mz_base.specs.Limits.{IsWithinLimits}
use Rattle.mz_events.specs.declared.event.Event.{Event}
use Rattle.mz_words.specs.Lines.{are_visible, are_short}
use Rattle.mz_words.specs.Laws.{WordLaws}
use Rattle.mz_lines.specs.declared.answer.Answer.{Answer}
use Rattle.mz_lines.specs.declared.command.Command.{Command}
use Rattle.mz_lines.specs.declared.line.Line.{Line}
use Rattle.mz_lines.specs.declared.round_line.RoundLine.{RoundLine}
use Rattle.mz_lines.specs.Answers.{answer_in, answer_words, answer_fits}
use Rattle.mz_lines.specs.Commands.{command_in, command_words, command_fits}
use Rattle.mz_lines.specs.Events.{event_in, event_words, event_fits}
use Rattle.mz_lines.specs.LineReading.{line_in}
use Rattle.mz_lines.specs.Lines.{line_words, line_fits}
use Rattle.mz_lines.specs.RoundLines.{start_in, start_words, start_fits}
use Rattle.mz_lines.specs.Spaces.{profile_in, space_words}
use Rattle.mz_lines.specs.Whys.{begins_with_digit, word_why}

-- values, their words, and how they are read
pub record Holds (A : Type 0) (reads : List (List ℕ) → Option A) (words : A → List (List ℕ)) (Fits : A → Type 0) : Type 0 where
  pub again : (x : A) → Fits x → reads (words x) ≡ Some x
  pub spelled : (ts : List (List ℕ)) (x : A) → reads ts ≡ Some x → (ts ≡ words x) × Fits x
  pub visible : (x : A) → Fits x → are_visible (words x) ≡ true

-- a command, in a trace with so many callers
pub record CommandsHold : Type 0 where
  pub again : (callers : ℕ) (c : Command) → callers < 2 ^ 64 → command_fits callers c ≡ true → command_in callers (command_words c) ≡ Some c
  pub spelled : (callers : ℕ) (ts : List (List ℕ)) (c : Command) → command_in callers ts ≡ Some c → (ts ≡ command_words c) × (command_fits callers c ≡ true)
  pub visible : (callers : ℕ) (c : Command) → callers < 2 ^ 64 → command_fits callers c ≡ true → are_visible (command_words c) ≡ true

-- the line that words are, and how it is written
pub record IsLine (callers : ℕ) (words : List (List ℕ)) (x : Line) : Type 0 where
  pub read : line_in callers words ≡ Some x
  pub words_are : line_words x ≡ words
  pub fits : line_fits callers x ≡ true

-- a line of a trace: its words, of which the first tells whether it is a caller's, and what can be wrong with them
pub record LinesHold : Type 0 where
  pub again : (callers : ℕ) (x : Line) → callers < 2 ^ 64 → line_fits callers x ≡ true → line_in callers (line_words x) ≡ Some x
  pub spelled : (callers : ℕ) (words : List (List ℕ)) (x : Line) → line_in callers words ≡ Some x → IsLine callers words x
  pub visible : (callers : ℕ) (x : Line) → callers < 2 ^ 64 → line_fits callers x ≡ true → are_visible (line_words x) ≡ true
  pub short : (callers : ℕ) (x : Line) → callers < 2 ^ 64 → line_fits callers x ≡ true → are_short (line_words x) ≡ true
  pub few : (x : Line) → length (line_words x) ≤ 6
  pub digit : (n : ℕ) → n < 2 ^ 64 → begins_with_digit (decimal n) ≡ true
  pub good : (callers : ℕ) (words : List (List ℕ)) (x : Line) → line_in callers words ≡ Some x → word_why callers words ≡ None
  pub read : (callers : ℕ) (words : List (List ℕ)) → word_why callers words ≡ None → (x : Line) × (line_in callers words ≡ Some x)

-- all of it, with what the words say
pub record LineLaws : Type 0 where
  pub words : WordLaws
  pub commands : CommandsHold
  pub starts : Holds RoundLine (start_in 0) start_words (λ x. start_fits x ≡ true)
  pub events : Holds Event event_in event_words (λ x. event_fits x ≡ true)
  pub few_events : (x : Event) → length (event_words x) ≤ 5
  pub answers : Holds Answer answer_in answer_words (λ x. answer_fits x ≡ true)
  pub few_answers : (x : Answer) → length (answer_words x) ≤ 5
  pub profiles : Holds Profile profile_in space_words IsWithinLimits
  pub short_profiles : (p : Profile) → IsWithinLimits p → list_all (λ w. nat_le (length w) 20) (space_words p) ≡ true
  pub lines : LinesHold
