-- The runs and the tails that have a text. A clause sees numbers as any numbers and names as any bytes; the tests here say
-- which of them are those of a line. This project's own.
use Rattle.std.specs.Prelude.{ℕ, ◌≡◌, ◌≤◌, ◌==◌, ◌++◌, ◌&&◌, Bool, true, List, length, map, count_by}
use Rattle.std.specs.List.{list_all, flat_map}
use Rattle.mz_base.specs.Limits.{IsWithinLimits}
use Rattle.mz_trace.specs.declared.round.TheConstants.{MOST_ROUNDS}
use Rattle.mz_lines.specs.declared.command.Command.{Command}
use Rattle.mz_trace.specs.declared.run.RunEntry.{RunEntry}
use Rattle.mz_trace.specs.declared.run.StartRecord.{StartRecord}
use Rattle.mz_trace.specs.declared.run.CallRecord.{CallRecord}
use Rattle.mz_trace.specs.declared.run.RunRound.{RunRound}
use Rattle.mz_trace.specs.declared.run.Run.{Run}
use Rattle.mz_trace.specs.declared.tail.Figures.{Figures}
use Rattle.mz_words.specs.Numbers.{is_u64}
use Rattle.mz_lines.specs.Commands.{command_fits}
use Rattle.mz_lines.specs.RoundLines.{start_fits}
use Rattle.mz_lines.specs.Events.{event_fits}
use Rattle.mz_lines.specs.Answers.{answer_fits}
use Rattle.mz_lines.specs.Lines.{command_gives}
use Rattle.mz_trace.specs.RunTexts.{run_text}
use Rattle.mz_trace.specs.TailTexts.{listed_fits, statistics_fit, tail_text}

-- records that a run with so many callers can have
abbrev pub entry_fits : RunEntry → Bool
entry_fits e = is_u64 e.ticket && event_fits e.event

abbrev pub start_record_fits : StartRecord → Bool
start_record_fits d = start_fits d.line && list_all entry_fits d.steps && answer_fits d.answer

abbrev pub call_record_fits : ℕ → CallRecord → Bool
call_record_fits callers d = command_fits callers d.command && list_all entry_fits d.steps && answer_fits d.answer

-- each round has a section for each caller
abbrev pub round_fits : ℕ → RunRound → Bool
round_fits callers r =
    list_all start_record_fits r.starts && list_all (λ calls. list_all (call_record_fits callers) calls) r.callers && (length r.callers == callers)

-- the commands of a run, in the order of its text
abbrev pub commands_of : Run → List Command
commands_of r = flat_map (λ round. flat_map (λ calls. map (λ d. d.command) calls) round.callers) r.rounds

-- the values that are runs
pub record IsRun (r : Run) : Type 0 where
  pub limits : IsWithinLimits r.profile
  pub each : list_all (round_fits r.profile.callers) r.rounds ≡ true
  pub given_once : (base : List ℕ) → count_by (command_gives base) (commands_of r) ≤ 1
  pub few : length r.rounds ≤ MOST_ROUNDS

-- the values that are tails
pub record IsTail (t : Figures) : Type 0 where
  pub each : list_all listed_fits t.listing ≡ true
  pub numbers : statistics_fit t.statistics ≡ true

-- The bytes are the printed run, with the tail behind it.
pub record IsRunText (bytes : List ℕ) (r : Run) (t : Figures) : Type 0 where
  pub run : IsRun r
  pub tail : IsTail t
  pub spelled : bytes ≡ run_text r ++ tail_text t
