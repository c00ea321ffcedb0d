-- What commands and rounds of commands do to a session. This project's own.
use Rattle.std.specs.Prelude.{◌≡◌, Bool, true, ◌&&◌, List, [], ◌∷◌, map, IsTrue}
use Rattle.std.specs.List.{list_all}
use Rattle.mz_events.specs.declared.entry.Entry.{Entry}
use Rattle.mz_trace.specs.declared.run.RunEntry.{RunEntry}
use Rattle.mz_trace.specs.declared.run.CallRecord.{CallRecord}
use Rattle.mz_trace.specs.declared.run.RunRound.{RunRound}
use Rattle.mz_lines.specs.Answers.{answer_fits}
use Rattle.mz_trace.specs.RunForms.{entry_fits}
use Rattle.mz_session.specs.Sessions.{SessionView}
use Rattle.mz_session.specs.Serving.{Serves, Delivers}
use Rattle.mz_run.specs.Built.{is_built_command}

-- an entry as a record has it: whose it is, the section says
abbrev pub step_of : Entry → RunEntry
step_of e = record { ticket = e.ticket; event = e.event }

-- the record's entries and its answer have numbers that a line can have
abbrev pub is_told : CallRecord → Bool
is_told d = list_all entry_fits d.steps && answer_fits d.answer

-- the session served the command of the record, one of those that are built, and the record has the answer and just the entries
pub record Turn (s : SessionView) (d : CallRecord) (t : SessionView) : Type 0 where
  pub built : IsTrue (is_built_command d.command)
  pub told : is_told d ≡ true
  pub served : Serves s d.command d.answer t
  pub steps : d.steps ≡ map step_of served.entries

-- what commands do, one after another
abbrev pub Turns : SessionView → List CallRecord → SessionView → Type 0
Turns s [] t = s ≡ t
Turns s (d ∷ ds) t = (u : SessionView) × Turn s d u × Turns u ds t

-- what a round does: its commands, which are those of the one caller, and then all that is on its way comes
pub record RoundTurns (s : SessionView) (r : RunRound) (t : SessionView) : Type 0 where
  pub calls : List CallRecord
  pub served : SessionView
  pub starts : r.starts ≡ []
  pub callers : r.callers ≡ calls ∷ []
  pub turns : Turns s calls served
  pub delivers : Delivers served t

-- what rounds do, one after another
abbrev pub RoundsTurn : SessionView → List RunRound → SessionView → Type 0
RoundsTurn s [] t = s ≡ t
RoundsTurn s (r ∷ rs) t = (u : SessionView) × RoundTurns s r u × RoundsTurn u rs t
