-- The texts of printed runs. This project's own.
use Rattle.std.specs.Prelude.{ℕ, ◌+◌, List, [], ◌∷◌, ◌++◌, map, codes}
use Rattle.std.specs.List.{flat_map}
use Rattle.std.specs.Fmt.{decimal}
use Rattle.mz_lines.specs.declared.answer.Answer.{Answer}
use Rattle.mz_trace.specs.declared.run.RunEntry.{RunEntry}
use Rattle.mz_trace.specs.declared.run.StartRecord.{StartRecord}
use Rattle.mz_trace.specs.declared.run.CallRecord.{CallRecord}
use Rattle.mz_trace.specs.declared.run.RunRound.{RunRound}
use Rattle.mz_trace.specs.declared.run.Run.{Run}
use Rattle.mz_trace.specs.declared.round.Round.{Round}
use Rattle.mz_trace.specs.declared.trace.Trace.{Trace}
use Rattle.mz_words.specs.Lines.{line_text}
use Rattle.mz_lines.specs.Commands.{command_words}
use Rattle.mz_lines.specs.RoundLines.{start_words}
use Rattle.mz_lines.specs.Events.{event_words}
use Rattle.mz_lines.specs.Answers.{answer_words}
use Rattle.mz_lines.specs.Spaces.{space_words}

-- an entry: its ticket and its event
abbrev pub entry_words : RunEntry → List (List ℕ)
entry_words e = decimal e.ticket ∷ event_words e.event

-- what became of a line: its entries, and the answer behind a `=`
abbrev pub outcome_lines : List RunEntry → Answer → List (List (List ℕ))
outcome_lines steps answer = map entry_words steps ++ (codes "=" ∷ answer_words answer) ∷ []

-- a record: the words of the line behind a `>`, and what became of it
abbrev pub record_lines : List (List ℕ) → List RunEntry → Answer → List (List (List ℕ))
record_lines words steps answer = (codes ">" ∷ words) ∷ outcome_lines steps answer

abbrev pub start_record_lines : StartRecord → List (List (List ℕ))
start_record_lines d = record_lines (start_words d.line) d.steps d.answer

abbrev pub call_record_lines : CallRecord → List (List (List ℕ))
call_record_lines d = record_lines (command_words d.command) d.steps d.answer

-- the section of a caller, with the record of each of its commands
abbrev pub section_lines : ℕ → List CallRecord → List (List (List ℕ))
section_lines caller calls = (codes "caller" ∷ decimal caller ∷ []) ∷ flat_map call_record_lines calls

-- the sections of callers from one on, also of those without commands
abbrev pub sections_from : ℕ → List (List CallRecord) → List (List (List ℕ))
sections_from caller [] = []
sections_from caller (calls ∷ lists) = section_lines caller calls ++ sections_from (caller + 1) lists

abbrev pub run_round_lines : RunRound → List (List (List ℕ))
run_round_lines r = (codes "round" ∷ []) ∷ (flat_map start_record_lines r.starts ++ sections_from 0 r.callers)

-- a printed run, up to its `end`
abbrev pub run_lines : Run → List (List (List ℕ))
run_lines r =
    (codes "mzone-run" ∷ codes "1" ∷ []) ∷ space_words r.profile ∷ (flat_map run_round_lines r.rounds ++ (codes "end" ∷ []) ∷ [])

abbrev pub run_text : Run → List ℕ
run_text r = flat_map line_text (run_lines r)

-- the trace of a run
abbrev pub round_of : RunRound → Round
round_of r = record { lines = map (λ d. d.line) r.starts; commands = map (λ calls. map (λ d. d.command) calls) r.callers }

abbrev pub trace_of : Run → Trace
trace_of r = record { profile = r.profile; rounds = map round_of r.rounds }
