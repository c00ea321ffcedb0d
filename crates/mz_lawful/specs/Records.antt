-- The records of a run: each line with whose it is, its entries, and its answer. This project's own.
use Rattle.std.specs.Prelude.{ℕ, ◌+◌, List, [], ◌∷◌, ◌++◌, map}
use Rattle.std.specs.List.{flat_map}
use Rattle.mz_events.specs.declared.entry.Entry.{Entry}
use Rattle.mz_lines.specs.declared.answer.Answer.{Answer}
use Rattle.mz_lines.specs.declared.command.Command.{Command}
use Rattle.mz_lines.specs.declared.round_line.RoundLine.{RoundLine}
use Rattle.mz_trace.specs.declared.run.RunEntry.{RunEntry}
use Rattle.mz_trace.specs.declared.run.StartRecord.{StartRecord}
use Rattle.mz_trace.specs.declared.run.CallRecord.{CallRecord}
use Rattle.mz_trace.specs.declared.run.RunRound.{RunRound}
use Rattle.mz_trace.specs.declared.run.Run.{Run}

-- A line: one at the start of a round, or a caller's command.
pub data Line : Type 0 where
  start : RoundLine → Line
  call : ℕ → Command → Line

-- whose line it is; those at the start of a round are caller 0's
abbrev pub caller_of : Line → ℕ
caller_of (start l) = 0
caller_of (call c command) = c

-- What became of a line: the entries behind it, and its answer.
pub record LineRecord : Type 0 where
  pub line : Line
  pub entries : List Entry
  pub answer : Answer

-- the entry of a section's caller
abbrev pub entry_by : ℕ → RunEntry → Entry
entry_by c e = record { ticket = e.ticket; caller = c; event = e.event }

-- the records at the start of a round
abbrev pub start_record : StartRecord → LineRecord
start_record d = record { line = start d.line; entries = map (entry_by 0) d.steps; answer = d.answer }

abbrev pub start_records : List StartRecord → List LineRecord
start_records ds = map start_record ds

-- those in the section of caller c
abbrev pub call_record : ℕ → CallRecord → LineRecord
call_record c d = record { line = call c d.command; entries = map (entry_by c) d.steps; answer = d.answer }

abbrev pub call_records : ℕ → List CallRecord → List LineRecord
call_records c ds = map (call_record c) ds

-- those in the sections of callers from c on
abbrev pub section_records : ℕ → List (List CallRecord) → List LineRecord
section_records c [] = []
section_records c (ds ∷ sections) = call_records c ds ++ section_records (c + 1) sections

-- the records of a round, in the order of its text
abbrev pub round_records : RunRound → List LineRecord
round_records r = start_records r.starts ++ section_records 0 r.callers

-- the entries of records, in the order of the text
abbrev pub entries_of_records : List LineRecord → List Entry
entries_of_records ds = flat_map (λ d. d.entries) ds

abbrev pub entries_of_round : RunRound → List Entry
entries_of_round r = entries_of_records (round_records r)

abbrev pub entries_of : Run → List Entry
entries_of r = flat_map entries_of_round r.rounds
