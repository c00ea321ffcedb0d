-- Records, rounds and runs, from commands, entries and answers; and what stands behind a run.
use Rattle.std.specs.Prelude.{ℕ, List, [], ◌∷◌, map, codes}
use Rattle.mz_base.specs.declared.range.Range.{Range}
use Rattle.mz_events.specs.declared.entry.Entry.{Entry}
use Rattle.mz_lines.specs.declared.answer.Answer.{Answer}
use Rattle.mz_lines.specs.declared.command.Command.{Command}
use Rattle.mz_lines.specs.declared.round_line.RoundLine.{RoundLine}
use Rattle.mz_trace.specs.declared.run.RunEntry.{RunEntry}
use Rattle.mz_trace.specs.declared.run.CallRecord.{CallRecord}
use Rattle.mz_trace.specs.declared.run.StartRecord.{StartRecord}
use Rattle.mz_trace.specs.declared.run.RunRound.{RunRound}
use Rattle.mz_trace.specs.declared.run.Run.{Run}
use Rattle.mz_trace.specs.declared.tail.Figures.{Figures}
use Rattle.mz_trace.specs.declared.tail.Listed.{Listed}
use Rattle.mz_examples.specs.Examples.{profile_of}

-- an entry as its section has it
abbrev pub step_of : Entry → RunEntry
step_of e = record { ticket = e.ticket; event = e.event }

-- the record of a command with these entries
abbrev pub record_of : Command → List Entry → Answer → CallRecord
record_of command es answer = record { command = command; steps = map step_of es; answer = answer }

-- and of a line at the start of a round
abbrev pub start_of : RoundLine → List Entry → Answer → StartRecord
start_of line es answer = record { line = line; steps = map step_of es; answer = answer }

-- a round with these records of its callers
abbrev pub round_of_records : List (List CallRecord) → RunRound
round_of_records callers = record { starts = []; callers = callers }

-- a run of one round by one caller in 64 pages
abbrev pub run_of_one : List CallRecord → Run
run_of_one ds = record { profile = profile_of 64; rounds = round_of_records (ds ∷ []) ∷ [] }

-- a block as it is listed, in the zone default
abbrev pub listed_at : ℕ → ℕ → Range → Listed
listed_at a s range = record { a = a; s = s; range = range; zone = codes "default" }

-- what stands behind a run: the blocks, their number and bytes, the most bytes that were ever live, and the bytes of the
-- pages in use
abbrev pub figures : List Listed → ℕ → ℕ → ℕ → ℕ → Figures
figures listing blocks bytes most pages = record {
  listing = listing;
  statistics = record { blocks_in_use = blocks; size_in_use = bytes; max_size_in_use = most; size_allocated = pages };
}
