-- A worked run of two rounds by two callers, whose tickets cross within the first round.
use Rattle.std.specs.Prelude.{ℕ, List, [], ◌∷◌, ◌++◌, codes}
use Rattle.mz_events.specs.declared.event.Event.TheVariants.{Take, New, End, Full, Dry, Open}
use Rattle.mz_events.specs.declared.entry.Entry.{Entry}
use Rattle.mz_examples.specs.Examples.{entry_of, magazine, depot}
use Rattle.mz_examples.specs.Edges.{entry_of_other, two_callers, small_magazine, small_depot}
use Rattle.mz_lines.specs.declared.command.Command.TheVariants.{Malloc, Free}
use Rattle.mz_words.specs.declared.name.Name.TheVariants.{Base}
use Rattle.mz_lines.specs.declared.answer.Answer.{Answer}
use Rattle.mz_lines.specs.declared.answer.Answer.TheVariants as answers
use Rattle.mz_lines.specs.declared.round_line.RoundLine.TheVariants.{Zone}
use Rattle.mz_trace.specs.declared.run.RunRound.{RunRound}
use Rattle.mz_trace.specs.declared.run.Run.{Run}
use Rattle.mz_examples.specs.RunsServed.{two_callers_in_8_pages, both_full, dry_at}
use Rattle.mz_examples.specs.Records.{step_of, record_of, round_of_records}

-- Caller 0 makes a block of 112 bytes; at these tickets.
abbrev pub makes_block : ℕ → ℕ → ℕ → ℕ → List Entry
makes_block t u v w = entry_of t (Full magazine 112 16) ∷ entry_of u (Full depot 112 16) ∷ entry_of v (Take magazine 0 64) ∷ entry_of w (New magazine 0 112 16) ∷ []

-- caller 1 asks for 1,024 bytes, for which there is no region
abbrev pub finds_none : ℕ → ℕ → ℕ → List Entry
finds_none t u v = entry_of_other t (Full small_magazine 1024 16) ∷ entry_of_other u (Full small_depot 1024 16) ∷ entry_of_other v (Dry 0 512 512) ∷ []

-- caller 0 frees its block
abbrev pub frees_block : ℕ → List Entry
frees_block t = entry_of t (End magazine 0 112) ∷ []

-- the first round, by the entries of each caller and the answer to the first
abbrev pub round_of_two : List Entry → Answer → List Entry → RunRound
round_of_two es answer ds =
    round_of_records
    ((record_of (Malloc (codes "a") 100) es answer ∷ []) ∷ (record_of (Malloc (codes "b") 1024) ds answers.Null ∷ []) ∷ [])

-- and the second, in which caller 1 has nothing to do
abbrev pub round_of_one : List Entry → RunRound
round_of_one es = round_of_records ((record_of (Free (Base (codes "a"))) es answers.Done ∷ []) ∷ [] ∷ [])

-- the tickets of the two callers cross in the first round
abbrev pub crossing : List RunRound
crossing = round_of_two (makes_block 0 1 3 4) (answers.Block 0 112) (finds_none 2 5 6) ∷ round_of_one (frees_block 7) ∷ []

-- the second round draws a ticket below two of the first
abbrev pub overtaking : List RunRound
overtaking = round_of_two (makes_block 0 1 2 3) (answers.Block 0 112) (finds_none 4 6 7) ∷ round_of_one (frees_block 5) ∷ []

-- the block is said to have 128 bytes
abbrev pub larger_answer : List RunRound
larger_answer = round_of_two (makes_block 0 1 3 4) (answers.Block 0 128) (finds_none 2 5 6) ∷ round_of_one (frees_block 7) ∷ []

-- caller 0's tickets fall within a record
abbrev pub falling : List RunRound
falling = round_of_two (makes_block 0 2 1 3) (answers.Block 0 112) (finds_none 4 5 6) ∷ []

-- caller 1 frees the block of caller 0
abbrev pub freed_by_other : List RunRound
freed_by_other =
    round_of_two (makes_block 0 1 3 4) (answers.Block 0 112) (finds_none 2 5 6)
    ∷ round_of_records ([] ∷ (record_of (Free (Base (codes "a"))) (entry_of_other 7 (End magazine 0 112) ∷ []) answers.Done ∷ []) ∷ [])
    ∷ []

-- In 8 pages there is no region for either caller. Caller 1 finds the magazine full while caller 0 is still asking.
abbrev pub asks_in_between : List RunRound
asks_in_between =
    round_of_records
    ((record_of (Malloc (codes "a") 100) (both_full ++ dry_at 3 ∷ []) answers.Null ∷ [])
    ∷ (record_of (Malloc (codes "b") 16) (entry_of_other 2 (Full magazine 16 16) ∷ entry_of_other 4 (Full depot 16 16) ∷ entry_of_other 5 (Dry 0 64 64) ∷ []) answers.Null ∷ [])
    ∷ [])
    ∷ []

-- A round begins with the line that opens a zone, at this ticket; then caller 0 frees its block, at this one.
abbrev pub opening_round : ℕ → ℕ → List RunRound
opening_round t u = record {
  starts = record { line = Zone (codes "draft"); steps = step_of (entry_of t (Open 1)) ∷ []; answer = answers.Done } ∷ [];
  callers = (record_of (Free (Base (codes "a"))) (frees_block u) answers.Done ∷ []) ∷ [];
} ∷ []

-- the run of these rounds
abbrev pub run_of_rounds : List RunRound → Run
run_of_rounds rounds = record { profile = two_callers; rounds = rounds }

-- and in 8 pages
abbrev pub run_in_8_pages : List RunRound → Run
run_in_8_pages rounds = record { profile = two_callers_in_8_pages; rounds = rounds }
