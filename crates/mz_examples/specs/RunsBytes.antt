-- Worked runs in which a block is filled, and then goes to another caller or gets another size; by the two bytes that are
-- shown of it then.
use Rattle.std.specs.Prelude.{ℕ, List, [], ◌∷◌, ◌++◌, codes}
use Rattle.mz_lines.specs.declared.answer.Answer.TheVariants as answers
use Rattle.mz_lines.specs.declared.command.Command.TheVariants.{Malloc, Fill, Show, Give}
use Rattle.mz_trace.specs.declared.run.CallRecord.{CallRecord}
use Rattle.mz_trace.specs.declared.run.Run.{Run}
use Rattle.mz_words.specs.declared.name.Name.{Name}
use Rattle.mz_words.specs.declared.name.Name.TheVariants.{Given}
use Rattle.mz_events.specs.declared.entry.Entry.{Entry}
use Rattle.mz_examples.specs.Records.{record_of, round_of_records, run_of_one}
use Rattle.mz_examples.specs.RunsRows.{name_a, makes_a_block, new_at, end_at, resizes, grows_a, moves_a}
use Rattle.mz_examples.specs.RunsZones.{two_in_128, given_a}

-- every byte of a is this one
abbrev pub fills_a : ℕ → CallRecord
fills_a byte = record_of (Fill name_a byte) [] answers.Done

-- two bytes are shown, from an offset on
abbrev pub shows_two : Name → ℕ → ℕ → ℕ → CallRecord
shows_two name off x y = record_of (Show name off 2) [] (answers.Bytes (x ∷ y ∷ []))

-- Caller 0 fills a block with 7 and gives it, and caller 1 looks at it in the next round.
abbrev pub given_shown : ℕ → ℕ → Run
given_shown x y = record {
  profile = two_in_128;
  rounds =
      round_of_records ((makes_a_block 600 608 ∷ fills_a 7 ∷ record_of (Give name_a 1 given_a) [] answers.Done ∷ []) ∷ [] ∷ [])
      ∷ round_of_records ([] ∷ (shows_two (Given given_a) 0 x y ∷ []) ∷ [])
      ∷ [];
}

-- The block of 48 bytes, filled with 5, grows in place to 112: its old last byte, and the one behind that.
abbrev pub grown_shown : ℕ → ℕ → Run
grown_shown x y = run_of_one (makes_a_block 48 48 ∷ fills_a 5 ∷ resizes 100 grows_a (answers.Block 0 112) ∷ shows_two name_a 47 x y ∷ [])

-- The block grows in place, is filled with 3, and moves away from its neighbour.
abbrev pub moved_shown : ℕ → ℕ → Run
moved_shown x y =
    run_of_one
    (makes_a_block 48 48 ∷ resizes 100 grows_a (answers.Block 0 112) ∷ record_of (Malloc (codes "b") 16) (new_at 5 112 16) (answers.Block 112 16) ∷ fills_a 3
    ∷ resizes 200 moves_a (answers.Block 128 208) ∷ shows_two name_a 0 x y ∷ [])

-- it moves to one of 16 bytes, behind itself
abbrev pub moves_to_16 : List Entry
moves_to_16 = new_at 4 48 16 ++ end_at 5 0 48

-- The block, filled with 5, is to have no bytes, and keeps none: any may be shown. It is filled with 6, and shown again.
abbrev pub emptied_shown : ℕ → ℕ → Run
emptied_shown x y =
    run_of_one
    (makes_a_block 48 48 ∷ fills_a 5 ∷ resizes 0 moves_to_16 (answers.Block 48 16) ∷ shows_two name_a 0 9 0 ∷ fills_a 6 ∷ shows_two name_a 0 x y ∷ [])
