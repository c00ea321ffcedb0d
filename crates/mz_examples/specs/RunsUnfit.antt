-- Worked runs with a first record that doesn't fit, and what may stand behind a run.
use Rattle.std.specs.Prelude.{ℕ, List, [], ◌∷◌, codes}
use Rattle.mz_base.specs.declared.range.Range.TheVariants as range
use Rattle.mz_events.specs.declared.entry.Entry.{Entry}
use Rattle.mz_events.specs.declared.event.Event.TheVariants.{New, End}
use Rattle.mz_lines.specs.declared.answer.Answer.{Answer}
use Rattle.mz_lines.specs.declared.answer.Answer.TheVariants as answers
use Rattle.mz_lines.specs.declared.command.Command.TheVariants.{Malloc, Realloc, Free}
use Rattle.mz_lines.specs.declared.renaming.Names.TheVariants.{Renamed}
use Rattle.mz_words.specs.declared.name.Name.TheVariants.{Base}
use Rattle.mz_trace.specs.declared.run.Run.{Run}
use Rattle.mz_trace.specs.declared.tail.Figures.{Figures}
use Rattle.mz_trace.specs.declared.tail.Listed.{Listed}
use Rattle.mz_examples.specs.Examples.{entry_of, magazine}
use Rattle.mz_examples.specs.Edges.{entry_of_other}
use Rattle.mz_examples.specs.Records.{record_of, round_of_records, run_of_one, listed_at, figures}
use Rattle.mz_examples.specs.RunsRows.{first_block}
use Rattle.mz_examples.specs.RunsRounds.{run_of_rounds}

-- Row `thin-path`, by its entries and its answer.
abbrev pub thin_path_with : List Entry → Answer → Run
thin_path_with es answer = run_of_one (record_of (Malloc (codes "a") 100) es answer ∷ [])

-- Caller 1 ends caller 0's block a between its two requests. The first byte of a is that of b then, and a is still held: it stays as it is
-- where it is to have 40 bytes.
abbrev pub ended_by_other : Run
ended_by_other =
    run_of_rounds
    (round_of_records
    ((record_of (Malloc (codes "a") 48) (first_block 48) (answers.Block 0 48)
    ∷ record_of (Malloc (codes "b") 100) (entry_of 5 (New magazine 0 112 16) ∷ []) (answers.Block 0 112)
    ∷ record_of (Realloc (Renamed (Base (codes "a")) (codes "a")) 40) [] (answers.Block 0 48) ∷ [])
    ∷ (record_of (Free (Base (codes "a"))) (entry_of_other 4 (End magazine 0 48) ∷ []) answers.Done ∷ []) ∷ [])
    ∷ [])

-- what stands behind row `thin-path`, but for these blocks and this sum
abbrev pub thin_path_tail : List Listed → ℕ → Figures
thin_path_tail listing bytes = figures listing 1 bytes 112 1048576

abbrev pub its_block : List Listed
its_block = listed_at 0 112 range.Tiny ∷ []

abbrev pub two_blocks : List Listed
two_blocks = listed_at 0 112 range.Tiny ∷ listed_at 112 16 range.Tiny ∷ []
