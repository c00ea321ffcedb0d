-- Worked runs of one caller in 64 pages, row by row, and spoiled ones.
use Rattle.std.specs.Prelude.{ℕ, List, [], ◌∷◌, ◌++◌, replicate, codes}
use Rattle.mz_base.specs.declared.range.Range.TheVariants as range
use Rattle.mz_events.specs.declared.entry.Entry.{Entry}
use Rattle.mz_events.specs.declared.event.Event.TheVariants.{Take, New, End, Full, Dry}
use Rattle.mz_events.specs.declared.event.Event.TheVariants as event
use Rattle.mz_lines.specs.declared.answer.Answer.{Answer}
use Rattle.mz_lines.specs.declared.answer.Answer.TheVariants as answers
use Rattle.mz_lines.specs.declared.command.Command.{Command}
use Rattle.mz_lines.specs.declared.command.Command.TheVariants.{Malloc, Calloc, Valloc, Memalign, Realloc, Free, FreeAt, SizedFree, Size, Fill, Show, Link, Batch, Unbatch}
use Rattle.mz_lines.specs.declared.renaming.Names.TheVariants.{Fresh, Renamed}
use Rattle.mz_trace.specs.declared.run.CallRecord.{CallRecord}
use Rattle.mz_trace.specs.declared.run.Run.{Run}
use Rattle.mz_trace.specs.declared.tail.Figures.{Figures}
use Rattle.mz_words.specs.declared.name.Name.{Name}
use Rattle.mz_words.specs.declared.name.Name.TheVariants.{Base}
use Rattle.mz_lawful.specs.Records.{call}
use Rattle.mz_lawful.specs.Tasks.{Task, task_of}
use Rattle.mz_lawful.specs.LawfulRun.{first_setting}
use Rattle.mz_examples.specs.Examples.{profile_of, entry_of, magazine, depot, large, first_region}
use Rattle.mz_examples.specs.Edges.{small_magazine, small_depot}
use Rattle.mz_examples.specs.Records.{record_of, round_of_records, run_of_one, listed_at, figures}

-- the names a, b and c
abbrev pub name_a : Name
name_a = Base (codes "a")

abbrev pub name_b : Name
name_b = Base (codes "b")

abbrev pub name_c : Name
name_c = Base (codes "c")

-- a first block a of n bytes is served, in a fresh region
abbrev pub first_block : ℕ → List Entry
first_block s = first_region s ++ entry_of 3 (New magazine 0 s 16) ∷ []

abbrev pub makes_a_block : ℕ → ℕ → CallRecord
makes_a_block n s = record_of (Malloc (codes "a") n) (first_block s) (answers.Block 0 s)

-- a block is served from the magazine, at a ticket
abbrev pub new_at : ℕ → ℕ → ℕ → List Entry
new_at ticket address size = entry_of ticket (New magazine address size 16) ∷ []

-- one ends there
abbrev pub end_at : ℕ → ℕ → ℕ → List Entry
end_at ticket address size = entry_of ticket (End magazine address size) ∷ []

-- Row `last-freed-block`, by the entries of the first line and the answer to the last.
abbrev pub freed_and_served : List Entry → Answer → Run
freed_and_served es answer =
    run_of_one
    (record_of (Malloc (codes "a") 48) es (answers.Block 0 48) ∷ record_of (Malloc (codes "b") 48) (new_at 4 48 48) (answers.Block 48 48)
    ∷ record_of (Free name_a) (end_at 5 0 48) answers.Done ∷ record_of (Malloc (codes "c") 48) (new_at 6 0 48) answer ∷ [])

abbrev pub row_last_freed : Run
row_last_freed = freed_and_served (first_block 48) (answers.Block 0 48)

-- no region is taken
abbrev pub take_left_out : Run
take_left_out =
    freed_and_served (entry_of 0 (Full magazine 48 16) ∷ entry_of 1 (Full depot 48 16) ∷ entry_of 2 (New magazine 0 48 16) ∷ []) (answers.Block 0 48)

abbrev pub last_freed_tail : Figures
last_freed_tail = figures (listed_at 0 48 range.Tiny ∷ listed_at 48 48 range.Tiny ∷ []) 2 96 96 1048576

-- Row `repeated-free`, by the entries and the answer of the second `free`.
abbrev pub freed_twice : List Entry → Answer → Run
freed_twice es answer = run_of_one (makes_a_block 48 48 ∷ record_of (Free name_a) (end_at 4 0 48) answers.Done ∷ record_of (Free name_a) es answer ∷ [])

abbrev pub row_repeated_free : Run
row_repeated_free = freed_twice [] answers.NotHeld

-- nothing is live, and a region is in use
abbrev pub empty_tail : ℕ → Figures
empty_tail most = figures [] 0 0 most 1048576

-- Row `interior-address`, by the entries and answers of both lines.
abbrev pub freed_inside : List Entry → Answer → List Entry → Answer → Run
freed_inside es one ds two = run_of_one (makes_a_block 48 48 ∷ record_of (FreeAt name_a 16) es one ∷ record_of (FreeAt name_a 0) ds two ∷ [])

abbrev pub row_interior_address : Run
row_interior_address = freed_inside [] answers.NotHeld (end_at 4 0 48) answers.Done

-- Behind a stands b, and an offset from a is the start of b; by the entries of `freeat`, and the size of b then.
abbrev pub freed_behind : List Entry → ℕ → Run
freed_behind es size =
    run_of_one
    (makes_a_block 48 48 ∷ record_of (Malloc (codes "b") 48) (new_at 4 48 48) (answers.Block 48 48) ∷ record_of (FreeAt name_a 48) es answers.Done
    ∷ record_of (Size name_b) [] (answers.Size size) ∷ record_of (Size name_a) [] (answers.Size 48) ∷ [])

-- Row `large-cache`, by the answer to b, and the entries and the answer of d.
abbrev pub served_from_cache : Answer → List Entry → Answer → Run
served_from_cache b es d =
    run_of_one
    (record_of (Malloc (codes "a") 80000) (entry_of 0 (Full large 5 1) ∷ entry_of 1 (Take large 0 5) ∷ entry_of 2 (New large 0 81920 16) ∷ []) (answers.Block 0 81920)
    ∷ record_of (Free name_a) (entry_of 3 (End large 0 81920) ∷ []) answers.Done
    ∷ record_of (Malloc (codes "b") 40000) (entry_of 4 (New large 0 81920 16) ∷ []) b
    ∷ record_of (Malloc (codes "c") 98304) (entry_of 5 (Full large 6 1) ∷ entry_of 6 (Take large 5 6) ∷ entry_of 7 (New large 81920 98304 16) ∷ []) (answers.Block 81920 98304)
    ∷ record_of (Free name_c) (entry_of 8 (End large 81920 98304) ∷ []) answers.Done
    ∷ record_of (Malloc (codes "d") 40000) es d ∷ [])

abbrev pub takes_three : List Entry
takes_three = entry_of 9 (Full large 3 1) ∷ entry_of 10 (Take large 11 3) ∷ entry_of 11 (New large 180224 49152 16) ∷ []

abbrev pub row_large_cache : Run
row_large_cache = served_from_cache (answers.Block 0 81920) takes_three (answers.Block 180224 49152)

-- the cached run of 6 pages is said to serve 3
abbrev pub serves_from_six : Run
serves_from_six = served_from_cache (answers.Block 0 81920) (entry_of 9 (New large 81920 98304 16) ∷ []) (answers.Block 81920 98304)

abbrev pub large_cache_tail : Figures
large_cache_tail = figures (listed_at 0 81920 range.Large ∷ listed_at 180224 49152 range.Large ∷ []) 2 131072 180224 229376

-- Row `refusals`, by the answers of the lines that are refused.
abbrev pub refusing : Answer → Answer → Answer → Answer → Run
refusing calloc memalign malloc sfree =
    run_of_one
    (record_of (Calloc (codes "a") 4294967296 4294967296) [] calloc ∷ record_of (Memalign (codes "a") 24 8) [] memalign
    ∷ makes_a_block 8 16 ∷ record_of (Malloc (codes "a") 8) [] malloc ∷ record_of (SizedFree name_a 17) [] sfree ∷ record_of (SizedFree name_a 8) (end_at 4 0 16) answers.Done
    ∷ record_of (Malloc (codes "h") 18446744073709551615) (entry_of 5 (Full large 1125899906842624 1) ∷ entry_of 6 (Dry 0 1125899906842624 1) ∷ []) answers.Null
    ∷ [])

abbrev pub row_refusals : Run
row_refusals = refusing answers.Overflow answers.BadAlign answers.Held (answers.WrongSize 16)

-- a name that is held, and a bad alignment too
abbrev pub held_and_bad_align : Answer → Run
held_and_bad_align answer = run_of_one (makes_a_block 8 16 ∷ record_of (Memalign (codes "a") 24 8) [] answer ∷ [])

-- what a command of caller 0 is to do where nothing stands yet
abbrev pub first_task : Command → Task
first_task command = task_of (first_setting (run_of_one [])) (call 0 command)

-- blocks are placed at multiples of 16 where less is asked; by the alignment in the entry
abbrev pub placed_at : ℕ → Run
placed_at al =
    run_of_one (record_of (Memalign (codes "a") 8 48) (first_region 48 ++ entry_of 3 (New magazine 0 48 al) ∷ []) (answers.Block 0 48) ∷ [])

-- Row `realloc`: a grows in place, b is placed behind it, a moves, and c is new.
abbrev pub grows_a : List Entry
grows_a = entry_of 4 (event.Size magazine 0 48 112) ∷ []

abbrev pub moves_a : List Entry
moves_a = new_at 6 128 208 ++ end_at 7 0 112

abbrev pub resizes : ℕ → List Entry → Answer → CallRecord
resizes n es answer = record_of (Realloc (Renamed name_a (codes "a")) n) es answer

abbrev pub row_realloc : Run
row_realloc =
    run_of_one
    (makes_a_block 48 48 ∷ resizes 100 grows_a (answers.Block 0 112) ∷ record_of (Malloc (codes "b") 16) (new_at 5 112 16) (answers.Block 112 16)
    ∷ resizes 200 moves_a (answers.Block 128 208) ∷ record_of (Realloc (Fresh (codes "c")) 20) (new_at 8 0 32) (answers.Block 0 32) ∷ [])

abbrev pub realloc_tail : Figures
realloc_tail = figures (listed_at 0 32 range.Tiny ∷ listed_at 112 16 range.Tiny ∷ listed_at 128 208 range.Tiny ∷ []) 3 256 336 1048576

-- a is to have 100 bytes, with these entries and this answer
abbrev pub resized_once : List Entry → Answer → Run
resized_once es answer = run_of_one (makes_a_block 48 48 ∷ resizes 100 es answer ∷ [])

-- it moves behind itself, though there is room for it where it is
abbrev pub moves_without_need : List Entry
moves_without_need = new_at 4 48 112 ++ end_at 5 0 48

-- a goes by the name b and is freed under it, but not under a; by the answer to the `free` of a
abbrev pub renamed : Answer → Run
renamed answer =
    run_of_one
    (makes_a_block 48 48 ∷ record_of (Realloc (Renamed name_a (codes "b")) 40) [] (answers.Block 0 48) ∷ record_of (Free name_a) [] answer
    ∷ record_of (Free name_b) (end_at 4 0 48) answers.Done ∷ [])

-- There is no small region for 2,000 bytes; a stays, and is freed. By the answer to the `realloc`.
abbrev pub no_small_region : List Entry
no_small_region = entry_of 4 (Full small_magazine 2048 16) ∷ entry_of 5 (Full small_depot 2048 16) ∷ entry_of 6 (Dry 0 512 512) ∷ []

abbrev pub not_moved : List Entry → Answer → Run
not_moved es answer = run_of_one (makes_a_block 48 48 ∷ resizes 2000 es answer ∷ record_of (Free name_a) (end_at 7 0 48) answers.Done ∷ [])

-- Row `alignment`, by where b is placed.
abbrev pub aligned : Entry → Answer → Run
aligned e answer =
    run_of_one
    (makes_a_block 16 16 ∷ record_of (Memalign (codes "b") 64 100) (e ∷ []) answer
    ∷ record_of (Valloc (codes "c") 100) (entry_of 5 (New magazine 16384 112 16384) ∷ []) (answers.Block 16384 112) ∷ [])

abbrev pub row_alignment : Run
row_alignment = aligned (entry_of 4 (New magazine 64 112 64)) (answers.Block 64 112)

abbrev pub alignment_tail : Figures
alignment_tail = figures (listed_at 0 16 range.Tiny ∷ listed_at 64 112 range.Tiny ∷ listed_at 16384 112 range.Tiny ∷ []) 3 240 240 1048576

-- Row `bytes`, by what is shown: all at first, past the end, after the `fill`, and after the `link`.
abbrev pub shown : List ℕ → Answer → List ℕ → List ℕ → Run
shown first past filled linked =
    run_of_one
    (record_of (Calloc (codes "c") 3 8) (first_block 32) (answers.Block 0 32) ∷ record_of (Show name_c 0 24) [] (answers.Bytes first) ∷ record_of (Show name_c 30 4) [] past
    ∷ record_of (Fill name_c 171) [] answers.Done ∷ record_of (Show name_c 30 2) [] (answers.Bytes filled)
    ∷ record_of (Link name_c 8 name_c) [] answers.Done ∷ record_of (Show name_c 8 8) [] (answers.Bytes linked) ∷ [])

abbrev pub zeros : ℕ → List ℕ
zeros n = replicate n 0

abbrev pub row_bytes : Run
row_bytes = shown (zeros 24) answers.OutOfRange (171 ∷ 171 ∷ []) (zeros 8)

abbrev pub bytes_tail : Figures
bytes_tail = figures (listed_at 0 32 range.Tiny ∷ []) 1 32 32 1048576

-- a byte that nobody wrote is shown as 99
abbrev pub unknown_shown : Run
unknown_shown =
    run_of_one
    (record_of (Calloc (codes "c") 3 8) (first_block 32) (answers.Block 0 32) ∷ record_of (Show name_c 23 2) [] (answers.Bytes (0 ∷ 99 ∷ [])) ∷ [])

-- A batch of three blocks, and its end; by the entries and the answer of the one and of the other.
abbrev pub batch : List Entry → Answer → List Entry → Answer → Run
batch es one ds two = run_of_one (record_of (Batch (codes "b") 3 16) es one ∷ record_of (Unbatch (codes "b")) ds two ∷ [])

abbrev pub three_served : List Entry
three_served = first_block 16 ++ new_at 4 16 16 ++ new_at 5 32 16

abbrev pub three_dropped : List Entry
three_dropped = end_at 6 0 16 ++ end_at 7 16 16 ++ end_at 8 32 16

-- There are 4 pages for a batch of two blocks of 3 pages, and the second finds none; by the answer.
abbrev pub one_served : List Entry
one_served = entry_of 0 (Full large 3 1) ∷ entry_of 1 (Take large 0 3) ∷ entry_of 2 (New large 0 49152 16) ∷ []

abbrev pub none_left : List Entry
none_left = entry_of 3 (Full large 3 1) ∷ entry_of 4 (Dry 0 3 1) ∷ []

abbrev pub batch_in_4_pages : Answer → Run
batch_in_4_pages answer = record {
  profile = profile_of 4;
  rounds = round_of_records ((record_of (Batch (codes "b") 2 40000) (one_served ++ none_left) answer ∷ []) ∷ []) ∷ [];
}
