-- Worked histories of blocks that are to have another size, with the places of these commands in their runs.
use Rattle.std.specs.Prelude.{ℕ, List, [], ◌∷◌, ◌++◌, Option, codes}
use Rattle.mz_events.specs.declared.event.Event.TheVariants.{Take, New, End, Size, Full, Dry, Open}
use Rattle.mz_events.specs.declared.place.Place.{Place}
use Rattle.mz_events.specs.declared.place.Place.TheVariants.{Nano}
use Rattle.mz_events.specs.declared.entry.Entry.{Entry}
use Rattle.mz_base.specs.declared.profile.Profile.{Profile}
use Rattle.mz_base.specs.Space.{Block, run_at, block_at}
use Rattle.mz_record.specs.Resized.{Resize, IsReallocated}
use Rattle.mz_events.specs.Places.{spot_of}
use Rattle.mz_events.specs.State.{State, opening, blank, nothing_kept}
use Rattle.mz_examples.specs.Examples.{profile_of, entry_of, first_region, magazine, depot, large}
use Rattle.mz_examples.specs.Rows.{LAST_PAGE, second}
use Rattle.mz_examples.specs.Edges.{entry_of_other, two_callers, small_magazine, small_depot}
use Rattle.mz_lines.specs.declared.command.Command.{Command}
use Rattle.mz_lines.specs.declared.command.Command.TheVariants.{Malloc, Realloc}
use Rattle.mz_lines.specs.declared.renaming.Names.TheVariants.{Renamed}
use Rattle.mz_words.specs.declared.name.Name.TheVariants.{Base}
use Rattle.mz_lines.specs.declared.answer.Answer.TheVariants as answers
use Rattle.mz_lines.specs.declared.round_line.RoundLine.TheVariants.{Zone}
use Rattle.mz_trace.specs.declared.run.CallRecord.{CallRecord}
use Rattle.mz_trace.specs.declared.run.Run.{Run}
use Rattle.mz_examples.specs.Records.{record_of, start_of, round_of_records, run_of_one}

-- the block a of 48 bytes is made
abbrev pub makes_a : List Entry
makes_a = first_region 48 ++ entry_of 3 (New magazine 0 48 16) ∷ []

abbrev pub record_of_a : CallRecord
record_of_a = record_of (Malloc (codes "a") 48) makes_a (answers.Block 0 48)

-- and is to have n bytes
abbrev pub resize_a : ℕ → Command
resize_a n = Realloc (Renamed (Base (codes "a")) (codes "a")) n

-- caller 0 asks n bytes for a block of a zone, after so many entries, at least and at most
abbrev pub asks : ℕ → ℕ → ℕ → Block → ℕ → Resize
asks low high z b n = record { caller = 0; zone = z; block = b; bytes = n; low = low; high = high }

-- these entries fit that a, which the first 4 entries made, is to have n bytes
abbrev pub ResizesA : List Entry → ℕ → List Entry → Option Block → Type 0
ResizesA h n es got = IsReallocated (profile_of 64) h (asks 4 4 0 (block_at 0 48) n) es got

-- Row `realloc`: a grows in place, b is placed behind it, and a moves.
abbrev pub grows : List Entry
grows = entry_of 4 (Size magazine 0 48 112) ∷ []

abbrev pub makes_b : List Entry
makes_b = entry_of 5 (New magazine 112 16 16) ∷ []

abbrev pub moves_away : List Entry
moves_away = entry_of 6 (New magazine 128 208 16) ∷ entry_of 7 (End magazine 0 112) ∷ []

abbrev pub row_realloc : List Entry
row_realloc = makes_a ++ grows ++ makes_b ++ moves_away

-- a shrinks in place
abbrev pub shrinks : List Entry
shrinks = entry_of 4 (Size magazine 0 48 16) ∷ []

-- a moves to a block of 112 bytes behind it
abbrev pub moves_behind : List Entry
moves_behind = entry_of 4 (New magazine 48 112 16) ∷ entry_of 5 (End magazine 0 48) ∷ []

-- a moves to a block of 16 bytes behind it
abbrev pub moves_to_least : List Entry
moves_to_least = entry_of 4 (New magazine 48 16 16) ∷ entry_of 5 (End magazine 0 48) ∷ []

-- there is no small region for 2,048 bytes
abbrev pub no_small_region : List Entry
no_small_region = entry_of 4 (Full small_magazine 2048 16) ∷ entry_of 5 (Full small_depot 2048 16) ∷ entry_of 6 (Dry 0 512 512) ∷ []

-- the other caller makes a block behind a, and frees it
abbrev pub other_makes : List Entry
other_makes = entry_of_other 4 (New magazine 48 48 16) ∷ []

abbrev pub other_frees : List Entry
other_frees = entry_of_other 5 (End magazine 48 48) ∷ []

-- and a moves, to where that block was
abbrev pub moves_then : List Entry
moves_then = entry_of 6 (New magazine 48 112 16) ∷ entry_of 7 (End magazine 0 48) ∷ []

abbrev pub neighbour_goes : List Entry
neighbour_goes = makes_a ++ other_makes ++ other_frees ++ moves_then

-- two callers, two zones
abbrev pub two_zones_for_two : Profile
two_zones_for_two = record two_callers { zones = 2 }

-- After the round in which a was made another zone opens, and the other caller has an entry before a moves.
abbrev pub with_opening : List Entry
with_opening = makes_a ++ entry_of 4 (Open 1) ∷ entry_of_other 5 (Full small_magazine 1024 16) ∷ moves_then

-- the run of these entries
abbrev pub run_with_opening : Run
run_with_opening = record {
  profile = two_zones_for_two;
  rounds =
      round_of_records ((record_of_a ∷ []) ∷ [] ∷ [])
      ∷ record {
        starts = start_of (Zone (codes "draft")) (entry_of 4 (Open 1) ∷ []) answers.Done ∷ [];
        callers =
            (record_of (resize_a 100) moves_then (answers.Block 48 112) ∷ [])
            ∷ (record_of (Malloc (codes "b") 1024) (entry_of_other 5 (Full small_magazine 1024 16) ∷ []) answers.Null ∷ []) ∷ [];
      } ∷ [];
}

-- the run in which a is to have 40 bytes, with no entry
abbrev pub run_with_none : Run
run_with_none = run_of_one (record_of_a ∷ record_of (resize_a 40) [] (answers.Block 0 48) ∷ [])

-- the same, but that a's own caller made the neighbour and freed it
abbrev pub own_makes : List Entry
own_makes = entry_of 4 (New magazine 48 48 16) ∷ []

abbrev pub own_frees : List Entry
own_frees = entry_of 5 (End magazine 48 48) ∷ []

abbrev pub own_goes : List Entry
own_goes = makes_a ++ own_makes ++ own_frees ++ moves_then

-- a large block c of 5 pages is made
abbrev pub makes_c : List Entry
makes_c = entry_of 0 (Full large 5 1) ∷ entry_of 1 (Take large 0 5) ∷ entry_of 2 (New large 0 81920 16) ∷ []

-- a block of 4 pages is made, and c ends
abbrev pub moves_c : List Entry
moves_c = entry_of 3 (Full large 4 1) ∷ entry_of 4 (Take large 5 4) ∷ entry_of 5 (New large 81920 65536 16) ∷ entry_of 6 (End large 0 81920) ∷ []

-- a large block d of 6 pages is made
abbrev pub makes_d : List Entry
makes_d = entry_of 0 (Full large 6 1) ∷ entry_of 1 (Take large 0 6) ∷ entry_of 2 (New large 0 98304 16) ∷ []

-- in 8 pages there are no 7 others for it
abbrev pub no_seven_pages : List Entry
no_seven_pages = entry_of 3 (Full large 7 1) ∷ entry_of 4 (Dry 0 7 1) ∷ []

-- a block of 48 bytes in nano, which moves to a slot of 112 bytes in another page
abbrev pub moves_in_nano : List Entry
moves_in_nano = entry_of 1 (New Nano 1015808 112 16) ∷ entry_of 2 (End Nano LAST_PAGE 48) ∷ []

-- or is said to grow where it is
abbrev pub grows_in_nano : List Entry
grows_in_nano = entry_of 1 (Size Nano LAST_PAGE 48 64) ∷ []

-- it moves within its zone
abbrev pub moves_in_second : List Entry
moves_in_second = entry_of 5 (New second 16 16 16) ∷ entry_of 6 (End second 0 16) ∷ []

-- zone 0 is asked, and has no room
abbrev pub asks_other_zone : List Entry
asks_other_zone = entry_of 5 (Full magazine 16 16) ∷ entry_of 6 (Full depot 16 16) ∷ entry_of 7 (Dry 0 64 64) ∷ []

-- a state in which this block is live in this place, whose one run is the first region's
abbrev pub live_in : Place → Block → State
live_in k b = record opening {
  values = (spot_of k, record blank { kept = record nothing_kept { runs = run_at 0 64 ∷ []; live = b ∷ [] } }) ∷ [];
}
