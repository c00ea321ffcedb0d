-- Worked histories at the edges of the rules: what stands here is just within a rule, or just outside it.
use Rattle.std.specs.Prelude.{ℕ, ◌+◌, List, [], ◌∷◌, ◌++◌, map}
use Rattle.mz_base.specs.declared.profile.Profile.{Profile}
use Rattle.mz_events.specs.declared.place.Place.{Place}
use Rattle.mz_events.specs.declared.place.Place.TheVariants.{Small, SmallDepot, Large}
use Rattle.mz_events.specs.declared.event.Event.{Event}
use Rattle.mz_events.specs.declared.event.Event.TheVariants.{Take, Back, Move, New, End, Full, No, Open, Shut}
use Rattle.mz_events.specs.declared.entry.Entry.{Entry}
use Rattle.mz_examples.specs.Examples.{profile_of, entry_of, magazine, depot, large, thin_path, until_dry}
use Rattle.mz_examples.specs.Cycles.{MIB}
use Rattle.mz_examples.specs.Rows.{second, second_serves}

-- an entry of the second caller
abbrev pub entry_of_other : ℕ → Event → Entry
entry_of_other ticket event = record { ticket = ticket; caller = 1; event = event }

-- two callers, one magazine, no nano, one zone
abbrev pub two_callers : Profile
two_callers = record (profile_of 64) { callers = 2 }

-- 8 pages, one caller, one magazine, no nano, two zones
abbrev pub two_zones_in_8_pages : Profile
two_zones_in_8_pages = record (profile_of 8) { zones = 2 }

-- 0s0, a magazine of small regions
abbrev pub small_magazine : Place
small_magazine = Small 0 0

-- 0sd, its depot
abbrev pub small_depot : Place
small_depot = SmallDepot 0

-- one caller found the magazine and its depot full, and another one takes a region
abbrev pub claim_of_other : List Entry
claim_of_other = entry_of 0 (Full magazine 112 16) ∷ entry_of 1 (Full depot 112 16) ∷ entry_of_other 2 (Take magazine 0 64) ∷ []

-- the magazine was found full for 112 bytes, and its depot for 96
abbrev pub two_sizes : List Entry
two_sizes = entry_of 0 (Full magazine 112 16) ∷ entry_of 1 (Full depot 96 16) ∷ entry_of 2 (Take magazine 0 64) ∷ []

-- the entry of ticket 3 stands twice
abbrev pub ticket_twice : List Entry
ticket_twice = thin_path ++ entry_of 3 (New magazine 0 112 16) ∷ []

-- the profile has one caller, and this is another
abbrev pub unknown_caller : List Entry
unknown_caller = entry_of_other 0 (Full magazine 112 16) ∷ []

-- a tiny magazine's region is to go to the depot of small
abbrev pub to_other_range : List Entry
to_other_range = thin_path ++ entry_of 4 (Move 0 magazine small_depot) ∷ []

-- a block of 3 pages ends, and its run is cached
abbrev pub one_cached : List Entry
one_cached = entry_of 0 (Full large 3 1) ∷ entry_of 1 (Take large 0 3) ∷ entry_of 2 (New large 0 49152 16) ∷ entry_of 3 (End large 0 49152) ∷ []

-- 3 pages are taken though the cached run fits
abbrev pub cached_run_fits : List Entry
cached_run_fits = one_cached ++ entry_of 4 (Take large 3 3) ∷ []

-- the cached run goes back though no duty asks for it
abbrev pub nothing_asks : List Entry
nothing_asks = one_cached ++ entry_of 4 (Back large 0 3) ∷ []

-- a block of 3 pages in a run of 5
abbrev pub part_of_a_run : List Entry
part_of_a_run = entry_of 0 (Full large 5 1) ∷ entry_of 1 (Take large 0 5) ∷ entry_of 2 (New large 0 49152 16) ∷ []

-- The one block ends, and its magazine is said to be full for a request that only its place can serve: 16 bytes at a
-- multiple of the region's length.
abbrev pub full_but_for_last_freed : List Entry
full_but_for_last_freed = thin_path ++ entry_of 4 (End magazine 0 112) ∷ entry_of 5 (Full magazine 16 MIB) ∷ []

-- a block of zone 1 is said not to be of zone 1
abbrev pub of_its_own_zone : List Entry
of_its_own_zone = second_serves ++ entry_of 5 (No second 1 0 16) ∷ []

-- a zone with a live block is to be shut
abbrev pub shut_too_early : List Entry
shut_too_early = second_serves ++ entry_of 5 (Shut 1) ∷ []

-- a zone that was shut opens again before it gave its region back
abbrev pub opened_too_early : List Entry
opened_too_early = second_serves ++ entry_of 5 (End second 0 16) ∷ entry_of 6 (Shut 1) ∷ entry_of 7 (Open 1) ∷ []

-- Two regions with one block each. The first block ends, and its region goes to the depot without a live block.
abbrev pub bare_region : List Entry
bare_region =
    entry_of 0 (Full magazine 16 MIB) ∷ entry_of 1 (Full depot 16 MIB) ∷ entry_of 2 (Take magazine 0 64) ∷ entry_of 3 (New magazine 0 16 MIB)
    ∷ entry_of 4 (Full magazine 16 MIB) ∷ entry_of 5 (Full depot 16 MIB) ∷ entry_of 6 (Take magazine 64 64) ∷ entry_of 7 (New magazine MIB 16 MIB)
    ∷ entry_of 8 (End magazine 0 16) ∷ entry_of 9 (Move 0 magazine depot) ∷ []

-- and on to the free pages
abbrev pub bare_region_back : List Entry
bare_region_back = bare_region ++ entry_of 10 (Back depot 0 64) ∷ []

-- the same entries, with tickets that are greater by n
abbrev pub later : ℕ → List Entry → List Entry
later n entries = map (λ (e : Entry). record e { ticket = e.ticket + n }) entries

-- zone 0 finds the pages dry and has a cached run, and another zone takes from them before that run goes back
abbrev pub taken_in_between : List Entry
taken_in_between = entry_of 0 (Open 1) ∷ later 1 until_dry ++ entry_of 7 (Take (Large 1) 5 3) ∷ []

-- what a first request of 1,024 bytes finds, and the small region that it takes
abbrev pub first_small_region : List Entry
first_small_region = entry_of 0 (Full small_magazine 1024 16) ∷ entry_of 1 (Full small_depot 1024 16) ∷ entry_of 2 (Take small_magazine 0 512) ∷ []

-- a small block
abbrev pub small_block : List Entry
small_block = first_small_region ++ entry_of 3 (New small_magazine 0 1024 16) ∷ []

-- a small block that doesn't begin at a quantum of its region
abbrev pub not_at_a_quantum : List Entry
not_at_a_quantum = first_small_region ++ entry_of 3 (New small_magazine 16 1024 16) ∷ []
