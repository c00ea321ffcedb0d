-- More worked histories, of the last freed block, of large runs, of a block that grows in place, of a second
-- zone, and of nano.
use Rattle.std.specs.Prelude.{ℕ, ◌+◌, ◌*◌, List, [], ◌∷◌, ◌++◌, map}
use Rattle.std.specs.List.{flat_map, range_with_len}
use Rattle.mz_base.specs.declared.profile.Profile.{Profile}
use Rattle.mz_events.specs.declared.place.Place.{Place}
use Rattle.mz_events.specs.declared.place.Place.TheVariants.{Tiny, TinyDepot, Nano}
use Rattle.mz_events.specs.declared.event.Event.TheVariants.{Take, Back, New, End, Size, Full, No, Open, Shut}
use Rattle.mz_events.specs.declared.entry.Entry.{Entry}
use Rattle.mz_examples.specs.Examples.{profile_of, entry_of, first_region, magazine, large}

-- three blocks of 48 bytes, of which the first ends
abbrev pub one_ends : List Entry
one_ends =
    first_region 48 ++ entry_of 3 (New magazine 0 48 16) ∷ entry_of 4 (New magazine 48 48 16) ∷ entry_of 5 (New magazine 96 48 16) ∷ entry_of 6 (End magazine 0 48) ∷ []

-- the second ends too, and a new block of that size is placed there, though the first is idle and lower
abbrev pub not_lower : List Entry
not_lower = one_ends ++ entry_of 7 (End magazine 48 48) ∷ entry_of 8 (New magazine 48 48 16) ∷ []

-- a smaller block is placed on the last freed one, which counts as idle
abbrev pub wide_reading : List Entry
wide_reading = one_ends ++ entry_of 7 (New magazine 0 32 16) ∷ []

-- or behind the live blocks, as if the last freed one were live
abbrev pub narrow_reading : List Entry
narrow_reading = one_ends ++ entry_of 7 (New magazine 144 32 16) ∷ []

-- The last freed block that was overwritten is none, so a block of its size is placed elsewhere.
abbrev pub overwritten : List Entry
overwritten = wide_reading ++ entry_of 8 (New magazine 144 48 16) ∷ []

-- A block of 5 pages ends and serves a request for 3; one of 6 pages ends, and would waste too much.
abbrev pub large_cache : List Entry
large_cache =
    entry_of 0 (Full large 5 1) ∷ entry_of 1 (Take large 0 5) ∷ entry_of 2 (New large 0 81920 16) ∷ entry_of 3 (End large 0 81920) ∷ entry_of 4 (New large 0 81920 16)
    ∷ entry_of 5 (Full large 6 1) ∷ entry_of 6 (Take large 5 6) ∷ entry_of 7 (New large 81920 98304 16) ∷ entry_of 8 (End large 81920 98304)
    ∷ entry_of 9 (Full large 3 1) ∷ entry_of 10 (Take large 11 3) ∷ entry_of 11 (New large 180224 49152 16) ∷ []

-- a fresh run of 3 pages for block number i
abbrev pub large_block : ℕ → List Entry
large_block i = entry_of (3 * i) (Full large 3 1) ∷ entry_of (3 * i + 1) (Take large (3 * i) 3) ∷ entry_of (3 * i + 2) (New large (49152 * i) 49152 16) ∷ []

-- 17 blocks of 3 pages end one after another
abbrev pub until_limit : List Entry
until_limit = flat_map large_block (range_with_len 0 17) ++ map (λ i. entry_of (51 + i) (End large (49152 * i) 49152)) (range_with_len 0 17)

-- and the oldest run goes back
abbrev pub cache_limit : List Entry
cache_limit = until_limit ++ entry_of 68 (Back large 0 3) ∷ []

-- a block grows from 48 bytes to 112, and stays where it is
abbrev pub grown : List Entry
grown = first_region 48 ++ entry_of 3 (New magazine 0 48 16) ∷ entry_of 4 (Size magazine 0 48 112) ∷ []

-- the same beside a block that stands in the way
abbrev pub blocked : List Entry
blocked = first_region 48 ++ entry_of 3 (New magazine 0 48 16) ∷ entry_of 4 (New magazine 48 48 16) ∷ entry_of 5 (Size magazine 0 48 112) ∷ []

-- one caller, one magazine, no nano, two zones
abbrev pub two_zones : Profile
two_zones = record (profile_of 64) { zones = 2 }

-- 1t0
abbrev pub second : Place
second = Tiny 1 0

-- a zone opens, and serves one block
abbrev pub second_serves : List Entry
second_serves =
    entry_of 0 (Open 1) ∷ entry_of 1 (Full second 16 16) ∷ entry_of 2 (Full (TinyDepot 1) 16 16) ∷ entry_of 3 (Take second 0 64) ∷ entry_of 4 (New second 0 16 16) ∷ []

-- the block is looked for in zone 0, and ends; the zone is shut, and gives its region back
abbrev pub zone_life : List Entry
zone_life =
    second_serves ++ entry_of 5 (No second 0 0 16) ∷ entry_of 6 (End second 0 16) ∷ entry_of 7 (Shut 1) ∷ entry_of 8 (Back second 0 64) ∷ []

-- the last two of 64 pages are nano's, the second of them from this address on
abbrev pub two_nano_pages : Profile
two_nano_pages = record (profile_of 64) { nano = 2 }

abbrev pub LAST_PAGE : ℕ
LAST_PAGE = 1032192

-- the first slot of 48 bytes in the last page
abbrev pub first_slot : List Entry
first_slot = entry_of 0 (New Nano LAST_PAGE 48 16) ∷ []

-- the second is served too, and the first ends
abbrev pub slots : List Entry
slots = first_slot ++ entry_of 1 (New Nano (LAST_PAGE + 48) 48 16) ∷ entry_of 2 (End Nano LAST_PAGE 48) ∷ []
