-- Worked histories of regions that go to a depot. One block fills a region for the requests of these
-- histories, since they ask for a multiple of the region's length.
use Rattle.std.specs.Prelude.{ℕ, ◌+◌, List, [], ◌∷◌, ◌++◌}
use Rattle.mz_base.specs.declared.profile.Profile.{Profile}
use Rattle.mz_events.specs.declared.event.Event.TheVariants.{Take, Back, Move, New, End, Full}
use Rattle.mz_events.specs.declared.entry.Entry.{Entry}
use Rattle.mz_examples.specs.Examples.{profile_of, entry_of, magazine, depot}

-- the bytes of a tiny region
abbrev pub MIB : ℕ
MIB = 1048576

-- pages for two tiny regions
abbrev pub two_regions : Profile
two_regions = profile_of 128

-- two regions, the first with two blocks of 16 bytes, the second with one
abbrev pub until_thin : List Entry
until_thin =
    entry_of 0 (Full magazine 16 MIB) ∷ entry_of 1 (Full depot 16 MIB) ∷ entry_of 2 (Take magazine 0 64) ∷ entry_of 3 (New magazine 0 16 MIB) ∷ entry_of 4 (New magazine 16 16 16)
    ∷ entry_of 5 (Full magazine 16 MIB) ∷ entry_of 6 (Full depot 16 MIB) ∷ entry_of 7 (Take magazine 64 64) ∷ entry_of 8 (New magazine MIB 16 MIB) ∷ []

-- a block ends, and its region goes to the depot, with the block that is left there
abbrev pub put_aside : List Entry
put_aside = until_thin ++ entry_of 9 (End magazine 0 16) ∷ entry_of 10 (Move 0 magazine depot) ∷ []

-- The block that ended went with its region, so a block of its size is placed in the other one.
abbrev pub served_elsewhere : List Entry
served_elsewhere = put_aside ++ entry_of 11 (New magazine (MIB + 16) 16 16) ∷ []

-- the region comes back for a request for which the magazine has no room
abbrev pub taken_again : List Entry
taken_again = put_aside ++ entry_of 11 (Full magazine 16 MIB) ∷ entry_of 12 (Move 0 depot magazine) ∷ entry_of 13 (New magazine 0 16 MIB) ∷ []

-- the last block of the region ends in the depot, and its pages are free again
abbrev pub given_back : List Entry
given_back = put_aside ++ entry_of 11 (End depot 16 16) ∷ entry_of 12 (Back depot 0 64) ∷ []
