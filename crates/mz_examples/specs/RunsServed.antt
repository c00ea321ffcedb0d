-- Worked histories and requests, on which the definitions of what fits a request and of a block that is dropped are
-- tried.
use Rattle.std.specs.Prelude.{ℕ, List, [], ◌∷◌, ◌++◌}
use Rattle.mz_base.specs.declared.profile.Profile.{Profile}
use Rattle.mz_events.specs.declared.event.Event.{Event}
use Rattle.mz_events.specs.declared.event.Event.TheVariants.{Take, Back, Move, New, End, Full, Dry}
use Rattle.mz_events.specs.declared.entry.Entry.{Entry}
use Rattle.mz_examples.specs.Examples.{profile_of, entry_of, magazine, depot, large}
use Rattle.mz_examples.specs.Cycles.{two_regions, until_thin}
use Rattle.mz_examples.specs.Edges.{entry_of_other, small_magazine, one_cached}
use Rattle.mz_record.specs.Served.{Request}

-- a request for n bytes by caller c, in zone 0, at the alignment 16
abbrev pub request_by : ℕ → ℕ → Request
request_by c n = record { caller = c; zone = 0; bytes = n; align = 16 }

-- the request at another alignment
abbrev pub at_alignment : ℕ → Request → Request
at_alignment al q = record q { align = al }

-- and in another zone
abbrev pub in_zone : ℕ → Request → Request
in_zone z q = record q { zone = z }

-- In 64 pages, 3 of them cached: a region can be taken once the cached run went back.
abbrev pub region_after_flush : List Entry
region_after_flush =
    one_cached ++ entry_of 4 (Full magazine 112 16) ∷ entry_of 5 (Full depot 112 16) ∷ entry_of 6 (Dry 0 64 64) ∷ entry_of 7 (Back large 0 3)
    ∷ entry_of 8 (Take magazine 0 64) ∷ entry_of 9 (New magazine 0 112 16) ∷ []

-- In 8 pages, 3 of them cached: there is no region, and the cached run went back.
abbrev pub no_region : List Entry
no_region =
    one_cached ++ entry_of 4 (Full magazine 112 16) ∷ entry_of 5 (Full depot 112 16) ∷ entry_of 6 (Dry 0 64 64) ∷ entry_of 7 (Back large 0 3) ∷ entry_of 8 (Dry 0 64 64) ∷ []

-- In 8 pages, 3 of them cached: there are no 9 pages, and the cached run went back.
abbrev pub no_nine_pages : List Entry
no_nine_pages = one_cached ++ entry_of 4 (Full large 9 1) ∷ entry_of 5 (Dry 0 9 1) ∷ entry_of 6 (Back large 0 3) ∷ entry_of 7 (Dry 0 9 1) ∷ []

-- a first request of 2^64 - 1 bytes
abbrev pub far_too_many : List Entry
far_too_many = entry_of 0 (Full large 1125899906842624 1) ∷ entry_of 1 (Dry 0 1125899906842624 1) ∷ []

-- a run of 5 pages and one of 3 are cached
abbrev pub two_cached : List Entry
two_cached =
    entry_of 0 (Full large 5 1) ∷ entry_of 1 (Take large 0 5) ∷ entry_of 2 (New large 0 81920 16) ∷ entry_of 3 (Full large 3 1) ∷ entry_of 4 (Take large 5 3)
    ∷ entry_of 5 (New large 81920 49152 16) ∷ entry_of 6 (End large 0 81920) ∷ entry_of 7 (End large 81920 49152) ∷ []

-- a block on the one of 5
abbrev pub on_five : List Entry
on_five = two_cached ++ entry_of 8 (New large 0 81920 16) ∷ []

-- a block on the one of 3
abbrev pub on_three : List Entry
on_three = two_cached ++ entry_of 8 (New large 81920 49152 16) ∷ []

-- In 8 pages, with both cached: the older goes back, then the younger, and there are no 9 pages.
abbrev pub both_go_back : List Entry
both_go_back =
    two_cached ++ entry_of 8 (Full large 9 1) ∷ entry_of 9 (Dry 0 9 1) ∷ entry_of 10 (Back large 0 5) ∷ entry_of 11 (Dry 0 9 1) ∷ entry_of 12 (Back large 5 3)
    ∷ entry_of 13 (Dry 0 9 1) ∷ []

-- three callers, two magazines
abbrev pub two_magazines : Profile
two_magazines = record (profile_of 64) { callers = 3; magazines = 2 }

-- 8 pages, two callers, one magazine, no nano, one zone
abbrev pub two_callers_in_8_pages : Profile
two_callers_in_8_pages = record (profile_of 8) { callers = 2 }

-- a request finds magazine and depot full
abbrev pub both_full : List Entry
both_full = entry_of 0 (Full magazine 112 16) ∷ entry_of 1 (Full depot 112 16) ∷ []

-- and the pages dry
abbrev pub dry_at : ℕ → Entry
dry_at ticket = entry_of ticket (Dry 0 64 64)

-- in between another caller does this
abbrev pub with_other : Event → List Entry
with_other e = both_full ++ entry_of_other 2 e ∷ dry_at 3 ∷ []

-- another caller does this once the pages were found dry
abbrev pub other_behind : Event → List Entry
other_behind e = both_full ++ dry_at 2 ∷ entry_of_other 3 e ∷ []

-- another caller finds the pages dry while a request for 9 pages looks at them a second time
abbrev pub other_at_pages : List Entry
other_at_pages =
    one_cached ++ entry_of 4 (Full large 9 1) ∷ entry_of 5 (Dry 0 9 1) ∷ entry_of 6 (Back large 0 3) ∷ entry_of_other 7 (Dry 0 64 64) ∷ entry_of 8 (Dry 0 9 1) ∷ []

-- the entries of that request
abbrev pub looks_twice : List Entry
looks_twice = entry_of 4 (Full large 9 1) ∷ entry_of 5 (Dry 0 9 1) ∷ entry_of 6 (Back large 0 3) ∷ entry_of 8 (Dry 0 9 1) ∷ []

-- two tiny regions, two callers
abbrev pub two_regions_for_two : Profile
two_regions_for_two = record two_regions { callers = 2 }

-- Between the end of a block and the move that it makes due another caller has an entry elsewhere.
abbrev pub other_before_move : List Entry
other_before_move =
    until_thin ++ entry_of 9 (End magazine 0 16) ∷ entry_of_other 10 (Full small_magazine 1024 16) ∷ entry_of 11 (Move 0 magazine depot) ∷ []

-- the same caller has it
abbrev pub own_before_move : List Entry
own_before_move =
    until_thin ++ entry_of 9 (End magazine 0 16) ∷ entry_of 10 (Full small_magazine 1024 16) ∷ entry_of 11 (Move 0 magazine depot) ∷ []

-- another caller does the move that was due, and then the same caller once more
abbrev pub other_moves_first : List Entry
other_moves_first =
    until_thin ++ entry_of 9 (End magazine 0 16) ∷ entry_of_other 10 (Move 0 magazine depot) ∷ entry_of 11 (Move 0 magazine depot) ∷ []
