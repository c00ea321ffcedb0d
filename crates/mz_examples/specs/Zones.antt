-- Worked histories of two zones that are served side by side.
use Rattle.std.specs.Prelude.{List, [], ◌∷◌, ◌++◌}
use Rattle.mz_base.specs.declared.profile.Profile.{Profile}
use Rattle.mz_events.specs.declared.event.Event.TheVariants.{Take, New, End, Full}
use Rattle.mz_events.specs.declared.entry.Entry.{Entry}
use Rattle.mz_examples.specs.Examples.{profile_of, entry_of, magazine, depot}
use Rattle.mz_examples.specs.Cycles.{MIB}
use Rattle.mz_examples.specs.Rows.{second, second_serves}

-- pages for two tiny regions, and two zones
abbrev pub regions_for_two_zones : Profile
regions_for_two_zones = record (profile_of 128) { zones = 2 }

-- zone 1 serves a block, and zone 0 has no room for another
abbrev pub one_serves : List Entry
one_serves = second_serves ++ entry_of 5 (Full magazine 16 16) ∷ entry_of 6 (Full depot 16 16) ∷ []

-- zone 0 takes a region of its own
abbrev pub both_have : List Entry
both_have = one_serves ++ entry_of 7 (Take magazine 64 64) ∷ []

-- and serves the block from it
abbrev pub both_serve : List Entry
both_serve = both_have ++ entry_of 8 (New magazine MIB 16 16) ∷ []

-- the block of zone 1 ends
abbrev pub other_ends : List Entry
other_ends = both_serve ++ entry_of 9 (End second 0 16) ∷ []
