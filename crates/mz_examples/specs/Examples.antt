-- Worked histories, on which the definitions are tried.
use Rattle.std.specs.Prelude.{ℕ, List, [], ◌∷◌, ◌++◌, Option, Some}
use Rattle.mz_base.specs.declared.profile.Profile.{Profile}
use Rattle.mz_events.specs.declared.place.Place.{Place}
use Rattle.mz_events.specs.declared.place.Place.TheVariants.{Tiny, TinyDepot, Large}
use Rattle.mz_events.specs.declared.event.Event.{Event}
use Rattle.mz_events.specs.declared.event.Event.TheVariants.{Take, Back, New, End, Full, Dry}
use Rattle.mz_events.specs.declared.entry.Entry.{Entry}
use Rattle.mz_events.specs.Rules.{Rule}
use Rattle.mz_events.specs.History.{Breach}

-- one caller, one magazine, no nano, one zone
abbrev pub profile_of : ℕ → Profile
profile_of pages = record { pages = pages; callers = 1; magazines = 1; nano = 0; most_gen = 1024; zones = 1 }

-- an entry of caller 0
abbrev pub entry_of : ℕ → Event → Entry
entry_of ticket event = record { ticket = ticket; caller = 0; event = event }

-- the answer that this rule is broken first, at this ticket
abbrev pub breach_at : ℕ → Rule → Option Breach
breach_at ticket rule = Some (record { ticket = ticket; rule = rule })

-- 0t0, 0t1, 0td and 0l
abbrev pub magazine : Place
magazine = Tiny 0 0

abbrev pub other_magazine : Place
other_magazine = Tiny 0 1

abbrev pub depot : Place
depot = TinyDepot 0

abbrev pub large : Place
large = Large 0

-- what a first request of n bytes finds, and the region that it takes
abbrev pub first_region : ℕ → List Entry
first_region n = entry_of 0 (Full magazine n 16) ∷ entry_of 1 (Full depot n 16) ∷ entry_of 2 (Take magazine 0 64) ∷ []

-- one block of 112 bytes in 64 pages
abbrev pub thin_path : List Entry
thin_path = first_region 112 ++ entry_of 3 (New magazine 0 112 16) ∷ []

-- the same, but that only half a region is taken
abbrev pub half_a_region : List Entry
half_a_region =
    entry_of 0 (Full magazine 112 16) ∷ entry_of 1 (Full depot 112 16) ∷ entry_of 2 (Take magazine 0 32) ∷ entry_of 3 (New magazine 0 112 16) ∷ []

-- two blocks of 48 bytes, of which the first ends, and a third that is placed on it
abbrev pub last_freed_block : List Entry
last_freed_block =
    first_region 48 ++ entry_of 3 (New magazine 0 48 16) ∷ entry_of 4 (New magazine 48 48 16) ∷ entry_of 5 (End magazine 0 48) ∷ entry_of 6 (New magazine 0 48 16) ∷ []

-- In 8 pages: a block of 5 pages ends, and one of 7 finds no room until the cached run goes back.
abbrev pub until_dry : List Entry
until_dry =
    entry_of 0 (Full large 5 1) ∷ entry_of 1 (Take large 0 5) ∷ entry_of 2 (New large 0 81920 16) ∷ entry_of 3 (End large 0 81920) ∷ entry_of 4 (Full large 7 1)
    ∷ entry_of 5 (Dry 0 7 1) ∷ []

-- the cached run goes back, and the block of 7 pages is served
abbrev pub dry_with_a_cache : List Entry
dry_with_a_cache = until_dry ++ entry_of 6 (Back large 0 5) ∷ entry_of 7 (Take large 0 7) ∷ entry_of 8 (New large 0 114688 16) ∷ []
