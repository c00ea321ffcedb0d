-- What a history leaves: one value for each spot, and beside these the open zones, the number of
-- entries and the greatest sum of live sizes so far. This project's own.
use Rattle.std.specs.Prelude.{ℕ, ◌*◌, ◌==◌, Bool, nat_lt, List, [], ◌∷◌, ◌++◌, map, sum_by, Option, None, if◌then◌else◌}
use Rattle.std.specs.List.{list_any, flat_map, range_with_len}
use Rattle.mz_base.specs.declared.range.TheConstants.{PAGE}
use Rattle.mz_base.specs.declared.profile.Profile.{Profile}
use Rattle.mz_base.specs.Space.{Block, Run, run_at}
use Rattle.mz_events.specs.declared.place.Place.{Place}
use Rattle.mz_events.specs.declared.place.Place.TheVariants.{Pages, Tiny, TinyDepot, Small, SmallDepot, Large, Nano}
use Rattle.mz_events.specs.declared.event.Event.{Event}
use Rattle.mz_events.specs.Places.{Spot, same_spot, spot_of, spot_at, nano_page, nano_start}

-- What a keeper can stand for. The free pages have only the last three fields, and nano's pages only
-- live blocks; lists of runs and blocks are ascending, but that cached runs stand in order of freeing.
pub record Kept : Type 0 where
  pub runs : List Run
  pub live : List Block
  pub last_freed : Option Block
  pub cached : List Run
  -- the runs that are in other places; all other pages below nano's are free
  pub taken : List Run
  -- of these, the regions of each range
  pub tiny_regions : ℕ
  pub small_regions : ℕ

-- An entry without its ticket: who did what.
pub record Deed : Type 0 where
  pub caller : ℕ
  pub event : Event

-- A value has what a keeper can stand for, and what the history alone knows: the duty that stands
-- there, and the last entry that touched it.
pub record Value : Type 0 where
  pub kept : Kept
  pub duty : Option Event
  pub last : Option Deed

-- A state. A spot that isn't in the list has the blank value.
pub record State : Type 0 where
  pub values : List (Spot × Value)
  pub open_zones : List ℕ
  pub entries : ℕ
  pub greatest : ℕ

-- no run, no block, nothing cached, nothing taken
abbrev pub nothing_kept : Kept
nothing_kept = record { runs = []; live = []; last_freed = None; cached = []; taken = []; tiny_regions = 0; small_regions = 0 }

-- the value of a spot that no entry touched
abbrev pub blank : Value
blank = record { kept = nothing_kept; duty = None; last = None }

-- all pages below nano's are free, zone 0 is open, and there is nothing else
abbrev pub opening : State
opening = record { values = []; open_zones = 0 ∷ []; entries = 0; greatest = 0 }

-- the value at a spot, blank where there is none
unfoldable pub look_up : List (Spot × Value) → Spot → Value
look_up [] k = blank
look_up (pair ∷ pairs) k = if same_spot k pair.0 then pair.1 else look_up pairs k

-- the values with this one at a spot
unfoldable pub write : List (Spot × Value) → Spot → Value → List (Spot × Value)
write [] k v = (k, v) ∷ []
write (pair ∷ pairs) k v = if same_spot k pair.0 then (pair.0, v) ∷ pairs else pair ∷ write pairs k v

-- the value at a spot, and what it keeps
abbrev pub value_at : State → Spot → Value
value_at s k = look_up s.values k

abbrev pub kept_at : State → Spot → Kept
kept_at s k = (value_at s k).kept

-- the zone is open
abbrev pub is_open : State → ℕ → Bool
is_open s z = list_any (λ y. y == z) s.open_zones

-- all live blocks, each with its spot
abbrev pub live_blocks : State → List (Spot × Block)
live_blocks s = flat_map (λ pair. map (λ b. (pair.0, b)) pair.1.kept.live) s.values

-- all runs of magazines, depots and large, each with its spot
abbrev pub placed_runs : State → List (Spot × Run)
placed_runs s = flat_map (λ pair. map (λ r. (pair.0, r)) pair.1.kept.runs) s.values

-- nano's pages are one run, for good, where there are any; it stands at the spot of its first page
abbrev pub nano_runs : Profile → List (Spot × Run)
nano_runs p = if nat_lt 0 p.nano then (spot_at Nano (nano_start p * PAGE), run_at (nano_start p) p.nano) ∷ [] else []

-- the runs of all places, nano's among them
abbrev pub all_runs : Profile → State → List (Spot × Run)
all_runs p s = placed_runs s ++ nano_runs p

-- the sum of all live sizes
abbrev pub live_size : List (Spot × Value) → ℕ
live_size pairs = sum_by (λ pair. sum_by (λ b. b.size) pair.1.kept.live) pairs

-- What a place keeps: what its spot keeps, and for nano its one run with the live blocks of all its pages.
abbrev pub kept_of : Profile → State → Place → Kept
kept_of p s Pages = kept_at s (spot_of Pages)
kept_of p s (Tiny z m) = kept_at s (spot_of (Tiny z m))
kept_of p s (TinyDepot z) = kept_at s (spot_of (TinyDepot z))
kept_of p s (Small z m) = kept_at s (spot_of (Small z m))
kept_of p s (SmallDepot z) = kept_at s (spot_of (SmallDepot z))
kept_of p s (Large z) = kept_at s (spot_of (Large z))
kept_of p s Nano = record nothing_kept {
  runs = map (λ pair. pair.1) (nano_runs p);
  live = flat_map (λ i. (kept_at s (nano_page i)).live) (range_with_len (nano_start p) p.nano);
}
