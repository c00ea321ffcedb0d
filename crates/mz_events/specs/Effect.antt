-- What each event touches, and what it leaves there. This project's own.
use Rattle.std.specs.Prelude.{ℕ, ◌+◌, ◌==◌, Bool, not, List, [], ◌∷◌, map, filter, max, Some, if◌then◌else◌}
use Rattle.std.specs.List.{list_any}
use Rattle.mz_base.specs.declared.profile.Profile.{Profile}
use Rattle.mz_base.specs.Space.{block_at, run_at}
use Rattle.mz_base.specs.Lists.{blocks_in}
use Rattle.mz_events.specs.declared.place.Place.TheVariants.{Pages, Large}
use Rattle.mz_events.specs.declared.event.Event.{Event}
use Rattle.mz_events.specs.declared.event.Event.TheVariants.{Take, Back, Move, New, End, Size, Full, Dry, No, Open, Shut}
use Rattle.mz_events.specs.Places.{places_of, Spot, same_spot, spot_at, spot_of}
use Rattle.mz_events.specs.State.{Kept, Value, State, write, kept_at, live_size}
use Rattle.mz_events.specs.Changes.{with_block, without_block, resized, with_run, without_run, with_region, pages_without, pages_with, region_at}
use Rattle.mz_events.specs.Duties.{duty_after}

-- the spots that an event touches
abbrev pub touched : Profile → Event → List Spot
touched p (Take k f w) = spot_of k ∷ spot_of Pages ∷ []
touched p (Back k f w) = spot_of k ∷ spot_of Pages ∷ []
touched p (Move f from to) = spot_of from ∷ spot_of to ∷ []
touched p (New k a s al) = spot_at k a ∷ []
touched p (End k a s) = spot_at k a ∷ []
touched p (Size k a s t) = spot_at k a ∷ []
touched p (Full k n al) = spot_of k ∷ []
touched p (Dry z w al) = spot_of Pages ∷ spot_of (Large z) ∷ []
touched p (No k z a s) = spot_at k a ∷ []
touched p (Open z) = map spot_of (places_of p z)
touched p (Shut z) = map spot_of (places_of p z)

-- the event touches this spot
abbrev pub touches : Profile → Event → Spot → Bool
touches p e j = list_any (same_spot j) (touched p e)

-- what a touched spot keeps after an event
abbrev pub kept_after : State → Event → Spot → Kept
kept_after s (Take k f w) j = if same_spot j (spot_of Pages) then pages_without k (run_at f w) (kept_at s j) else with_run (run_at f w) (kept_at s j)
kept_after s (Back k f w) j = if same_spot j (spot_of Pages) then pages_with k (run_at f w) (kept_at s j) else without_run (run_at f w) (kept_at s j)
kept_after s (Move f from to) j =
    let r = region_at (kept_at s (spot_of from)).runs f in
    if same_spot j (spot_of from) then without_run r (kept_at s j) else with_region r (blocks_in (kept_at s (spot_of from)).live r) (kept_at s j)
kept_after s (New k a n al) j = with_block (block_at a n) (kept_at s j)
kept_after s (End k a n) j = without_block k (block_at a n) (kept_at s j)
kept_after s (Size k a n m) j = resized (block_at a n) (block_at a m) (kept_at s j)
kept_after s (Full k n al) j = kept_at s j
kept_after s (Dry z w al) j = kept_at s j
kept_after s (No k z a n) j = kept_at s j
kept_after s (Open z) j = kept_at s j
kept_after s (Shut z) j = kept_at s j

-- the value of a touched spot after an event by a caller
abbrev pub value_after : State → ℕ → Event → Spot → Value
value_after s c e j = record {
  kept = kept_after s e j;
  duty = duty_after s e j (kept_after s e j);
  last = Some (record { caller = c; event = e });
}

-- the values with new ones at these spots
unfoldable pub write_all : (Spot → Value) → List Spot → List (Spot × Value) → List (Spot × Value)
write_all v [] values = values
write_all v (j ∷ js) values = write_all v js (write values j (v j))

-- an event opens or shuts its zone
abbrev pub zones_after : List ℕ → Event → List ℕ
zones_after zones (Open z) = z ∷ zones
zones_after zones (Shut z) = filter (λ y. not (y == z)) zones
zones_after zones _ = zones

-- the values after an event by a caller: new ones at the spots that it touches, and the old ones elsewhere
abbrev pub values_after : Profile → State → ℕ → Event → List (Spot × Value)
values_after p s c e = write_all (value_after s c e) (touched p e) s.values

-- the state that an event by a caller leaves
unfoldable pub after : Profile → State → ℕ → Event → State
after p s c e = record {
  values = values_after p s c e;
  open_zones = zones_after s.open_zones e;
  entries = s.entries + 1;
  greatest = max s.greatest (live_size (values_after p s c e));
}
