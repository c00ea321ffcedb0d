-- A spot with its value, as code has them.
use Rattle.std.specs.Prelude.{Bool, true, false, not, Option}
use Rattle.std.specs.Option.{option_map}
use Rattle.mz_spots.specs.declared.key.Key.{Key}
use Rattle.mz_spots.specs.declared.key.Key.TheVariants.{Keeper, Page}
use Rattle.mz_spots.specs.declared.slot.Keeping.{Keeping}
use Rattle.mz_spots.specs.declared.slot.Keeping.TheVariants as keeping
use Rattle.mz_spots.specs.declared.slot.Done.{Done}
use Rattle.mz_events.specs.declared.event.Event.{Event}
use Rattle.mz_events.specs.Places.{Spot, is_pages}
use Rattle.mz_events.specs.State.{Kept, Deed, Value}
use Rattle.mz_spots.specs.Keys.{spot_of_key}

-- what is kept
abbrev pub kept_of_keeping : Keeping → Kept
kept_of_keeping (keeping.Free k) = k
kept_of_keeping (keeping.Held k) = k
kept_of_keeping (keeping.Nano k) = k

-- the spot is of this kind
abbrev pub is_kept_so : Key → Keeping → Bool
is_kept_so (Keeper k) (keeping.Free _) = is_pages k
is_kept_so (Keeper k) (keeping.Held _) = not (is_pages k)
is_kept_so (Keeper k) (keeping.Nano _) = false
is_kept_so (Page i) (keeping.Free _) = false
is_kept_so (Page i) (keeping.Held _) = false
is_kept_so (Page i) (keeping.Nano _) = true

abbrev pub deed_of : Done → Deed
deed_of d = record { caller = d.caller; event = d.event }

-- the spot and its value
abbrev pub slotted : Key → Keeping → Option Event → Option Done → Spot × Value
slotted key keeping duty last = (spot_of_key key, record { kept = kept_of_keeping keeping; duty = duty; last = option_map deed_of last })
