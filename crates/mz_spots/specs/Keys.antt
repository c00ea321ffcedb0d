-- The spots of a state, as code names them.
use Rattle.std.specs.Prelude.{List, map}
use Rattle.mz_spots.specs.declared.key.Key.{Key}
use Rattle.mz_spots.specs.declared.key.Key.TheVariants.{Keeper, Page}
use Rattle.mz_events.specs.Places.{Spot, keeper_at, nano_page}

-- the spot of a keeper, or of a page of nano
abbrev pub spot_of_key : Key → Spot
spot_of_key (Keeper k) = keeper_at k
spot_of_key (Page i) = nano_page i

abbrev pub spots_of : List Key → List Spot
spots_of keys = map spot_of_key keys
