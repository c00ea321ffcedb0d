use Rattle.std.proofs.Common.{◌≡◌, ◌++◌, map}
use Rattle.std.specs.List.{range_with_len}
use Rattle.mz_events.specs.declared.place.Place.TheVariants.{Small}
use Rattle.mz_events.specs.Places.{keeper_at}
use Rattle.mz_spots.specs.Keys.{spots_of}
use Rattle.mz_spots.proofs.key.push_small.Given as goal

abbrev pub invariant-loop-mag : goal.invariant-loop-mag
invariant-loop-mag l = spots_of l.keys.items ≡ spots_of l.initial.keys.items ++ map (λ m. keeper_at (Small l.zone m)) (range_with_len 0 l.mag)
