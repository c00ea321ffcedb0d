-- Where the slot of each spot stands.
use Rattle.std.specs.Prelude.{ℕ, ◌≡◌, ◌+◌, List, [], ◌∷◌, Option, Some, None, if◌then◌else◌}
use Rattle.std.specs.Option.{option_map}
use Rattle.std.specs.Ordering.{nat_cmp, ordering_then}
use Rattle.std.specs.declared.cmp.Ordering.{Ordering}
use Rattle.std.specs.BTreeMap.{BTreeMap, get}
use Rattle.mz_events.specs.declared.place.Place.TheVariants.{Pages, Tiny, TinyDepot, Small, SmallDepot, Large, Nano}
use Rattle.mz_events.specs.Places.{Spot, keeper_at, nano_page, same_spot}
use Rattle.mz_events.specs.State.{Value}

-- numbers that tell spots apart: that of the kind, and two more
abbrev pub numbers_of : Spot → ℕ × (ℕ × ℕ)
numbers_of (keeper_at Pages) = (0, (0, 0))
numbers_of (keeper_at (Tiny z m)) = (1, (z, m))
numbers_of (keeper_at (TinyDepot z)) = (2, (z, 0))
numbers_of (keeper_at (Small z m)) = (3, (z, m))
numbers_of (keeper_at (SmallDepot z)) = (4, (z, 0))
numbers_of (keeper_at (Large z)) = (5, (z, 0))
numbers_of (keeper_at Nano) = (6, (0, 0))
numbers_of (nano_page i) = (7, (i, 0))

-- their order
abbrev pub by_numbers : ℕ × (ℕ × ℕ) → ℕ × (ℕ × ℕ) → Ordering
by_numbers x y = ordering_then (nat_cmp x.0 y.0) (ordering_then (nat_cmp x.1.0 y.1.0) (nat_cmp x.1.1 y.1.1))

-- where the slot of the spot stands in the list
abbrev pub place_in : List (Spot × Value) → Spot → Option ℕ
place_in [] j = None
place_in (pair ∷ pairs) j = if same_spot j pair.0 then Some 0 else option_map (λ i. i + 1) (place_in pairs j)

-- the map has the place of each spot in the list
abbrev pub IsIndex : BTreeMap (ℕ × (ℕ × ℕ)) ℕ → List (Spot × Value) → Type 0
IsIndex places values = (j : Spot) → get by_numbers places (numbers_of j) ≡ place_in values j
