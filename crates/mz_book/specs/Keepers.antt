-- The numbers of keepers: one function of profile and place, with its inverse. This project's own.
use Rattle.std.specs.Prelude.{ℕ, ◌+◌, ◌-◌, ◌*◌, ◌/◌, ◌%◌, ◌==◌, Bool, false, nat_lt, List, if◌then◌else◌}
use Rattle.std.specs.List.{list_any}
use Rattle.mz_base.specs.declared.profile.Profile.{Profile}
use Rattle.mz_events.specs.declared.place.Place.{Place}
use Rattle.mz_events.specs.declared.place.Place.TheVariants.{Pages, Tiny, TinyDepot, Small, SmallDepot, Large, Nano}
use Rattle.mz_events.specs.Places.{Spot, keeper_at, nano_page, spot_of}

-- the keepers of one zone: the magazines and the depot of either range, and large
abbrev pub zone_keepers : Profile → ℕ
zone_keepers p = 2 * p.magazines + 3

-- how many keepers there are: those of each zone, and the one of the free pages
abbrev pub keeper_count : Profile → ℕ
keeper_count p = p.zones * zone_keepers p + 1

-- the number of the keeper that stands for a place; nano has none, and gets no keeper's number
abbrev pub keeper_of : Profile → Place → ℕ
keeper_of p Pages = p.zones * zone_keepers p
keeper_of p (Tiny z m) = z * zone_keepers p + m
keeper_of p (TinyDepot z) = z * zone_keepers p + p.magazines
keeper_of p (Small z m) = z * zone_keepers p + (p.magazines + 1 + m)
keeper_of p (SmallDepot z) = z * zone_keepers p + (2 * p.magazines + 1)
keeper_of p (Large z) = z * zone_keepers p + (2 * p.magazines + 2)
keeper_of p Nano = keeper_count p

-- the place of the zone z whose keeper is the zone's i-th
abbrev pub place_in_zone : Profile → ℕ → ℕ → Place
place_in_zone p z i =
    if nat_lt i p.magazines then Tiny z i
    else (if nat_lt i (p.magazines + 1) then TinyDepot z
    else (if nat_lt i (2 * p.magazines + 1) then Small z (i - (p.magazines + 1))
    else (if nat_lt i (2 * p.magazines + 2) then SmallDepot z else Large z)))

-- the place for which the keeper of this number stands
unfoldable pub place_at : Profile → ℕ → Place
place_at p k = if nat_lt k (p.zones * zone_keepers p) then place_in_zone p (k / zone_keepers p) (k % zone_keepers p) else Pages

-- and its spot
abbrev pub keeper_spot : Profile → ℕ → Spot
keeper_spot p k = spot_of (place_at p k)

-- the number is one of these
abbrev pub is_among : List ℕ → ℕ → Bool
is_among held k = list_any (λ x. x == k) held

-- the spot has a keeper, and that is one of these
abbrev pub is_held : Profile → List ℕ → Spot → Bool
is_held p held (keeper_at q) = is_among held (keeper_of p q)
is_held p held (nano_page i) = false
