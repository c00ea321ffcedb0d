-- A magazine and its depot: their kinds, their zone and their spots.
use Rattle.std.specs.Prelude.{◌≡◌, ℕ, false, IsTrue}
use Rattle.mz_base.specs.declared.profile.Profile.{Profile}
use Rattle.mz_events.specs.declared.place.Place.{Place}
use Rattle.mz_events.specs.declared.place.Place.TheVariants.{Pages, Large}
use Rattle.mz_events.specs.Places.{is_magazine, is_depot, is_large, is_nano, is_pages, zone_of, depot_of, exists_in, are_pair, same_spot, spot_at, spot_of}

-- a place of regions, whose blocks all stand at the spot of the place, apart from that of the free pages and those of large
pub record IsOfRegions (k : Place) : Type 0 where
  pub not_large : is_large k ≡ false
  pub not_nano : is_nano k ≡ false
  pub not_pages : is_pages k ≡ false
  pub one_spot : (a : ℕ) → spot_at k a ≡ spot_of k
  pub apart_from_pages : same_spot (spot_of k) (spot_of Pages) ≡ false
  pub apart_from_large : (z : ℕ) → same_spot (spot_of k) (spot_of (Large z)) ≡ false

-- a magazine with the depot of its zone, which is another place of the same kind
pub record HasDepot (p : Profile) (m : Place) : Type 0 where
  pub magazine : IsOfRegions m
  pub depot : IsOfRegions (depot_of m)
  pub not_depot : is_depot m ≡ false
  pub is_depot_of : IsTrue (is_depot (depot_of m))
  pub depot_no_magazine : is_magazine (depot_of m) ≡ false
  pub zone : zone_of (depot_of m) ≡ zone_of m
  pub exists : IsTrue (exists_in p m) → IsTrue (exists_in p (depot_of m))
  pub apart : same_spot (spot_of m) (spot_of (depot_of m)) ≡ false
  pub pair_in : IsTrue (are_pair m (depot_of m))
  pub pair_out : IsTrue (are_pair (depot_of m) m)
