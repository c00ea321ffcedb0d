-- The places that serve a caller in one range, and the numbers of their keepers.
use Rattle.std.specs.Prelude.{◌≡◌, ℕ, ◌<◌, Some, IsTrue}
use Rattle.mz_base.specs.declared.profile.Profile.{Profile}
use Rattle.mz_events.specs.declared.place.Place.TheVariants.{Pages, Large}
use Rattle.mz_base.specs.Sizes.{good_size_of}
use Rattle.mz_events.specs.Places.{is_magazine, exists_in, zone_of, depot_of, is_size_of, is_length_of}
use Rattle.mz_record.specs.Served.{Request, regional_for}
use Rattle.mz_book.specs.Keepers.{keeper_count, keeper_of}
use Rattle.mz_rack.specs.declared.way.Way.{Way}

-- a magazine, its depot, large of its zone and the free pages, with the pages of a region and their keepers' numbers
pub record IsWay (p : Profile) (w : Way) : Type 0 where
  pub magazine : IsTrue (is_magazine w.magazine)
  pub exists : IsTrue (exists_in p w.magazine)
  pub zone : zone_of w.magazine ≡ w.zone
  pub depot : w.depot ≡ depot_of w.magazine
  pub k : w.k ≡ keeper_of p w.magazine
  pub d : w.d ≡ keeper_of p (depot_of w.magazine)
  pub l : w.l ≡ keeper_of p (Large w.zone)
  pub pages_is : w.p ≡ keeper_of p Pages
  pub region : IsTrue (is_length_of w.magazine w.pages)
  pub k_below : w.k < w.d
  pub d_below : w.d < w.l
  pub l_below : w.l < w.p
  pub p_below : w.p < keeper_count p

-- caller c's request in zone z
abbrev pub request_of : ℕ → ℕ → ℕ → ℕ → Request
request_of c z n al = record { caller = c; zone = z; bytes = n; align = al }

-- the way is that of caller c's requests for n bytes in zone z
pub record IsWayFor (p : Profile) (c z n : ℕ) (w : Way) : Type 0 where
  pub way : IsWay p w
  pub in_zone : w.zone ≡ z
  pub size : IsTrue (is_size_of w.magazine (good_size_of n))
  pub serves : (al : ℕ) → regional_for p (request_of c z n al) ≡ Some (record { magazine = w.magazine; pages = w.pages })
