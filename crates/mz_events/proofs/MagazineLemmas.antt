-- Magazines and depots are places of regions, and a magazine has its depot.
use Rattle.std.proofs.Common.{◌≡◌, true, refl, eq-eqb}
use Rattle.std.specs.Prelude.{◌||◌, nat_lt}
use Rattle.std.proofs.lemmas.Bool.{and_parts, false≢true}
use Rattle.mz_base.specs.declared.profile.Profile.{Profile}
use Rattle.mz_events.specs.declared.place.Place.{Place}
use Rattle.mz_events.specs.declared.place.Place.TheVariants.{Tiny, TinyDepot, Small, SmallDepot}
use Rattle.mz_events.specs.Places.{is_magazine, is_depot}
use Rattle.mz_events.specs.Magazines.{IsOfRegions, HasDepot}

pub of_regions : (k : Place) → (is_magazine k || is_depot k) ≡ true → IsOfRegions k
of_regions (Tiny z m) h = record { not_large = refl; not_nano = refl; not_pages = refl; one_spot = λ a. refl; apart_from_pages = refl; apart_from_large = λ y. refl }
of_regions (TinyDepot z) h = record { not_large = refl; not_nano = refl; not_pages = refl; one_spot = λ a. refl; apart_from_pages = refl; apart_from_large = λ y. refl }
of_regions (Small z m) h = record { not_large = refl; not_nano = refl; not_pages = refl; one_spot = λ a. refl; apart_from_pages = refl; apart_from_large = λ y. refl }
of_regions (SmallDepot z) h = record { not_large = refl; not_nano = refl; not_pages = refl; one_spot = λ a. refl; apart_from_pages = refl; apart_from_large = λ y. refl }
of_regions _ h = absurd (false≢true h)

pub has_depot : (p : Profile) (k : Place) → is_magazine k ≡ true → HasDepot p k
has_depot p (Tiny z m) h = record {
  magazine = of_regions (Tiny z m) refl;
  depot = of_regions (TinyDepot z) refl;
  not_depot = refl;
  is_depot_of = refl;
  depot_no_magazine = refl;
  zone = refl;
  exists = λ e. (and_parts (nat_lt z p.zones) (nat_lt m p.magazines) e).0;
  apart = refl;
  pair_in = rw (eq-eqb z z refl) refl;
  pair_out = rw (eq-eqb z z refl) refl;
}
has_depot p (Small z m) h = record {
  magazine = of_regions (Small z m) refl;
  depot = of_regions (SmallDepot z) refl;
  not_depot = refl;
  is_depot_of = refl;
  depot_no_magazine = refl;
  zone = refl;
  exists = λ e. (and_parts (nat_lt z p.zones) (nat_lt m p.magazines) e).0;
  apart = refl;
  pair_in = rw (eq-eqb z z refl) refl;
  pair_out = rw (eq-eqb z z refl) refl;
}
has_depot p _ h = absurd (false≢true h)
