-- The runs of a state that lawful entries leave are in places of the profile's zones.
use Rattle.std.proofs.Common.{◌≡◌, ℕ, ◌<◌, Bool, true, false, cond, not, List, [], ◌∷◌, filter, arith, refl, ap, sym, subst, ◌∙◌, inl, inr}
use Rattle.std.specs.Prelude.{◌||◌, nat_lt}
use Rattle.std.proofs.lemmas.Bool.{cases_Bool, and_parts, false≢true}
use Rattle.std.proofs.lemmas.Bool.Decides.{nat_tests}
use Rattle.mz_base.specs.declared.profile.Profile.{Profile}
use Rattle.mz_base.specs.Space.{Run, run_at, same_run}
use Rattle.mz_base.specs.Lists.{has_run}
use Rattle.mz_events.specs.declared.place.Place.{Place}
use Rattle.mz_events.specs.declared.place.Place.TheVariants.{Pages, Tiny, TinyDepot, Small, SmallDepot, Large, Nano}
use Rattle.mz_events.specs.declared.entry.Entry.{Entry}
use Rattle.mz_events.specs.declared.event.Event.{Event}
use Rattle.mz_events.specs.declared.event.Event.TheVariants.{Take, Back, Move, New, End, Size, Full, Dry, No, Open, Shut}
use Rattle.mz_events.specs.Places.{is_magazine, depot_of, exists_in, zone_of, Spot, same_spot, spot_of, place_of}
use Rattle.mz_events.specs.State.{State, opening, look_up, kept_at}
use Rattle.mz_events.specs.Changes.{region_at}
use Rattle.mz_events.specs.Effect.{touches, kept_after, after}
use Rattle.mz_events.specs.Rules.{Fits}
use Rattle.mz_events.specs.History.{AreLawful, after_entry, after_all}
use Rattle.mz_book.specs.HistoryLaws.{HistoryLaws}
use Rattle.mz_book.proofs.ListLemmas.{or_elim, or_right, or_left}

-- each run is in a place of one of the profile's zones
abbrev pub InZones : Profile → State → Type 0
InZones p s = (j : Spot) (r : Run) → has_run (kept_at s j).runs r ≡ true → zone_of (place_of j) < p.zones

filter_case : (test : Run → Bool) (r x : Run) (xs : List Run) (d : Bool) → (has_run (filter test xs) r ≡ true → has_run xs r ≡ true) → has_run (cond d (x ∷ filter test xs) (filter test xs)) r ≡ true → has_run (x ∷ xs) r ≡ true
filter_case test r x xs true go there = or_elim (same_run r x) (has_run (filter test xs) r) (λ y. or_left (same_run r x) (has_run xs r) y) (λ y. or_right (same_run r x) (has_run xs r) (go y)) there
filter_case test r x xs false go there = or_right (same_run r x) (has_run xs r) (go there)

has_filtered_run : (test : Run → Bool) (r : Run) (rs : List Run) → has_run (filter test rs) r ≡ true → has_run rs r ≡ true
has_filtered_run test r [] there = there
has_filtered_run test r (x ∷ xs) there = filter_case test r x xs (test x) (has_filtered_run test r xs) there

zone_of_spot : (k : Place) → zone_of (place_of (spot_of k)) ≡ zone_of k
zone_of_spot Pages = refl
zone_of_spot (Tiny z m) = refl
zone_of_spot (TinyDepot z) = refl
zone_of_spot (Small z m) = refl
zone_of_spot (SmallDepot z) = refl
zone_of_spot (Large z) = refl
zone_of_spot Nano = refl

below : (z n : ℕ) → nat_lt z n ≡ true → z < n
below z n test = grind (arith, nat_tests, test)

-- a magazine that exists is in a zone, and so is its depot
magazine_zone : (p : Profile) (m : Place) → is_magazine m ≡ true → exists_in p m ≡ true → (zone_of m < p.zones) × (zone_of (depot_of m) < p.zones)
magazine_zone p (Tiny z m) is there = let low = below z p.zones ((and_parts (nat_lt z p.zones) (nat_lt m p.magazines) there).0) in (low, low)
magazine_zone p (Small z m) is there = let low = below z p.zones ((and_parts (nat_lt z p.zones) (nat_lt m p.magazines) there).0) in (low, low)
magazine_zone p Pages is there = absurd (false≢true is)
magazine_zone p (TinyDepot z) is there = absurd (false≢true is)
magazine_zone p (SmallDepot z) is there = absurd (false≢true is)
magazine_zone p (Large z) is there = absurd (false≢true is)
magazine_zone p Nano is there = absurd (false≢true is)

module _ (L : HistoryLaws) (p : Profile) (s : State) (c : ℕ) (ok : InZones p s) where
  taken_zone : (k : Place) (f w : ℕ) → Fits p s c (Take k f w) → zone_of k < p.zones
  taken_zone k f w fits = elim ((L.fits p s c).take_kind k f w fits) [
    | inl is ↦ (magazine_zone p k is ((((L.fits p s c).take_region k f w is).0 fits).standing.exists)).0
    | inr is ↦ below (zone_of k) p.zones ((((L.fits p s c).take_run (zone_of k) f w).0 (subst (λ (q : Place). Fits p s c (Take q f w)) is fits)).standing.exists)
  ]

  moved_zone : (f : ℕ) (from to : Place) → Fits p s c (Move f from to) → zone_of to < p.zones
  moved_zone f from to fits = elim ((L.fits p s c).move_kind f from to fits) [
    | inl h ↦
        let may = ((L.fits p s c).put_aside from f h.0).0 (subst (λ (q : Place). Fits p s c (Move f from q)) h.1 fits) in
        subst (λ (q : Place). zone_of q < p.zones) (sym h.1) ((magazine_zone p from h.0 may.standing.exists).1)
    | inr h ↦
        let may = ((L.fits p s c).take_out to f h.0).0 (subst (λ (q : Place). Fits p s c (Move f q to)) h.1 fits) in
        (magazine_zone p to h.0 may.standing.exists).0
  ]

  at_spot : (j : Spot) (k : Place) → same_spot j (spot_of k) ≡ true → zone_of k < p.zones → zone_of (place_of j) < p.zones
  at_spot j k same low = subst (λ z. z < p.zones) (sym (zone_of_spot k) ∙ ap (λ i. zone_of (place_of i)) (sym ((L.spots j (spot_of k)).0 same))) low

  touched_zone : (e : Event) → Fits p s c e → (j : Spot) (r : Run) → touches p e j ≡ true → has_run (kept_after s e j).runs r ≡ true → zone_of (place_of j) < p.zones
  touched_zone (Take k f w) fits j r touch there = elim (cases_Bool (same_spot j (spot_of k))) [
    | inl y ↦ at_spot j k y (taken_zone k f w fits)
    | inr n ↦
        let pages : same_spot j (spot_of Pages) ≡ true = or_elim (same_spot j (spot_of k)) (same_spot j (spot_of Pages) || false) (λ y. absurd (false≢true (sym n ∙ y))) (λ y. or_elim (same_spot j (spot_of Pages)) false (λ z. z) (λ z. absurd (false≢true z)) y) touch in
        ok j r (sym (rw pages refl) ∙ there)
  ]
  touched_zone (Back k f w) fits j r touch there = elim (cases_Bool (same_spot j (spot_of Pages))) [
    | inl y ↦ ok j r (sym (rw y refl) ∙ there)
    | inr n ↦ ok j r (has_filtered_run (λ t. not (same_run (run_at f w) t)) r (kept_at s j).runs (sym (rw n refl) ∙ there))
  ]
  touched_zone (Move f from to) fits j r touch there = elim (cases_Bool (same_spot j (spot_of from))) [
    | inl y ↦ ok j r (has_filtered_run (λ t. not (same_run (region_at (kept_at s (spot_of from)).runs f) t)) r (kept_at s j).runs (sym (rw y refl) ∙ there))
    | inr n ↦ at_spot j to (or_elim (same_spot j (spot_of from)) (same_spot j (spot_of to) || false) (λ y. absurd (false≢true (sym n ∙ y))) (λ y. or_elim (same_spot j (spot_of to)) false (λ z. z) (λ z. absurd (false≢true z)) y) touch) (moved_zone f from to fits)
  ]
  touched_zone (New k a n al) fits j r touch there = ok j r there
  touched_zone (End k a n) fits j r touch there = ok j r there
  touched_zone (Size k a n m) fits j r touch there = ok j r there
  touched_zone (Full k n al) fits j r touch there = ok j r there
  touched_zone (Dry z w al) fits j r touch there = ok j r there
  touched_zone (No k z a n) fits j r touch there = ok j r there
  touched_zone (Open z) fits j r touch there = ok j r there
  touched_zone (Shut z) fits j r touch there = ok j r there

  zones_after : (e : Event) → Fits p s c e → InZones p (after p s c e)
  zones_after e fits j r there = elim (cases_Bool (touches p e j)) [
    | inl y ↦ touched_zone e fits j r y (sym (ap (λ v. has_run v.kept.runs r) (L.touched p s c e j y)) ∙ there)
    | inr n ↦ ok j r (sym (ap (λ v. has_run v.kept.runs r) (L.untouched p s c e j n)) ∙ there)
  ]

zones_through : (L : HistoryLaws) (p : Profile) (s : State) (es : List Entry) → AreLawful p s es → InZones p s → InZones p (after_all p s es)
unfolding AreLawful after_all
zones_through L p s [] lawful ok = ok
zones_through L p s (e ∷ es) lawful ok = zones_through L p (after_entry p s e) es lawful.1 (zones_after L p s e.caller ok e.event lawful.0.fits)

zones_first : (p : Profile) → InZones p opening
unfolding look_up
zones_first p j r there = absurd (false≢true there)

pub in_zones : (L : HistoryLaws) (p : Profile) (es : List Entry) → AreLawful p opening es → InZones p (after_all p opening es)
in_zones L p es lawful = zones_through L p opening es lawful (zones_first p)
