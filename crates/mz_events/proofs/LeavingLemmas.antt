-- What each event leaves, by the named changes; and the laws of events as records.
use Rattle.std.proofs.Common.{◌≡◌, ℕ, true, false, Option, Some, None, refl, ap, sym, ◌∙◌, ◌⊎◌, inl, inr, eq-eqb}
use Rattle.std.specs.Prelude.{◌&&◌, ◌||◌, IsTrue}
use Rattle.std.proofs.lemmas.Bool.{and_parts, or_cases, false≢true}
use Rattle.mz_base.specs.declared.profile.Profile.{Profile}
use Rattle.mz_base.specs.Space.{block_at, run_at}
use Rattle.mz_base.specs.Lists.{drop_block, blocks_in}
use Rattle.mz_events.specs.declared.place.Place.{Place}
use Rattle.mz_events.specs.declared.place.Place.TheVariants.{Pages, Tiny, TinyDepot, Small, SmallDepot, Large}
use Rattle.mz_events.specs.declared.event.Event.{Event}
use Rattle.mz_events.specs.declared.event.Event.TheVariants.{Take, Back, Move, End, Full}
use Rattle.mz_events.specs.Places.{is_magazine, is_depot, is_large, is_pages, zone_of, depot_of, same_place, are_pair, same_spot, spot_at, spot_of}
use Rattle.mz_events.specs.State.{Kept, Value, State, value_at, kept_at}
use Rattle.mz_events.specs.Changes.{with_run, without_run, with_region, region_at}
use Rattle.mz_events.specs.Duties.{recirculation, empty_depot_region}
use Rattle.mz_events.specs.Rules.{existing, keeps, Fits, stands, claim_of}
use Rattle.mz_events.specs.Fitting.{FoundFull, FitsByEvent}
use Rattle.mz_events.specs.Leaving.{left_by, Leaves, LeavesByEvent}
use Rattle.mz_events.proofs.SpotLemmas.{same_spot-refl, same_place-true}
use Rattle.mz_events.proofs.FittingLemmas.{take_region_gives, take_region_fits, take_run_gives, take_run_fits, back_gives, back_fits, put_aside_gives, put_aside_fits, take_out_gives, take_out_fits, new_gives, new_fits, end_gives, end_fits, size_gives, size_fits, full_gives, full_fits, dry_gives, dry_fits, no_gives, no_fits, open_gives, open_fits, shut_gives, shut_fits}

not_pages : (k : Place) → is_pages k ≡ false → same_spot (spot_of k) (spot_of Pages) ≡ false
not_pages Pages h = absurd (false≢true (sym h))
not_pages _ h = refl

magazine_and_depot : (k : Place) → is_magazine k ≡ true → (same_spot (spot_of k) (spot_of (depot_of k)) ≡ false) × (same_spot (spot_of (depot_of k)) (spot_of k) ≡ false) × (is_depot k ≡ false) × (is_depot (depot_of k) ≡ true)
magazine_and_depot (Tiny z m) h = (refl, refl, refl, refl)
magazine_and_depot (Small z m) h = (refl, refl, refl, refl)
magazine_and_depot _ h = absurd (false≢true h)

module _ (s : State) (c : ℕ) where
  pub take_leaves : (k : Place) (f w : ℕ) → is_pages k ≡ false → Leaves s c (Take k f w) (spot_of k) (with_run (run_at f w) (kept_at s (spot_of k))) None
  take_leaves k f w h = rw (not_pages k h) refl

  pub back_leaves : (k : Place) (f w : ℕ) → is_pages k ≡ false → Leaves s c (Back k f w) (spot_of k) (without_run (run_at f w) (kept_at s (spot_of k))) None
  back_leaves k f w h = rw (not_pages k h) refl

  pub aside_leaves : (k : Place) (f : ℕ) → is_magazine k ≡ true → let kept = kept_at s (spot_of k) in
      Leaves s c (Move f k (depot_of k)) (spot_of k) (without_run (region_at kept.runs f) kept) None
  aside_leaves k f h = let at = magazine_and_depot k h in rw (same_spot-refl (spot_of k), at.0, at.2, at.3) refl

  pub aside_brings : (k : Place) (f : ℕ) → is_magazine k ≡ true → let kept = kept_at s (spot_of k) in
      let region = region_at kept.runs f in
      let now = with_region region (blocks_in kept.live region) (kept_at s (spot_of (depot_of k))) in
      Leaves s c (Move f k (depot_of k)) (spot_of (depot_of k)) now (empty_depot_region (depot_of k) now)
  aside_brings k f h = let at = magazine_and_depot k h in rw (at.1, same_spot-refl (spot_of (depot_of k)), at.3) refl

  pub out_brings : (k : Place) (f : ℕ) → is_magazine k ≡ true → let kept = kept_at s (spot_of (depot_of k)) in
      let region = region_at kept.runs f in
      Leaves s c (Move f (depot_of k) k) (spot_of k) (with_region region (blocks_in kept.live region) (kept_at s (spot_of k))) None
  out_brings k f h = let at = magazine_and_depot k h in rw (at.0, at.2, at.3) refl

  pub out_leaves : (k : Place) (f : ℕ) → is_magazine k ≡ true → let kept = kept_at s (spot_of (depot_of k)) in
      let now = without_run (region_at kept.runs f) kept in
      Leaves s c (Move f (depot_of k) k) (spot_of (depot_of k)) now (empty_depot_region (depot_of k) now)
  out_leaves k f h = let at = magazine_and_depot k h in rw (same_spot-refl (spot_of (depot_of k)), at.2, at.3) refl

  pub end_in_magazine : (k : Place) (a n : ℕ) → is_magazine k ≡ true → let kept = kept_at s (spot_of k) in
      let now = record kept { live = drop_block (block_at a n) kept.live; last_freed = Some (block_at a n) } in
      Leaves s c (End k a n) (spot_at k a) now (recirculation k now)
  end_in_magazine (Tiny z m) a n h = refl
  end_in_magazine (Small z m) a n h = refl
  end_in_magazine _ a n h = absurd (false≢true h)

  pub end_in_depot : (k : Place) (a n : ℕ) → is_depot k ≡ true → let kept = kept_at s (spot_of k) in
      let now = record kept { live = drop_block (block_at a n) kept.live; last_freed = None } in
      Leaves s c (End k a n) (spot_at k a) now (empty_depot_region k now)
  end_in_depot (TinyDepot z) a n h = refl
  end_in_depot (SmallDepot z) a n h = refl
  end_in_depot _ a n h = absurd (false≢true h)

-- who left a full at a place has found it full
pub found_full : (s : State) (c : ℕ) (k : Place) (n al : ℕ) (kept : Kept) (duty : Option Event) → value_at s (spot_of k) ≡ left_by c (Full k n al) kept duty → FoundFull s c k (n, al)
found_full s c k n al kept duty left =
    let claim : claim_of c (left_by c (Full k n al) kept duty).last ≡ Some (n, al) = rw (eq-eqb c c refl) refl in
    ap (λ (v : Value). claim_of c v.last) left ∙ claim

module _ (p : Profile) (s : State) (c : ℕ) where
  take_kinds : (k : Place) → (is_magazine k || is_large k) ≡ true → IsTrue (is_magazine k) ⊎ (k ≡ Large (zone_of k))
  take_kinds (Tiny z m) h = inl refl
  take_kinds (Small z m) h = inl refl
  take_kinds (Large z) h = inr refl
  take_kinds _ h = absurd (false≢true h)

  take_kind : (k : Place) (f w : ℕ) → Fits p s c (Take k f w) → IsTrue (is_magazine k) ⊎ (k ≡ Large (zone_of k))
  unfolding keeps
  take_kind k f w fits = take_kinds k (and_parts (is_magazine k || is_large k) (stands p s k) (and_parts _ _ (fits existing)).1).0

  move_kind : (f : ℕ) (from to : Place) → Fits p s c (Move f from to) → (IsTrue (is_magazine from) × (to ≡ depot_of from)) ⊎ (IsTrue (is_magazine to) × (from ≡ depot_of to))
  unfolding keeps
  move_kind f from to fits =
      let pair : are_pair from to ≡ true = (and_parts (are_pair from to) (stands p s from) (and_parts (are_pair from to && stands p s from) (stands p s to) (and_parts _ _ (fits existing)).1).0).0 in
      elim (or_cases (is_magazine from && same_place (depot_of from) to) (is_magazine to && same_place (depot_of to) from) pair) [
        | inl y ↦ let parts = and_parts (is_magazine from) (same_place (depot_of from) to) y in inl (parts.0, sym (same_place-true (depot_of from) to parts.1))
        | inr y ↦ let parts = and_parts (is_magazine to) (same_place (depot_of to) from) y in inr (parts.0, sym (same_place-true (depot_of to) from parts.1))
      ]

  pub fits_by_event : FitsByEvent p s c
  fits_by_event = record {
    take_kind = take_kind;
    take_region = λ m f w h. (take_region_gives p s c m f w h, take_region_fits p s c m f w h);
    take_run = λ z f w. (take_run_gives p s c z f w, take_run_fits p s c z f w);
    give_back = λ k f w. (back_gives p s c k f w, back_fits p s c k f w);
    move_kind = move_kind;
    put_aside = λ m f h. (put_aside_gives p s c m f h, put_aside_fits p s c m f h);
    take_out = λ m f h. (take_out_gives p s c m f h, take_out_fits p s c m f h);
    make = λ k a n al. (new_gives p s c k a n al, new_fits p s c k a n al);
    ends = λ k a n. (end_gives p s c k a n, end_fits p s c k a n);
    resize = λ k a n m. (size_gives p s c k a n m, size_fits p s c k a n m);
    full = λ k n al. (full_gives p s c k n al, full_fits p s c k n al);
    dry = λ z w al. (dry_gives p s c z w al, dry_fits p s c z w al);
    deny = λ k z a n. (no_gives p s c k z a n, no_fits p s c k z a n);
    opens = λ z. (open_gives p s c z, open_fits p s c z);
    shuts = λ z. (shut_gives p s c z, shut_fits p s c z);
  }

pub leaves_by_event : (s : State) (c : ℕ) → LeavesByEvent s c
leaves_by_event s c = record {
  take = take_leaves s c;
  take_pages = λ k f w. refl;
  give_back = back_leaves s c;
  give_back_pages = λ k f w. refl;
  put_aside = aside_leaves s c;
  put_aside_depot = aside_brings s c;
  take_out = out_brings s c;
  take_out_depot = out_leaves s c;
  make = λ k a n al. refl;
  ends = λ k a n. refl;
  ends_in_magazine = end_in_magazine s c;
  ends_in_depot = end_in_depot s c;
  ends_in_large = λ z a n. refl;
  ends_in_nano = λ a n. refl;
  resize = λ k a n m. refl;
  full = λ k n al. refl;
  dry = λ z w al j. refl;
  deny = λ k z a n. refl;
  opens = λ z j. refl;
  shuts = λ z j. refl;
}
