-- What the rules say of an event that fits, of runs and blocks as elements of lists.
use Rattle.std.proofs.Common.{◌≡◌, ℕ, ◌+◌, ◌*◌, ◌<◌, ◌≤◌, ◌⊎◌, Bool, true, false, cond, List, [], ◌∷◌, ◌++◌, ◌-◌, refl, ap, sym, subst, ◌∙◌, inl, inr, arith, Option, Some, None}
use Rattle.std.specs.Prelude.{nat_le, nat_lt, ◌||◌, ◌&&◌, ◌==◌, ◌%◌}
use Rattle.std.specs.List.{list_any, list_all}
use Rattle.std.proofs.lemmas.Bool.{false≢true, cases_Bool, and_parts, or_cases, eqb-true, eq-eqb, leb-true, cond-true, cond-false}
use Rattle.mz_base.specs.declared.range.TheConstants.{PAGE}
use Rattle.mz_base.specs.declared.profile.Profile.{Profile}
use Rattle.mz_base.specs.Space.{Block, Run, block_at, run_at, block_end, run_end, blocks_apart, runs_apart, bytes_of, page_of, same_block, same_run}
use Rattle.mz_base.specs.Room.{lies_in, has_room}
use Rattle.mz_base.specs.Sizes.{is_size_between}
use Rattle.mz_events.specs.Room.{wide}
use Rattle.mz_events.specs.declared.place.Place.{Place}
use Rattle.mz_events.specs.declared.place.Place.TheVariants.{Pages, Tiny, TinyDepot, Small, SmallDepot, Large, Nano}
use Rattle.mz_events.specs.declared.event.Event.{Event}
use Rattle.mz_events.specs.declared.event.Event.TheVariants.{Take, Back, Move, New, End, Size}
use Rattle.mz_events.specs.Places.{place_of, is_nano, same_place, quantum_of, is_magazine, is_depot, is_large, is_tiny, is_small, is_size_of, is_length_of, are_pair, depot_of, nano_start, Spot, keeper_at, same_spot, spot_at, spot_of}
use Rattle.mz_events.specs.State.{Kept, State, value_at, kept_at}
use Rattle.mz_events.specs.Changes.{region_at}
use Rattle.mz_events.specs.Duties.{is_owed}
use Rattle.mz_events.specs.Rules.{existing, takes_lowest, backs_unused, moves_in_by_duty, moves_out_claimed, fits_apart, placed, live_there, keeps, Fits, stands, claim_of, is_lowest_with_room}
use Rattle.mz_events.proofs.SpotLemmas.{same_place-true, same_spot-true}
use Rattle.mz_events.proofs.InOrderLemmas.{IsIn, in_from_has, any_in, each_in}
use Rattle.mz_events.proofs.SoundLemmas.{same_block-is, same_run-is, inside_numbers, Home, has_runs, place_of-spot}

least_of : (unit least most n : ℕ) → is_size_between unit least most n ≡ true → least ≤ n
least_of unit least most n h = leb-true least n (and_parts (n % unit == 0) (nat_le least n) (and_parts ((n % unit == 0) && nat_le least n) (nat_le n most) h).0).1

-- a size has a byte, and the length of a run a page
pub size_some : (k : Place) (n : ℕ) → is_size_of k n ≡ true → 1 ≤ n
size_some Pages n h = absurd (false≢true h)
size_some (Tiny z m) n h = let l = least_of 16 16 1008 n h in omega arith
size_some (TinyDepot z) n h = let l = least_of 16 16 1008 n h in omega arith
size_some (Small z m) n h = let l = least_of 512 1024 32768 n h in omega arith
size_some (SmallDepot z) n h = let l = least_of 512 1024 32768 n h in omega arith
size_some (Large z) n h = let l = leb-true 49152 n (and_parts (n % PAGE == 0) (nat_le 49152 n) h).1 in omega arith
size_some Nano n h = let l = least_of 16 16 256 n h in omega arith

pub length_some : (k : Place) (w : ℕ) → is_length_of k w ≡ true → 1 ≤ w
length_some Pages w h = absurd (false≢true h)
length_some (Tiny z m) w h = let l = eqb-true w 64 h in omega arith
length_some (TinyDepot z) w h = let l = eqb-true w 64 h in omega arith
length_some (Small z m) w h = let l = eqb-true w 512 h in omega arith
length_some (SmallDepot z) w h = let l = eqb-true w 512 h in omega arith
length_some (Large z) w h = let l : 3 ≤ w = leb-true 3 w h in omega arith
length_some Nano w h = absurd (false≢true h)

pub one_spot : (j k : Spot) → list_any (same_spot j) (k ∷ []) ≡ true → j ≡ k
one_spot j k h = elim (or_cases (same_spot j k) false h) [ inl same ↦ same_spot-true j k same | inr none ↦ absurd (false≢true none) ]

pub two_spots : (j k l : Spot) → list_any (same_spot j) (k ∷ l ∷ []) ≡ true → (j ≡ k) ⊎ (j ≡ l)
two_spots j k l h = elim (or_cases (same_spot j k) (same_spot j l || false) h) [ inl same ↦ inl (same_spot-true j k same) | inr later ↦ inr (one_spot j l later) ]

-- kinds of places that an event may name, by the spot
pub runs_of_taker : (k : Place) → (is_magazine k || is_large k) ≡ true → has_runs (spot_of k) ≡ true
runs_of_taker (Tiny z m) h = refl
runs_of_taker (Small z m) h = refl
runs_of_taker (Large z) h = refl
runs_of_taker Pages h = absurd (false≢true h)
runs_of_taker (TinyDepot z) h = absurd (false≢true h)
runs_of_taker (SmallDepot z) h = absurd (false≢true h)
runs_of_taker Nano h = absurd (false≢true h)

pub runs_of_giver : (k : Place) → (is_magazine k || is_depot k || is_large k) ≡ true → has_runs (spot_of k) ≡ true
runs_of_giver (Tiny z m) h = refl
runs_of_giver (Small z m) h = refl
runs_of_giver (Large z) h = refl
runs_of_giver (TinyDepot z) h = refl
runs_of_giver (SmallDepot z) h = refl
runs_of_giver Pages h = absurd (false≢true h)
runs_of_giver Nano h = absurd (false≢true h)

-- a spot that has runs isn't that of the free pages
pub not_pages : (j : Spot) → has_runs j ≡ true → j ≡ spot_of Pages → ⊥
not_pages j h e = false≢true (subst (λ i. has_runs i ≡ true) e h)

-- a magazine and its depot differ, have runs, and are of one range
pub pair_self : (k : Place) → are_pair k k ≡ false
pair_self Pages = refl
pair_self (Tiny z m) = refl
pair_self (TinyDepot z) = refl
pair_self (Small z m) = refl
pair_self (SmallDepot z) = refl
pair_self (Large z) = refl
pair_self Nano = refl

abbrev pub same_range : Place → Place → Type 0
same_range j k = (is_tiny j ≡ is_tiny k) × (is_small j ≡ is_small k) × (has_runs (spot_of j) ≡ true) × (has_runs (spot_of k) ≡ true)

depot_range : (j : Place) → is_magazine j ≡ true → same_range j (depot_of j)
depot_range (Tiny z m) h = (refl, refl, refl, refl)
depot_range (Small z m) h = (refl, refl, refl, refl)
depot_range Pages h = absurd (false≢true h)
depot_range (TinyDepot z) h = absurd (false≢true h)
depot_range (SmallDepot z) h = absurd (false≢true h)
depot_range (Large z) h = absurd (false≢true h)
depot_range Nano h = absurd (false≢true h)

pub pair_range : (j k : Place) → are_pair j k ≡ true → same_range j k
pair_range j k h = elim (or_cases (is_magazine j && same_place (depot_of j) k) (is_magazine k && same_place (depot_of k) j) h) [
  | inl l ↦ let parts = and_parts (is_magazine j) (same_place (depot_of j) k) l in subst (same_range j) (same_place-true (depot_of j) k parts.1) (depot_range j parts.0)
  | inr r ↦ let parts = and_parts (is_magazine k) (same_place (depot_of k) j) r in let it = subst (same_range k) (same_place-true (depot_of k) j parts.1) (depot_range k parts.0) in (sym it.0, sym it.1, it.3, it.2)
]

-- and their runs and blocks are of one kind
pub record SameKind (j k : Place) : Type 0 where
  pub one : is_large j ≡ false
  pub other : is_large k ≡ false
  pub no_nano : is_nano j ≡ false
  pub nor_nano : is_nano k ≡ false
  pub lengths : (w : ℕ) → is_length_of j w ≡ is_length_of k w
  pub sizes : (n : ℕ) → is_size_of j n ≡ is_size_of k n
  pub quanta : quantum_of j ≡ quantum_of k

depot_kind : (j : Place) → is_magazine j ≡ true → SameKind j (depot_of j)
depot_kind (Tiny z m) h = record { one = refl; other = refl; no_nano = refl; nor_nano = refl; lengths = λ w. refl; sizes = λ n. refl; quanta = refl }
depot_kind (Small z m) h = record { one = refl; other = refl; no_nano = refl; nor_nano = refl; lengths = λ w. refl; sizes = λ n. refl; quanta = refl }
depot_kind Pages h = absurd (false≢true h)
depot_kind (TinyDepot z) h = absurd (false≢true h)
depot_kind (SmallDepot z) h = absurd (false≢true h)
depot_kind (Large z) h = absurd (false≢true h)
depot_kind Nano h = absurd (false≢true h)

pub pair_kind : (j k : Place) → are_pair j k ≡ true → SameKind j k
pair_kind j k h = elim (or_cases (is_magazine j && same_place (depot_of j) k) (is_magazine k && same_place (depot_of k) j) h) [
  | inl l ↦ let parts = and_parts (is_magazine j) (same_place (depot_of j) k) l in subst (SameKind j) (same_place-true (depot_of j) k parts.1) (depot_kind j parts.0)
  | inr r ↦
      let parts = and_parts (is_magazine k) (same_place (depot_of k) j) r in
      let it = subst (SameKind k) (same_place-true (depot_of k) j parts.1) (depot_kind k parts.0) in
      record { one = it.other; other = it.one; no_nano = it.nor_nano; nor_nano = it.no_nano; lengths = λ w. sym (it.lengths w); sizes = λ n. sym (it.sizes n); quanta = sym it.quanta }
]

pub pair_differ : (j k : Place) → are_pair j k ≡ true → spot_of j ≡ spot_of k → ⊥
pair_differ j k h e = let it = pair_range j k h in differ j k h (same_keeper j k it.2 it.3 e)
  where
    same_keeper : (x y : Place) → has_runs (spot_of x) ≡ true → has_runs (spot_of y) ≡ true → spot_of x ≡ spot_of y → x ≡ y
    same_keeper x y g i f = sym (place_of-spot x 0) ∙ ap place_of f ∙ place_of-spot y 0

    differ : (x y : Place) → are_pair x y ≡ true → x ≡ y → ⊥
    differ x y g f = false≢true (sym (pair_self y) ∙ subst (λ z. are_pair z y ≡ true) f g)

nano_from : (n a : ℕ) → n * PAGE ≤ a → n ≤ page_of a
nano_from n a h = omega arith

nano_to : (m a n : ℕ) → 1 ≤ n → a + n ≤ m * PAGE → page_of a < m
nano_to m a n some h = omega arith

nano_page_from : (a : ℕ) → page_of a * PAGE ≤ a
nano_page_from a = omega arith

nano_page_to : (a n : ℕ) → a % PAGE + n ≤ PAGE → a + n ≤ (page_of a + 1) * PAGE
nano_page_to a n h = omega arith

in_left : (xs ys : List Block) (b : Block) → IsIn b xs → IsIn b (xs ++ ys)
in_left [] ys b h = absurd h
in_left (x ∷ xs) ys b (inl e) = inl e
in_left (x ∷ xs) ys b (inr h) = inr (in_left xs ys b h)

-- where a run of these begins at page f, the region there is one of them
region_there : (rs : List Run) (f : ℕ) (r : Run) → IsIn r rs → r.first ≡ f → IsIn (region_at rs f) rs
region_there [] f r there at = absurd there
region_there (t ∷ rs) f r there at = elim (cases_Bool (t.first == f)) [
  | inl here ↦ inl (cond-true (t.first == f) t (region_at rs f) here)
  | inr later ↦ elim there [
    | inl e ↦ absurd (false≢true (sym later ∙ eq-eqb t.first f (ap (λ (x : Run). x.first) (sym e) ∙ at)))
    | inr rest ↦ subst (λ x. IsIn x (t ∷ rs)) (sym (cond-false (t.first == f) t (region_at rs f) later)) (inr (region_there rs f r rest at))
  ]
]

module _ (p : Profile) (s : State) (c : ℕ) where
  -- a run that is taken
  pub record TakeFacts (k : Place) (f w : ℕ) : Type 0 where
    pub kind : (is_magazine k || is_large k) ≡ true
    pub some : 1 ≤ w
    pub length : is_length_of k w ≡ true
    pub aligned : is_large k ≡ false → f % w ≡ 0
    pub below : run_end (run_at f w) ≤ nano_start p
    pub free : (t : Run) → IsIn t (kept_at s (spot_of Pages)).taken → runs_apart t (run_at f w) ≡ true

  pub fits_take : (k : Place) (f w : ℕ) → Fits p s c (Take k f w) → TakeFacts k f w
  unfolding keeps
  fits_take k f w fits =
      let exist = and_parts _ _ (fits existing) in
      let lowest = and_parts _ _ (fits takes_lowest) in
      let free = and_parts _ _ (and_parts _ _ (and_parts _ _ lowest.1).0).1 in
      record {
        kind = (and_parts _ _ exist.1).0;
        some = length_some k w lowest.0;
        length = lowest.0;
        aligned = λ region. eqb-true (f % w) 0 (subst (λ al. (f % al == 0) ≡ true) (cond-false (is_large k) 1 w region) (and_parts _ _ (and_parts _ _ lowest.1).0).0);
        below = leb-true (run_end (run_at f w)) (nano_start p) free.0;
        free = λ t there. each_in (λ (x : Run). runs_apart x (run_at f w)) (kept_at s (spot_of Pages)).taken t free.1 there;
      }

  -- a run that goes back
  pub record BackFacts (k : Place) (f w : ℕ) : Type 0 where
    pub kind : has_runs (spot_of k) ≡ true
    pub there : IsIn (run_at f w) (kept_at s (spot_of k)).runs
    pub unused : (b : Block) → IsIn b (kept_at s (spot_of k)).live → blocks_apart b (bytes_of (run_at f w)) ≡ true

  pub fits_back : (k : Place) (f w : ℕ) → Fits p s c (Back k f w) → BackFacts k f w
  unfolding keeps
  fits_back k f w fits =
      let exist = and_parts _ _ (fits existing) in
      let unused = and_parts _ _ (fits backs_unused) in
      record {
        kind = runs_of_giver k (and_parts _ _ exist.1).0;
        there = in_from_has same_run same_run-is (kept_at s (spot_of k)).runs (run_at f w) unused.0;
        unused = λ b there. each_in (λ (x : Block). blocks_apart x (bytes_of (run_at f w))) (kept_at s (spot_of k)).live b unused.1 there;
      }

  -- a block that ends, or changes its size, is live in its place
  pub fits_end : (k : Place) (a n : ℕ) → Fits p s c (End k a n) → IsIn (block_at a n) (kept_at s (spot_at k a)).live
  unfolding keeps
  fits_end k a n fits = in_from_has same_block same_block-is (kept_at s (spot_at k a)).live (block_at a n) (fits live_there)

  -- where a new or a resized block lies
  pub record NewFacts (k : Place) (b : Block) : Type 0 where
    pub some : 1 ≤ b.size
    pub apart : (d : Block) → IsIn d (kept_at s (spot_at k b.first)).live → blocks_apart d b ≡ true
    pub home : Home p (spot_at k b.first) (kept_at s (spot_at k b.first)).runs b

  in_run : (k : Place) (rs : List Run) (b : Block) → list_any (λ r. lies_in r b.first (block_end b)) rs ≡ true → Home p (keeper_at k) rs b
  in_run k rs b h = let r = any_in (λ (t : Run). lies_in t b.first (block_end b)) rs h in (r.0, r.1, inside_numbers r.0 b r.2)

  new_plain : (k : Place) (a n al : ℕ) (x y : Bool) → ((((is_size_of k n && x) && y) && (list_any (λ (r : Run). lies_in r a (a + n)) (kept_at s (keeper_at k)).runs && (is_large k || ((a % quantum_of k == 0) && (n % quantum_of k == 0))))) && list_all (λ (d : Block). blocks_apart d (block_at a n)) (kept_at s (keeper_at k)).live) ≡ true → (1 ≤ n) × ((d : Block) → IsIn d (kept_at s (keeper_at k)).live → blocks_apart d (block_at a n) ≡ true) × Home p (keeper_at k) (kept_at s (keeper_at k)).runs (block_at a n)
  new_plain k a n al x y h =
      let all = and_parts _ _ h in
      let lies = and_parts _ _ all.0 in
      let size = and_parts _ _ (and_parts _ _ lies.0).0 in
      (size_some k n size.0, (λ d there. each_in (λ (e : Block). blocks_apart e (block_at a n)) (kept_at s (keeper_at k)).live d all.1 there), in_run k (kept_at s (keeper_at k)).runs (block_at a n) (and_parts _ _ lies.1).0)

  pub fits_new : (k : Place) (a n al : ℕ) → Fits p s c (New k a n al) → NewFacts k (block_at a n)
  unfolding keeps
  fits_new (Tiny z m) a n al fits = let it = new_plain (Tiny z m) a n al (nat_le 1 al) (a % al == 0) (fits fits_apart) in record { some = it.0; apart = it.1; home = it.2 }
  fits_new (Small z m) a n al fits = let it = new_plain (Small z m) a n al (nat_le 1 al) (a % al == 0) (fits fits_apart) in record { some = it.0; apart = it.1; home = it.2 }
  fits_new (Large z) a n al fits = let it = new_plain (Large z) a n al (nat_le 1 al) (a % al == 0) (fits fits_apart) in record { some = it.0; apart = it.1; home = it.2 }
  fits_new Nano a n al fits =
      let all = and_parts _ _ (fits fits_apart) in
      let lies = and_parts _ _ all.0 in
      let size = size_some Nano n (and_parts _ _ (and_parts _ _ lies.0).0).0 in
      let space = and_parts _ _ lies.1 in
      let page = and_parts _ _ (and_parts _ _ (fits placed)).0 in
      let from : nano_start p * PAGE ≤ a = leb-true (nano_start p * PAGE) a space.0 in
      let to : a + n ≤ p.pages * PAGE = leb-true (a + n) (p.pages * PAGE) space.1 in
      let within : a % PAGE + n ≤ PAGE = leb-true (a % PAGE + n) PAGE page.1 in
      let some : 1 ≤ n = size in
      record {
        some = some;
        apart = λ d there. each_in (λ (x : Block). blocks_apart x (block_at a n)) ((kept_at s (spot_at Nano a)).live ++ (kept_at s (spot_at Nano (a + n - 1))).live) d all.1 (in_left (kept_at s (spot_at Nano a)).live (kept_at s (spot_at Nano (a + n - 1))).live d there);
        home = (nano_from (nano_start p) a from, nano_to p.pages a n some to, (nano_page_from a, nano_page_to a n within));
      }
  fits_new Pages a n al fits = absurd (false≢true (and_parts false (stands p s Pages) (and_parts (nat_lt c p.callers) (false && stands p s Pages) (fits existing)).1).0)
  fits_new (TinyDepot z) a n al fits = absurd (false≢true (and_parts false (stands p s (TinyDepot z)) (and_parts (nat_lt c p.callers) (false && stands p s (TinyDepot z)) (fits existing)).1).0)
  fits_new (SmallDepot z) a n al fits = absurd (false≢true (and_parts false (stands p s (SmallDepot z)) (and_parts (nat_lt c p.callers) (false && stands p s (SmallDepot z)) (fits existing)).1).0)

  -- a resized extent
  pub record SizeFacts (k : Place) (a n m : ℕ) : Type 0 where
    pub some : 1 ≤ m
    pub there : IsIn (block_at a n) (kept_at s (spot_at k a)).live
    pub apart : (d : Block) → IsIn d (kept_at s (spot_at k a)).live → ((d.first == a) || blocks_apart d (block_at a m)) ≡ true
    pub home : Home p (spot_at k a) (kept_at s (spot_at k a)).runs (block_at a m)

  size_plain : (k : Place) (a m : ℕ) → ((is_size_of k m && (list_any (λ (r : Run). lies_in r a (a + m)) (kept_at s (keeper_at k)).runs && (is_large k || ((a % quantum_of k == 0) && (m % quantum_of k == 0))))) && list_all (λ (d : Block). (d.first == a) || blocks_apart d (block_at a m)) (kept_at s (keeper_at k)).live) ≡ true → (1 ≤ m) × ((d : Block) → IsIn d (kept_at s (keeper_at k)).live → ((d.first == a) || blocks_apart d (block_at a m)) ≡ true) × Home p (keeper_at k) (kept_at s (keeper_at k)).runs (block_at a m)
  size_plain k a m h =
      let all = and_parts _ _ h in
      let lies = and_parts _ _ all.0 in
      (size_some k m lies.0, (λ d there. each_in (λ (e : Block). (e.first == a) || blocks_apart e (block_at a m)) (kept_at s (keeper_at k)).live d all.1 there), in_run k (kept_at s (keeper_at k)).runs (block_at a m) (and_parts _ _ lies.1).0)

  size_there : (k : Place) (a n m : ℕ) → Fits p s c (Size k a n m) → IsIn (block_at a n) (kept_at s (spot_at k a)).live
  unfolding keeps
  size_there k a n m fits = in_from_has same_block same_block-is (kept_at s (spot_at k a)).live (block_at a n) (fits live_there)

  pub fits_size : (k : Place) (a n m : ℕ) → Fits p s c (Size k a n m) → SizeFacts k a n m
  unfolding keeps
  fits_size (Tiny z i) a n m fits = let it = size_plain (Tiny z i) a m (fits fits_apart) in record { some = it.0; there = size_there (Tiny z i) a n m fits; apart = it.1; home = it.2 }
  fits_size (TinyDepot z) a n m fits = let it = size_plain (TinyDepot z) a m (fits fits_apart) in record { some = it.0; there = size_there (TinyDepot z) a n m fits; apart = it.1; home = it.2 }
  fits_size (Small z i) a n m fits = let it = size_plain (Small z i) a m (fits fits_apart) in record { some = it.0; there = size_there (Small z i) a n m fits; apart = it.1; home = it.2 }
  fits_size (SmallDepot z) a n m fits = let it = size_plain (SmallDepot z) a m (fits fits_apart) in record { some = it.0; there = size_there (SmallDepot z) a n m fits; apart = it.1; home = it.2 }
  fits_size Pages a n m fits = absurd (false≢true (and_parts false (stands p s Pages) (and_parts (nat_lt c p.callers) (false && stands p s Pages) (fits existing)).1).0)
  fits_size (Large z) a n m fits = absurd (false≢true (and_parts false (stands p s (Large z)) (and_parts (nat_lt c p.callers) (false && stands p s (Large z)) (fits existing)).1).0)
  fits_size Nano a n m fits = absurd (false≢true (and_parts false (stands p s Nano) (and_parts (nat_lt c p.callers) (false && stands p s Nano) (fits existing)).1).0)

  -- a region that moves; that a region of the one place begins there is known of a duty
  pub record MoveFacts (f : ℕ) (from to : Place) : Type 0 where
    pub pair : are_pair from to ≡ true
    pub there : IsIn (region_at (kept_at s (spot_of from)).runs f) (kept_at s (spot_of from)).runs

  that_move : (d : Option Event) (f : ℕ) (from to : Place) → is_owed d (Move f from to) ≡ true → d ≡ Some (Move f from to)
  that_move None f from to h = absurd (false≢true h)
  that_move (Some (Move g x y)) f from to h =
      let outer = and_parts _ _ h in
      let inner = and_parts _ _ outer.0 in
      let e : g ≡ f = eqb-true g f inner.0 in
      let i : x ≡ from = same_place-true x from inner.1 in
      let j : y ≡ to = same_place-true y to outer.1 in
      cc
  that_move (Some _) f from to h = absurd (false≢true h)

  begins_claimed : (claim : Option (ℕ × ℕ)) (k : Kept) (f : ℕ) → elim claim [ Some x ↦ is_lowest_with_room k f x | None ↦ false ] ≡ true → (r : Run) × IsIn r k.runs × (r.first ≡ f)
  begins_claimed None k f h = absurd (false≢true h)
  begins_claimed (Some x) k f h =
      let some = any_in (λ (r : Run). (r.first == f) && has_room r (wide k) x.0 x.1) k.runs (and_parts _ _ h).0 in
      (some.0, some.1, eqb-true some.0.first f (and_parts _ _ some.2).0)

  begins_owed : (b : Bool) (d : Option Event) (f : ℕ) (from to : Place) → b ≡ true → cond b (is_owed d (Move f from to)) true ≡ true → d ≡ Some (Move f from to)
  begins_owed b d f from to h owed = that_move d f from to (sym (cond-true b (is_owed d (Move f from to)) true h) ∙ owed)

  pub fits_move : (f : ℕ) (from to : Place) → Fits p s c (Move f from to) → ((x y : Place) → (value_at s (spot_of from)).duty ≡ Some (Move f x y) → list_any (λ r. r.first == f) (kept_at s (spot_of from)).runs ≡ true) → MoveFacts f from to
  unfolding keeps
  fits_move f from to fits promised =
      let pair = (and_parts _ _ (and_parts _ _ (and_parts _ _ (fits existing)).1).0).0 in
      record {
        pair = pair;
        there = elim (cases_Bool (is_depot to)) [
          | inl in' ↦
              let any = any_in (λ (r : Run). r.first == f) (kept_at s (spot_of from)).runs (promised from to (begins_owed (is_depot to) (value_at s (spot_of from)).duty f from to in' (fits moves_in_by_duty))) in
              region_there (kept_at s (spot_of from)).runs f any.0 any.1 (eqb-true any.0.first f any.2)
          | inr out ↦
              let claim = claim_of c (value_at s (spot_of to)).last in
              let any = begins_claimed claim (kept_at s (spot_of from)) f (sym (cond-false (is_depot to) true (elim claim [ Some x ↦ is_lowest_with_room (kept_at s (spot_of from)) f x | None ↦ false ]) out) ∙ fits moves_out_claimed) in
              region_there (kept_at s (spot_of from)).runs f any.0 any.1 any.2
        ];
      }
