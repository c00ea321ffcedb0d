-- Where runs of all places are apart, each page is in one place, and live blocks are apart.
use Rattle.std.proofs.Common.{◌≡◌, ℕ, ◌<◌, ◌≤◌, ◌⊎◌, true, false, not, refl, ap, sym, subst, ◌∙◌, inl, inr, arith}
use Rattle.std.specs.Prelude.{nat_le, nat_lt}
use Rattle.std.specs.List.{list_any}
use Rattle.std.proofs.lemmas.Bool.{false≢true, cases_Bool, and_parts, and_from, cases_lt, cases_order, leb-true, ltb-true, le-leb, lt-ltb, not-true}
use Rattle.mz_base.specs.declared.profile.Profile.{Profile}
use Rattle.mz_base.specs.Space.{Block, Run, run_at, block_end, run_end, runs_apart}
use Rattle.mz_events.specs.declared.place.Place.{Place}
use Rattle.mz_events.specs.declared.place.Place.TheVariants.{Pages, Tiny, TinyDepot, Small, SmallDepot, Large, Nano}
use Rattle.mz_events.specs.Places.{nano_start, Spot, keeper_at, nano_page, same_spot, spot_of, place_of}
use Rattle.mz_events.specs.State.{State, kept_at}
use Rattle.mz_events.specs.Separation.{has_page, is_in, IsInOnePlace}
use Rattle.mz_events.proofs.SpotLemmas.{same_spot-true, same_spot-refl}
use Rattle.mz_events.proofs.InOrderLemmas.{IsIn, any_in, in_any, order_pair}
use Rattle.mz_events.proofs.SoundLemmas.{inside_apart, Home, run_numbers, has_runs, place_of-spot}
use Rattle.mz_events.proofs.SeparationLemmas.{IsApart}

page_numbers : (r : Run) (i : ℕ) → has_page r i ≡ true → (r.first ≤ i) × (i < run_end r)
page_numbers r i h = let parts = and_parts (nat_le r.first i) (nat_lt i (run_end r)) h in (leb-true r.first i parts.0, ltb-true i (run_end r) parts.1)

module _ (p : Profile) (s : State) (h : IsApart p s) where
  -- two live blocks are one, or apart
  different : (j k : Spot) (b c : Block) → (j ≡ k → ⊥) → Home p j (kept_at s j).runs b → Home p k (kept_at s k).runs c → (block_end b ≤ c.first) ⊎ (block_end c ≤ b.first)
  different (keeper_at x) (keeper_at y) b c other here there = elim (h.apart (keeper_at x) (keeper_at y) here.0 there.0 here.1 there.1) [
    | inl same ↦ absurd (other same.0)
    | inr apart ↦ inside_apart here.0 there.0 b c here.2 there.2 (run_numbers here.0 there.0 apart)
  ]
  different (keeper_at x) (nano_page i) b c other here there =
      let below = (h.sound (keeper_at x)).below here.0 here.1 in
      let from = there.0 in
      inside_apart here.0 (run_at i 1) b c here.2 there.2 (inl (omega arith))
  different (nano_page i) (keeper_at y) b c other here there =
      let below = (h.sound (keeper_at y)).below there.0 there.1 in
      let from = here.0 in
      inside_apart (run_at i 1) there.0 b c here.2 there.2 (inr (omega arith))
  different (nano_page i) (nano_page l) b c other here there = elim (cases_order i l) [
    | inl e ↦ absurd (other (ap (λ x. nano_page x) e))
    | inr differ ↦ elim differ [
      | inl less ↦ inside_apart (run_at i 1) (run_at l 1) b c here.2 there.2 (inl (omega (arith, less)))
      | inr more ↦ inside_apart (run_at i 1) (run_at l 1) b c here.2 there.2 (inr (omega (arith, more)))
    ]
  ]

  pub blocks_beside : (j k : Spot) (b c : Block) → IsIn b (kept_at s j).live → IsIn c (kept_at s k).live → ((j ≡ k) × (b ≡ c)) ⊎ ((block_end b ≤ c.first) ⊎ (block_end c ≤ b.first))
  blocks_beside j k b c here there = elim (cases_Bool (same_spot j k)) [
    | inl yes_ ↦
        let e = same_spot-true j k yes_ in
        elim (order_pair (λ (x : Block). x.first) block_end (kept_at s k).live b c (h.sound k).live_order (subst (λ i. IsIn b (kept_at s i).live) e here) there) [ inl same ↦ inl (e, same) | inr beside ↦ inr beside ]
    | inr no_ ↦ inr (different j k b c (λ e. false≢true (sym no_ ∙ subst (λ i. same_spot j i ≡ true) e (same_spot-refl j))) ((h.sound j).home b here) ((h.sound k).home c there))
  ]

  -- what it means that a page is in a place
  abbrev IsThere : Place → ℕ → Type 0
  IsThere k i = ((k ≡ Pages) × (i < nano_start p) × (list_any (λ r. has_page r i) (kept_at s (spot_of Pages)).taken ≡ false)) ⊎ (((k ≡ Nano) × (nano_start p ≤ i)) ⊎ ((r : Run) × IsIn r (kept_at s (spot_of k)).runs × (has_page r i ≡ true)))

  there_is : (k : Place) (i : ℕ) → is_in p s k i ≡ true → IsThere k i
  there_is Pages i t =
      let parts = and_parts (nat_lt i (nano_start p)) (not (list_any (λ r. has_page r i) (kept_at s (spot_of Pages)).taken)) t in
      inl (refl, ltb-true i (nano_start p) parts.0, not-true (list_any (λ r. has_page r i) (kept_at s (spot_of Pages)).taken) parts.1)
  there_is (Tiny z m) i t = inr (inr (any_in (λ (r : Run). has_page r i) (kept_at s (spot_of (Tiny z m))).runs t))
  there_is (TinyDepot z) i t = inr (inr (any_in (λ (r : Run). has_page r i) (kept_at s (spot_of (TinyDepot z))).runs t))
  there_is (Small z m) i t = inr (inr (any_in (λ (r : Run). has_page r i) (kept_at s (spot_of (Small z m))).runs t))
  there_is (SmallDepot z) i t = inr (inr (any_in (λ (r : Run). has_page r i) (kept_at s (spot_of (SmallDepot z))).runs t))
  there_is (Large z) i t = inr (inr (any_in (λ (r : Run). has_page r i) (kept_at s (spot_of (Large z))).runs t))
  there_is Nano i t = inr (inl (refl, leb-true (nano_start p) i (and_parts (nat_le (nano_start p) i) (nat_lt i p.pages) t).0))

  is_there : (j : Spot) (i : ℕ) (r : Run) → has_runs j ≡ true → IsIn r (kept_at s j).runs → has_page r i ≡ true → (is_in p s (place_of j) i ≡ true) × (spot_of (place_of j) ≡ j)
  is_there (keeper_at (Tiny z m)) i r has there page = (in_any (λ (t : Run). has_page t i) (kept_at s (keeper_at (Tiny z m))).runs r there page, refl)
  is_there (keeper_at (TinyDepot z)) i r has there page = (in_any (λ (t : Run). has_page t i) (kept_at s (keeper_at (TinyDepot z))).runs r there page, refl)
  is_there (keeper_at (Small z m)) i r has there page = (in_any (λ (t : Run). has_page t i) (kept_at s (keeper_at (Small z m))).runs r there page, refl)
  is_there (keeper_at (SmallDepot z)) i r has there page = (in_any (λ (t : Run). has_page t i) (kept_at s (keeper_at (SmallDepot z))).runs r there page, refl)
  is_there (keeper_at (Large z)) i r has there page = (in_any (λ (t : Run). has_page t i) (kept_at s (keeper_at (Large z))).runs r there page, refl)
  is_there (keeper_at Pages) i r has there page = absurd (false≢true has)
  is_there (keeper_at Nano) i r has there page = absurd (false≢true has)
  is_there (nano_page x) i r has there page = absurd (false≢true has)

  in_nano : (i : ℕ) → nano_start p ≤ i → i < p.pages → IsInOnePlace p s i
  in_nano i from to = record {
    place = Nano;
    there = and_from (nat_le (nano_start p) i) (nat_lt i p.pages) (le-leb (nano_start p) i from) (lt-ltb i p.pages to);
    nowhere_else = λ k t. elim (there_is k i t) [
      | inl free ↦ absurd (let less = free.1 in omega arith)
      | inr rest ↦ elim rest [
        | inl nano ↦ nano.0
        | inr run ↦ absurd (let below = (h.sound (spot_of k)).below run.0 run.1 in let page = page_numbers run.0 i run.2 in omega arith)
      ]
    ];
  }

  in_pages : (i : ℕ) → i < nano_start p → list_any (λ r. has_page r i) (kept_at s (spot_of Pages)).taken ≡ false → IsInOnePlace p s i
  in_pages i below free = record {
    place = Pages;
    there = and_from (nat_lt i (nano_start p)) (not (list_any (λ r. has_page r i) (kept_at s (spot_of Pages)).taken)) (lt-ltb i (nano_start p) below) (ap not free);
    nowhere_else = λ k t. elim (there_is k i t) [
      | inl same ↦ same.0
      | inr rest ↦ elim rest [
        | inl nano ↦ absurd (let from = nano.1 in omega arith)
        | inr run ↦ absurd (false≢true (sym free ∙ in_any (λ (r : Run). has_page r i) (kept_at s (spot_of Pages)).taken run.0 (h.all_taken (spot_of k) run.0 run.1) run.2))
      ]
    ];
  }

  both_hold : (r t : Run) (i : ℕ) → has_page r i ≡ true → has_page t i ≡ true → runs_apart r t ≡ true → ⊥
  both_hold r t i a b apart =
      let x = page_numbers r i a in
      let y = page_numbers t i b in
      elim (run_numbers r t apart) [ inl l ↦ omega (arith, l, x.1, y.0) | inr l ↦ omega (arith, l, x.0, y.1) ]

  in_run : (i : ℕ) → i < nano_start p → (r : Run) → IsIn r (kept_at s (spot_of Pages)).taken → has_page r i ≡ true → IsInOnePlace p s i
  in_run i below r taken page =
      let at = h.taken_somewhere r taken in
      let it = is_there at.0 i r ((h.sound at.0).placed r at.1) at.1 page in
      record {
        place = place_of at.0;
        there = it.0;
        nowhere_else = λ k t. elim (there_is k i t) [
          | inl free ↦ absurd (false≢true (sym free.2 ∙ in_any (λ (x : Run). has_page x i) (kept_at s (spot_of Pages)).taken r taken page))
          | inr rest ↦ elim rest [
            | inl nano ↦ absurd (let from = nano.1 in omega arith)
            | inr run ↦ elim (h.apart (spot_of k) at.0 run.0 r run.1 at.1) [
              | inl same ↦ sym (place_of-spot k 0) ∙ ap place_of same.0
              | inr apart ↦ absurd (both_hold run.0 r i run.2 page apart)
            ]
          ]
        ];
      }

  pub one_place : (i : ℕ) → i < p.pages → IsInOnePlace p s i
  one_place i space = elim (cases_lt i (nano_start p)) [
    | inl below ↦ elim (cases_Bool (list_any (λ r. has_page r i) (kept_at s (spot_of Pages)).taken)) [
      | inl yes_ ↦ let r = any_in (λ (x : Run). has_page x i) (kept_at s (spot_of Pages)).taken yes_ in in_run i below r.0 r.1 r.2
      | inr no_ ↦ in_pages i below no_
    ]
    | inr from ↦ in_nano i from space
  ]
