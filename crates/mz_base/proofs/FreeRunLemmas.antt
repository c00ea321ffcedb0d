-- The tests of free runs of pages mean what FreeRuns says.
use Rattle.std.proofs.Common.{◌≡◌, ℕ, ◌+◌, ◌≤◌, Bool, true, false, cond, not, List, [], ◌∷◌, refl, ap, sym, subst, ◌∙◌, inl, inr, arith}
use Rattle.std.specs.Prelude.{IsTrue, ◌&&◌, ◌||◌, ◌%◌, ◌==◌, nat_le, map, max}
use Rattle.std.specs.List.{list_any, list_all}
use Rattle.std.proofs.lemmas.Bool.{and_parts, and_from, or_cases, or_left, or_right, cases_Bool, false≢true, leb-true, le-leb, leb-false, eqb-true, eq-eqb, cond-true, cond-false}
use Rattle.mz_base.specs.Space.{Run, run_at, run_end, runs_apart, least_multiple}
use Rattle.mz_base.specs.Room.{is_free, page_starts, run_from, has_free, is_lowest_free}
use Rattle.mz_base.specs.FreeRuns.{IsSomeFree, IsLowestFree}
use Rattle.mz_base.proofs.SpaceLemmas.{least_multiple-above, least_multiple-mod, least_multiple-least}

-- the last page start at or below f: page 0, or the end of a taken run
start_below : List Run → ℕ → ℕ
start_below [] f = 0
start_below (t ∷ ts) f = cond (nat_le (run_end t) f) (max (run_end t) (start_below ts f)) (start_below ts f)

start-none : (f : ℕ) → start_below [] f ≡ 0
unfolding start_below
start-none f = refl

start-low : (t : Run) (ts : List Run) (f : ℕ) → nat_le (run_end t) f ≡ true → start_below (t ∷ ts) f ≡ max (run_end t) (start_below ts f)
unfolding start_below
start-low t ts f h = cond-true (nat_le (run_end t) f) (max (run_end t) (start_below ts f)) (start_below ts f) h

start-high : (t : Run) (ts : List Run) (f : ℕ) → nat_le (run_end t) f ≡ false → start_below (t ∷ ts) f ≡ start_below ts f
unfolding start_below
start-high t ts f h = cond-false (nat_le (run_end t) f) (max (run_end t) (start_below ts f)) (start_below ts f) h

start-le : (ts : List Run) (f : ℕ) → start_below ts f ≤ f
start-le [] f = let e = start-none f in omega arith
start-le (t ∷ ts) f =
    let rest : start_below ts f ≤ f = start-le ts f in
    elim (cases_Bool (nat_le (run_end t) f)) [
      | inl low ↦ let e = start-low t ts f low in let k = leb-true (run_end t) f low in omega arith
      | inr high ↦ let e = start-high t ts f high in omega arith
    ]

-- it is one of the page starts
end_among : (p : ℕ → Bool) (ts : List Run) (f : ℕ) → p (start_below ts f) ≡ true → (p 0 || list_any p (map run_end ts)) ≡ true
end_among p [] f h = or_left (p 0) false (subst (λ n. p n ≡ true) (start-none f) h)
end_among p (t ∷ ts) f h =
    elim (cases_Bool (nat_le (run_end t) f)) [
      | inr high ↦ behind t ts (end_among p ts f (subst (λ n. p n ≡ true) (start-high t ts f high) h))
      | inl low ↦ elim (cases_Bool (nat_le (run_end t) (start_below ts f))) [
        | inl less ↦
            let k = leb-true (run_end t) (start_below ts f) less in
            let e = start-low t ts f low in
            let same : start_below (t ∷ ts) f ≡ start_below ts f = omega arith in
            behind t ts (end_among p ts f (subst (λ n. p n ≡ true) same h))
        | inr more ↦
            let k = leb-false (run_end t) (start_below ts f) more in
            let e = start-low t ts f low in
            let same : start_below (t ∷ ts) f ≡ run_end t = omega arith in
            or_right (p 0) (p (run_end t) || list_any p (map run_end ts)) (or_left (p (run_end t)) (list_any p (map run_end ts)) (subst (λ n. p n ≡ true) same h))
      ]
    ]
  where
    behind : (t : Run) (ts : List Run) → (p 0 || list_any p (map run_end ts)) ≡ true → (p 0 || (p (run_end t) || list_any p (map run_end ts))) ≡ true
    behind t ts g =
        elim (or_cases (p 0) (list_any p (map run_end ts)) g) [
          | inl a ↦ or_left (p 0) (p (run_end t) || list_any p (map run_end ts)) a
          | inr b ↦ or_right (p 0) (p (run_end t) || list_any p (map run_end ts)) (or_right (p (run_end t)) (list_any p (map run_end ts)) b)
        ]

start-among : (p : ℕ → Bool) (ts : List Run) (f : ℕ) → p (start_below ts f) ≡ true → list_any p (page_starts ts) ≡ true
start-among p ts f h = end_among p ts f h

-- what holds of each page start holds of it
start-all : (p : ℕ → Bool) (ts : List Run) (f : ℕ) → list_all p (page_starts ts) ≡ true → p (start_below ts f) ≡ true
start-all p ts f h = let parts = and_parts (p 0) (list_all p (map run_end ts)) h in among ts parts.0 parts.1
  where
    among : (us : List Run) → p 0 ≡ true → list_all p (map run_end us) ≡ true → p (start_below us f) ≡ true
    among [] first rest = subst (λ n. p n ≡ true) (sym (start-none f)) first
    among (t ∷ us) first rest =
        let parts = and_parts (p (run_end t)) (list_all p (map run_end us)) rest in
        let deeper = among us first parts.1 in
        elim (cases_Bool (nat_le (run_end t) f)) [
          | inr high ↦ subst (λ n. p n ≡ true) (sym (start-high t us f high)) deeper
          | inl low ↦ elim (cases_Bool (nat_le (run_end t) (start_below us f))) [
            | inl less ↦
                let k = leb-true (run_end t) (start_below us f) less in
                let e = start-low t us f low in
                let same : start_below us f ≡ start_below (t ∷ us) f = omega arith in
                subst (λ n. p n ≡ true) same deeper
            | inr more ↦
                let k = leb-false (run_end t) (start_below us f) more in
                let e = start-low t us f low in
                let same : run_end t ≡ start_below (t ∷ us) f = omega arith in
                subst (λ n. p n ≡ true) same parts.0
          ]
        ]

-- a free run may begin lower, down to the start below it
apart-lower : (ts : List Run) (f g w : ℕ) → start_below ts f ≤ g → g ≤ f → list_all (λ t. runs_apart t (run_at f w)) ts ≡ true → list_all (λ t. runs_apart t (run_at g w)) ts ≡ true
apart-lower [] f g w low high h = refl
apart-lower (t ∷ ts) f g w low high h =
    let parts = and_parts (runs_apart t (run_at f w)) (list_all (λ u. runs_apart u (run_at f w)) ts) h in
    elim (cases_Bool (nat_le (run_end t) f)) [
      | inl below ↦
          let e = start-low t ts f below in
          and_from (runs_apart t (run_at g w)) (list_all (λ u. runs_apart u (run_at g w)) ts)
          (or_left (nat_le (run_end t) g) (nat_le (g + w) t.first) (le-leb (run_end t) g (omega arith)))
          (apart-lower ts f g w (omega arith) high parts.1)
      | inr above ↦
          let e = start-high t ts f above in
          let k = leb-false (run_end t) f above in
          let behind : f + w ≤ t.first = elim (or_cases (nat_le (run_end t) f) (nat_le (f + w) t.first) parts.0) [
            | inl no_ ↦ absurd (false≢true (sym above ∙ no_))
            | inr yes_ ↦ leb-true (f + w) t.first yes_
          ] in
          and_from (runs_apart t (run_at g w)) (list_all (λ u. runs_apart u (run_at g w)) ts)
          (or_right (nat_le (run_end t) g) (nat_le (g + w) t.first) (le-leb (g + w) t.first (omega arith)))
          (apart-lower ts f g w (omega arith) high parts.1)
    ]

module _ (top : ℕ) (taken : List Run) (w al : ℕ) (some : 1 ≤ al) where
  abbrev lowest_from : ℕ → ℕ
  lowest_from f = least_multiple al (start_below taken f)

  lowest-le : (f : ℕ) → f % al ≡ 0 → lowest_from f ≤ f
  lowest-le f aligned = least_multiple-least al (start_below taken f) f some aligned (start-le taken f)

  lowest-free : (f : ℕ) → f % al ≡ 0 → IsTrue (is_free top taken (run_at f w)) → is_free top taken (run_from w al (start_below taken f)) ≡ true
  lowest-free f aligned free =
      let parts = and_parts (nat_le (f + w) top) (list_all (λ t. runs_apart t (run_at f w)) taken) free in
      let under = leb-true (f + w) top parts.0 in
      let g = lowest-le f aligned in
      let h = least_multiple-above al (start_below taken f) some in
      and_from (nat_le (lowest_from f + w) top) (list_all (λ t. runs_apart t (run_at (lowest_from f) w)) taken)
      (le-leb (lowest_from f + w) top (omega arith)) (apart-lower taken f (lowest_from f) w h g parts.1)

  pub free_from_some : IsSomeFree top taken w al → IsTrue (has_free top taken w al)
  free_from_some h = start-among (λ x. is_free top taken (run_from w al x)) taken h.0 (lowest-free h.0 h.1 h.2)

  some_among : (xs : List ℕ) → list_any (λ x. is_free top taken (run_from w al x)) xs ≡ true → IsSomeFree top taken w al
  some_among [] h = absurd (false≢true h)
  some_among (x ∷ xs) h =
      elim (or_cases (is_free top taken (run_from w al x)) (list_any (λ y. is_free top taken (run_from w al y)) xs) h) [
        | inl here ↦ (least_multiple al x, least_multiple-mod al x, here)
        | inr later ↦ some_among xs later
      ]

  pub some_from_free : IsTrue (has_free top taken w al) → IsSomeFree top taken w al
  some_from_free h = some_among (page_starts taken) h

module _ (top : ℕ) (taken : List Run) (r : Run) (al : ℕ) (some : 1 ≤ al) where
  abbrev not_lower : ℕ → Bool
  not_lower x = nat_le r.first (least_multiple al x) || not (is_free top taken (run_from r.pages al x))

  pub lowest_from_test : IsTrue (is_lowest_free top taken r al) → IsLowestFree top taken r al
  lowest_from_test h =
      let outer = and_parts (((r.first % al) == 0) && is_free top taken r) (list_all not_lower (page_starts taken)) h in
      let inner = and_parts ((r.first % al) == 0) (is_free top taken r) outer.0 in
      record {
        aligned = eqb-true (r.first % al) 0 inner.0;
        free = inner.1;
        lowest = λ f aligned free.
            let at = lowest-free top taken r.pages al some f aligned free in
            let under = lowest-le top taken r.pages al some f aligned in
            elim (or_cases (nat_le r.first (least_multiple al (start_below taken f))) (not (is_free top taken (run_from r.pages al (start_below taken f)))) (start-all not_lower taken f outer.1)) [
              | inl low ↦ let k = leb-true r.first (least_multiple al (start_below taken f)) low in omega arith
              | inr none ↦ absurd (false≢true (sym (ap not at) ∙ none))
            ];
      }

  none_lower : IsLowestFree top taken r al → (xs : List ℕ) → list_all not_lower xs ≡ true
  none_lower l [] = refl
  none_lower l (x ∷ xs) =
      and_from (not_lower x) (list_all not_lower xs) (elim (cases_Bool (is_free top taken (run_from r.pages al x))) [
        | inl free ↦ or_left (nat_le r.first (least_multiple al x)) (not (is_free top taken (run_from r.pages al x))) (le-leb r.first (least_multiple al x) (l.lowest (least_multiple al x) (least_multiple-mod al x) free))
        | inr taken_ ↦ or_right (nat_le r.first (least_multiple al x)) (not (is_free top taken (run_from r.pages al x))) (ap not taken_)
      ]) (none_lower l xs)

  pub test_from_lowest : IsLowestFree top taken r al → IsTrue (is_lowest_free top taken r al)
  test_from_lowest l =
      and_from (((r.first % al) == 0) && is_free top taken r) (list_all not_lower (page_starts taken))
      (and_from ((r.first % al) == 0) (is_free top taken r) (eq-eqb (r.first % al) 0 l.aligned) l.free) (none_lower l (page_starts taken))
