-- Lists of runs: which are there, and tests over them.
use Rattle.std.proofs.Common.{◌≡◌, ℕ, ◌+◌, ◌<◌, ◌≤◌, Bool, true, false, List, [], ◌∷◌, refl, sym, ap, ◌∙◌, inl, inr, arith}
use Rattle.std.specs.Prelude.{◌==◌, ◌||◌, nat_le}
use Rattle.std.specs.List.{All, list_any, list_all}
use Rattle.std.proofs.lemmas.Bool.{cases_Bool, cond-true, cond-false, false≢true, and_parts, and_from, or_cases, or_left, or_right, eqb-true, eq-eqb, ne_eqb}
use Rattle.std.proofs.lemmas.List.Elements.{All-head, All-tail}
use Rattle.mz_base.specs.Space.{Run, run_at, run_end, runs_apart, same_run}
use Rattle.mz_base.specs.Lists.{has_run}
use Rattle.mz_events.specs.Separation.{InOrder}
use Rattle.mz_events.specs.Changes.{region_at}

pub same_run-true : (r t : Run) → same_run r t ≡ true → r ≡ t
same_run-true r t h =
    let parts = and_parts (r.first == t.first) (r.pages == t.pages) h in
    let a = eqb-true r.first t.first parts.0 in
    let b = eqb-true r.pages t.pages parts.1 in
    ap (λ (f : ℕ). run_at f r.pages) a ∙ ap (λ (w : ℕ). run_at t.first w) b

pub same_run-refl : (r : Run) → same_run r r ≡ true
same_run-refl r = and_from (r.first == r.first) (r.pages == r.pages) (eq-eqb r.first r.first refl) (eq-eqb r.pages r.pages refl)

-- what each run of a list meets, one that is there meets
pub all_run : (test : Run → Bool) (rs : List Run) (r : Run) → list_all test rs ≡ true → has_run rs r ≡ true → test r ≡ true
all_run test [] r all there = absurd (false≢true there)
all_run test (t ∷ rs) r all there =
    let parts = and_parts (test t) (list_all test rs) all in
    elim (or_cases (same_run r t) (has_run rs r) there) [
      | inl here ↦ ap test (same_run-true r t here) ∙ parts.0
      | inr later ↦ all_run test rs r parts.1 later
    ]

pub each_run : (test : Run → Bool) (rs : List Run) → ((r : Run) → has_run rs r ≡ true → test r ≡ true) → list_all test rs ≡ true
each_run test [] f = refl
each_run test (t ∷ rs) f = and_from (test t) (list_all test rs) (f t (or_left (same_run t t) (has_run rs t) (same_run-refl t))) (each_run test rs (λ r there. f r (or_right (same_run r t) (has_run rs r) there)))

pub first_there : (rs : List Run) (r : Run) → has_run rs r ≡ true → list_any (λ t. t.first == r.first) rs ≡ true
first_there [] r there = absurd (false≢true there)
first_there (t ∷ rs) r there = elim (or_cases (same_run r t) (has_run rs r) there) [
  | inl here ↦ or_left (t.first == r.first) (list_any (λ u. u.first == r.first) rs) (eq-eqb t.first r.first (ap (λ (u : Run). u.first) (sym (same_run-true r t here))))
  | inr later ↦ or_right (t.first == r.first) (list_any (λ u. u.first == r.first) rs) (first_there rs r later)
]

-- the run that begins at a page where one does
pub region_there : (rs : List Run) (f : ℕ) → list_any (λ t. t.first == f) rs ≡ true → (has_run rs (region_at rs f) ≡ true) × ((region_at rs f).first ≡ f)
region_there [] f there = absurd (false≢true there)
region_there (t ∷ rs) f there = elim (cases_Bool (t.first == f)) [
  | inl here ↦
      let is : region_at (t ∷ rs) f ≡ t = cond-true (t.first == f) t (region_at rs f) here in
      (or_left (same_run (region_at (t ∷ rs) f) t) (has_run rs (region_at (t ∷ rs) f)) (ap (λ (u : Run). same_run u t) is ∙ same_run-refl t), ap (λ (u : Run). u.first) is ∙ eqb-true t.first f here)
  | inr other ↦
      let is : region_at (t ∷ rs) f ≡ region_at rs f = cond-false (t.first == f) t (region_at rs f) other in
      let rest = region_there rs f (elim (or_cases (t.first == f) (list_any (λ u. u.first == f) rs) there) [ inl h ↦ absurd (false≢true (sym other ∙ h)) | inr h ↦ h ]) in
      (ap (λ (u : Run). has_run (t ∷ rs) u) is ∙ or_right (same_run (region_at rs f) t) (has_run rs (region_at rs f)) rest.0, ap (λ (u : Run). u.first) is ∙ rest.1)
]

all_below : (n : ℕ) (rs : List Run) (r : Run) → All (λ t. n ≤ t.first) rs → has_run rs r ≡ true → n ≤ r.first
all_below n [] r all there = absurd (false≢true there)
all_below n (t ∷ rs) r all there = elim (or_cases (same_run r t) (has_run rs r) there) [
  | inl here ↦ let low : n ≤ t.first = All-head (λ u. n ≤ u.first) t rs all in let same : r.first ≡ t.first = ap (λ (u : Run). u.first) (same_run-true r t here) in omega arith
  | inr later ↦ all_below n rs r (All-tail (λ u. n ≤ u.first) t rs all) later
]

-- in an ascending list a run that is there is the one that begins at its first page
pub region_is : (rs : List Run) (r : Run) → InOrder (λ t. t.first) run_end rs → has_run rs r ≡ true → region_at rs r.first ≡ r
region_is [] r order there = absurd (false≢true there)
region_is (t ∷ rs) r order there = elim (or_cases (same_run r t) (has_run rs r) there) [
  | inl here ↦
      let is : r ≡ t = same_run-true r t here in
      cond-true (t.first == r.first) t (region_at rs r.first) (eq-eqb t.first r.first (ap (λ (u : Run). u.first) (sym is))) ∙ sym is
  | inr later ↦
      let some : t.first < run_end t = order.0 in
      let high : run_end t ≤ r.first = all_below (run_end t) rs r order.1 later in
      cond-false (t.first == r.first) t (region_at rs r.first) (ne_eqb t.first r.first (λ same. omega arith)) ∙ region_is rs r order.2 later
]

pub some_pages : (rs : List Run) (r : Run) → InOrder (λ t. t.first) run_end rs → has_run rs r ≡ true → 1 ≤ r.pages
some_pages [] r order there = absurd (false≢true there)
some_pages (t ∷ rs) r order there = elim (or_cases (same_run r t) (has_run rs r) there) [
  | inl here ↦ let some : t.first < t.first + t.pages = order.0 in let same : r.pages ≡ t.pages = ap (λ (u : Run). u.pages) (same_run-true r t here) in omega arith
  | inr later ↦ some_pages rs r order.2 later
]

or_turned : (a b : Bool) → (a || b) ≡ true → (b || a) ≡ true
or_turned true true h = refl
or_turned true false h = refl
or_turned false true h = refl
or_turned false false h = h

pub apart_turned : (r t : Run) → runs_apart r t ≡ true → runs_apart t r ≡ true
apart_turned r t h = or_turned (nat_le (run_end r) t.first) (nat_le (run_end t) r.first) h
