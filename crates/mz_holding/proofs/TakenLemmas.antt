-- The lowest free run, by the gaps between the runs that are taken.
use Rattle.std.proofs.Common.{◌≡◌, ℕ, ◌+◌, ◌-◌, ◌*◌, ◌/◌, ◌%◌, ◌^◌, ◌<◌, ◌≤◌, List, [], ◌∷◌, ◌++◌, Bool, true, false, length, min, take, drop, get_or, refl, sym, ap, ◌∙◌, subst, inl, inr, arith}
use Rattle.std.specs.Prelude.{nat_le, nat_lt, ◌&&◌, ◌==◌, IsTrue, ◌↔◌, is_some, Option, Some, None, filter}
use Rattle.std.specs.List.{list_all, insert}
use Rattle.std.proofs.lemmas.Bool.{cases_Bool, cases_lt, cond-true, cond-false, false≢true, leb-true, leb-false, le-leb, ltb-true, lt-ltb, eq-eqb, eqb-true, and_parts, and_from, or_left, or_right, or_cases, false_from_ne_true}
use Rattle.std.proofs.lemmas.Nat.{div-add-mod'}
use Rattle.std.proofs.Math.Nat.{mul-le-mul_right, mul-mod_left}
use Rattle.std.proofs.Common.{append_assoc}
use Rattle.std.proofs.lemmas.List.{at_drop_more, drop_all, take_more}
use Rattle.mz_base.specs.Space.{Run, run_at, runs_apart, least_multiple}
use Rattle.mz_base.specs.Lists.{insert_by}
use Rattle.mz_base.specs.Laws.{IsLeastMultiple}
use Rattle.mz_base.specs.FreeRuns.{IsSomeFree, IsLowestFree}
use Rattle.mz_base.specs.Room.{is_free, has_free, is_lowest_free}
use Rattle.mz_holding.specs.declared.pages.Taken.{Taken}
use Rattle.mz_events.specs.State.{Kept, nothing_kept}
use Rattle.mz_holding.specs.TakenPages.{as_run, runs_of, are_orderly, insert_taken, front_below, lowest_between}

-- ---- multiples

abbrev pub LeastMultiples : Type 0
LeastMultiples = (al x : ℕ) → 0 < al → IsLeastMultiple al x (least_multiple al x)

-- two multiples lie apart
multiples_apart : (al x y : ℕ) → 1 ≤ al → x % al ≡ 0 → y % al ≡ 0 → x < y → x + al ≤ y
multiples_apart al x y some ex ey less =
    let px : x / al * al ≡ x = omega (arith, div-add-mod' x al) in
    let py : y / al * al ≡ y = omega (arith, div-add-mod' y al) in
    elim (cases_lt (x / al) (y / al)) [
      | inl l ↦ let more : x / al + 1 ≤ y / al = omega arith in let up : (x / al + 1) * al ≤ y / al * al = mul-le-mul_right al more in omega arith
      | inr g ↦ let down : y / al * al ≤ x / al * al = mul-le-mul_right al g in absurd (omega arith)
    ]

-- what is missing to a multiple
pub gap_aligned : (x al : ℕ) → 1 ≤ al → (x + (al - x % al)) % al ≡ 0
gap_aligned x al some =
    let parts = div-add-mod' x al in
    let next : x + (al - x % al) ≡ (x / al + 1) * al = omega arith in
    ap (λ m. m % al) next ∙ mul-mod_left (x / al + 1) al

-- a multiple that is less than al above x is the least
pub gap_is : LeastMultiples → (x al gap : ℕ) → 1 ≤ al → (x + gap) % al ≡ 0 → gap < al → x + gap ≡ least_multiple al x
gap_is law x al gap some multiple less =
    let least = law al x (omega arith) in
    let m = least_multiple al x in
    let multiple_m : m % al ≡ 0 = least.multiple in
    let above : x ≤ m = least.above in
    let down : m ≤ x + gap = least.least (x + gap) multiple (omega arith) in
    elim (cases_lt m (x + gap)) [
      | inl l ↦ let far = multiples_apart al m (x + gap) some multiple_m multiple l in absurd (omega arith)
      | inr g ↦ let e : x + gap ≡ m = omega arith in e
    ]

-- ---- orderly lists

pub orderly_parts : (x : ℕ) (t : Taken) (ts : List Taken) → are_orderly x (t ∷ ts) ≡ true → (x ≤ t.first) × (1 ≤ t.pages) × (are_orderly (t.first + t.pages) ts ≡ true)
orderly_parts x t ts h =
    let outer = and_parts (nat_le x t.first && nat_le 1 t.pages) (are_orderly (t.first + t.pages) ts) h in
    let inner = and_parts (nat_le x t.first) (nat_le 1 t.pages) outer.0 in
    (leb-true x t.first inner.0, leb-true 1 t.pages inner.1, outer.1)

pub orderly_from : (x : ℕ) (t : Taken) (ts : List Taken) → x ≤ t.first → 1 ≤ t.pages → are_orderly (t.first + t.pages) ts ≡ true → are_orderly x (t ∷ ts) ≡ true
orderly_from x t ts low some rest = and_from (nat_le x t.first && nat_le 1 t.pages) (are_orderly (t.first + t.pages) ts) (and_from (nat_le x t.first) (nat_le 1 t.pages) (le-leb x t.first low) (le-leb 1 t.pages some)) rest

pub orderly_low : (x : ℕ) (ts : List Taken) → are_orderly x ts ≡ true → x < 2 ^ 63
orderly_low x [] h = ltb-true x (2 ^ 63) h
orderly_low x (t ∷ ts) h = let parts = orderly_parts x t ts h in let low = orderly_low (t.first + t.pages) ts parts.2 in let a = parts.0 in omega arith

-- from a lower number on they are orderly too
pub orderly_lower : (x y : ℕ) (ts : List Taken) → y ≤ x → are_orderly x ts ≡ true → are_orderly y ts ≡ true
orderly_lower x y [] less h = let low = ltb-true x (2 ^ 63) h in lt-ltb y (2 ^ 63) (omega arith)
orderly_lower x y (t ∷ ts) less h = let parts = orderly_parts x t ts h in let a = parts.0 in orderly_from y t ts (omega arith) parts.1 parts.2

-- runs that begin at or above the end of one are apart from it
pub apart_below : (e g w : ℕ) (ts : List Taken) → are_orderly e ts ≡ true → g + w ≤ e → list_all (λ r. runs_apart r (run_at g w)) (runs_of ts) ≡ true
apart_below e g w [] h below = refl
apart_below e g w (t ∷ ts) h below =
    let parts = orderly_parts e t ts h in
    let low : e ≤ t.first = parts.0 in
    and_from (runs_apart (as_run t) (run_at g w)) (list_all (λ r. runs_apart r (run_at g w)) (runs_of ts))
    (or_right (nat_le (t.first + t.pages) g) (nat_le (g + w) t.first) (le-leb (g + w) t.first (omega arith)))
    (apart_below (t.first + t.pages) g w ts parts.2 (omega arith))

-- ---- the lowest free run

abbrev Apart : ℕ → ℕ → List Taken → Type 0
Apart g w ts = list_all (λ r. runs_apart r (run_at g w)) (runs_of ts) ≡ true

-- what the search finds
pub record IsFound (top w al x : ℕ) (ts : List Taken) (g : ℕ) : Type 0 where
  pub above : x ≤ g
  pub aligned : g % al ≡ 0
  pub below : g + w ≤ top
  pub apart : list_all (λ r. runs_apart r (run_at g w)) (runs_of ts) ≡ true

some_is : {A : Type 0} {x y : A} → Some x ≡ Some y → x ≡ y
some_is e = cc

found_at : LeastMultiples → (top limit w al x g : ℕ) (ts : List Taken) → 1 ≤ al → limit ≤ top → least_multiple al x + w ≤ limit → Apart (least_multiple al x) w ts → Some (least_multiple al x) ≡ Some g → IsFound top w al x ts g
found_at law top limit w al x g ts some within fits apart e =
    let same : least_multiple al x ≡ g = some_is e in
    let least = law al x (omega arith) in
    let above = least.above in
    record {
      above = omega arith;
      aligned = ap (λ m. m % al) (sym same) ∙ least.multiple;
      below = omega arith;
      apart = subst (λ (m : ℕ). list_all (λ r. runs_apart r (run_at m w)) (runs_of ts) ≡ true) same apart;
    }

pub found : LeastMultiples → (top w al x : ℕ) (ts : List Taken) (g : ℕ) → 1 ≤ al → are_orderly x ts ≡ true → lowest_between top w al x ts ≡ Some g → IsFound top w al x ts g
unfolding lowest_between
found law top w al x [] g some h e = elim (cases_Bool (nat_le (least_multiple al x + w) top)) [
  | inl yes_ ↦ found_at law top top w al x g [] some (omega arith) (leb-true (least_multiple al x + w) top yes_) refl (sym (cond-true (nat_le (least_multiple al x + w) top) (Some (least_multiple al x)) None yes_) ∙ e)
  | inr no_ ↦ let clash : ◌≡◌ {A = Option ℕ} None (Some g) = sym (cond-false (nat_le (least_multiple al x + w) top) (Some (least_multiple al x)) None no_) ∙ e in cc
]
found law top w al x (t ∷ ts) g some h e =
    let parts = orderly_parts x t ts h in
    let rest = lowest_between top w al (t.first + t.pages) ts in
    elim (cases_Bool (nat_le (least_multiple al x + w) (min t.first top))) [
      | inl yes_ ↦
          let fits = leb-true (least_multiple al x + w) (min t.first top) yes_ in
          let here : Apart (least_multiple al x) w (t ∷ ts) = apart_below t.first (least_multiple al x) w (t ∷ ts) (orderly_from t.first t ts (omega arith) parts.1 parts.2) (omega arith) in
          found_at law top (min t.first top) w al x g (t ∷ ts) some (omega arith) fits here (sym (cond-true (nat_le (least_multiple al x + w) (min t.first top)) (Some (least_multiple al x)) rest yes_) ∙ e)
      | inr no_ ↦
          let later = found law top w al (t.first + t.pages) ts g some parts.2 (sym (cond-false (nat_le (least_multiple al x + w) (min t.first top)) (Some (least_multiple al x)) rest no_) ∙ e) in
          let above = later.above in
          let low = parts.0 in
          record {
            above = omega arith;
            aligned = later.aligned;
            below = later.below;
            apart = and_from (runs_apart (as_run t) (run_at g w)) (list_all (λ r. runs_apart r (run_at g w)) (runs_of ts)) (or_left (nat_le (t.first + t.pages) g) (nat_le (g + w) t.first) (le-leb (t.first + t.pages) g above)) later.apart;
          }
    ]

-- and nothing is lower
pub lowest : LeastMultiples → (top w al x : ℕ) (ts : List Taken) (f : ℕ) → 1 ≤ al → f % al ≡ 0 → x ≤ f → f + w ≤ top → list_all (λ r. runs_apart r (run_at f w)) (runs_of ts) ≡ true → (g : ℕ) × (lowest_between top w al x ts ≡ Some g) × (g ≤ f)
unfolding lowest_between
lowest law top w al x [] f some multiple above below apart =
    let least : least_multiple al x ≤ f = (law al x (omega arith)).least f multiple above in
    (least_multiple al x, cond-true (nat_le (least_multiple al x + w) top) (Some (least_multiple al x)) None (le-leb (least_multiple al x + w) top (omega arith)), least)
lowest law top w al x (t ∷ ts) f some multiple above below apart =
    let least : least_multiple al x ≤ f = (law al x (omega arith)).least f multiple above in
    let rest = lowest_between top w al (t.first + t.pages) ts in
    let both = and_parts (runs_apart (as_run t) (run_at f w)) (list_all (λ r. runs_apart r (run_at f w)) (runs_of ts)) apart in
    elim (cases_Bool (nat_le (least_multiple al x + w) (min t.first top))) [
      | inl yes_ ↦ (least_multiple al x, cond-true (nat_le (least_multiple al x + w) (min t.first top)) (Some (least_multiple al x)) rest yes_, least)
      | inr no_ ↦ elim (or_cases (nat_le (t.first + t.pages) f) (nat_le (f + w) t.first) both.0) [
        | inl behind ↦
            let later = lowest law top w al (t.first + t.pages) ts f some multiple (leb-true (t.first + t.pages) f behind) below both.1 in
            (later.0, cond-false (nat_le (least_multiple al x + w) (min t.first top)) (Some (least_multiple al x)) rest no_ ∙ later.1, later.2)
        | inr before ↦
            let over = leb-false (least_multiple al x + w) (min t.first top) no_ in
            let short = leb-true (f + w) t.first before in
            absurd (omega arith)
      ]
    ]

-- the search is the definition's
abbrev pub SomeFree : Type 0
SomeFree = (top w al : ℕ) (taken : List Run) → 1 ≤ al → IsTrue (has_free top taken w al) ↔ IsSomeFree top taken w al

abbrev pub LowestFree : Type 0
LowestFree = (top al : ℕ) (taken : List Run) (r : Run) → 1 ≤ al → IsTrue (is_lowest_free top taken r al) ↔ IsLowestFree top taken r al

free_parts : (top : ℕ) (taken : List Run) (f w : ℕ) → is_free top taken (run_at f w) ≡ true → (f + w ≤ top) × (list_all (λ t. runs_apart t (run_at f w)) taken ≡ true)
free_parts top taken f w h = let parts = and_parts (nat_le (f + w) top) (list_all (λ t. runs_apart t (run_at f w)) taken) h in (leb-true (f + w) top parts.0, parts.1)

free_from : (top : ℕ) (taken : List Run) (f w : ℕ) → f + w ≤ top → list_all (λ t. runs_apart t (run_at f w)) taken ≡ true → is_free top taken (run_at f w) ≡ true
free_from top taken f w below apart = and_from (nat_le (f + w) top) (list_all (λ t. runs_apart t (run_at f w)) taken) (le-leb (f + w) top below) apart

pub has_free-some : LeastMultiples → SomeFree → (top w al : ℕ) (ts : List Taken) (g : ℕ) → 1 ≤ al → are_orderly 0 ts ≡ true → lowest_between top w al 0 ts ≡ Some g → has_free top (runs_of ts) w al ≡ true
has_free-some law free top w al ts g some h e =
    let is = found law top w al 0 ts g some h e in
    (free top w al (runs_of ts) some).1 (g, is.aligned, free_from top (runs_of ts) g w is.below is.apart)

pub has_free-none : LeastMultiples → SomeFree → (top w al : ℕ) (ts : List Taken) → 1 ≤ al → are_orderly 0 ts ≡ true → lowest_between top w al 0 ts ≡ None → has_free top (runs_of ts) w al ≡ false
has_free-none law free top w al ts some h e = false_from_ne_true (has_free top (runs_of ts) w al) (λ yes_.
    let one = (free top w al (runs_of ts) some).0 yes_ in
    let parts = free_parts top (runs_of ts) one.0 w one.2 in
    let g = lowest law top w al 0 ts one.0 some one.1 (omega arith) parts.0 parts.1 in
    let clash : ◌≡◌ {A = Option ℕ} None (Some g.0) = sym e ∙ g.1 in cc)

pub lowest_free-some : LeastMultiples → LowestFree → (top w al : ℕ) (ts : List Taken) (f g : ℕ) → 1 ≤ al → are_orderly 0 ts ≡ true → lowest_between top w al 0 ts ≡ Some g → is_lowest_free top (runs_of ts) (run_at f w) al ≡ (g == f)
lowest_free-some law free top w al ts f g some h e =
    let is = found law top w al 0 ts g some h e in
    elim (cases_Bool (g == f)) [
      | inl same ↦
          let equal : g ≡ f = eqb-true g f same in
          let at_g : is_lowest_free top (runs_of ts) (run_at g w) al ≡ true = (free top al (runs_of ts) (run_at g w) some).1 (record {
            aligned = is.aligned;
            free = free_from top (runs_of ts) g w is.below is.apart;
            lowest = λ i multiple idle.
                let parts = free_parts top (runs_of ts) i w idle in
                let least = lowest law top w al 0 ts i some multiple (omega arith) parts.0 parts.1 in
                let one : g ≡ least.0 = some_is (sym e ∙ least.1) in
                let low = least.2 in
                omega arith;
          }) in
          ap (λ i. is_lowest_free top (runs_of ts) (run_at i w) al) (sym equal) ∙ at_g ∙ sym same
      | inr other ↦ false_from_ne_true (is_lowest_free top (runs_of ts) (run_at f w) al) (λ yes_.
          let at_f = (free top al (runs_of ts) (run_at f w) some).0 yes_ in
          let parts = free_parts top (runs_of ts) f w at_f.free in
          let least = lowest law top w al 0 ts f some at_f.aligned (omega arith) parts.0 parts.1 in
          let one : g ≡ least.0 = some_is (sym e ∙ least.1) in
          let low = least.2 in
          let high : f ≤ g = at_f.lowest g is.aligned (free_from top (runs_of ts) g w is.below is.apart) in
          false≢true (sym other ∙ eq-eqb g f (omega arith))) ∙ sym other
    ]

pub lowest_free-none : LeastMultiples → LowestFree → (top w al : ℕ) (ts : List Taken) (f : ℕ) → 1 ≤ al → are_orderly 0 ts ≡ true → lowest_between top w al 0 ts ≡ None → is_lowest_free top (runs_of ts) (run_at f w) al ≡ false
lowest_free-none law free top w al ts f some h e = false_from_ne_true (is_lowest_free top (runs_of ts) (run_at f w) al) (λ yes_.
    let at_f = (free top al (runs_of ts) (run_at f w) some).0 yes_ in
    let parts = free_parts top (runs_of ts) f w at_f.free in
    let least = lowest law top w al 0 ts f some at_f.aligned (omega arith) parts.0 parts.1 in
    let clash : ◌≡◌ {A = Option ℕ} None (Some least.0) = sym e ∙ least.1 in cc)

-- ---- one more, and one fewer

-- a run that is apart from those that are taken stands among them
pub orderly_more : (x : ℕ) (t : Taken) (ts : List Taken) → x ≤ t.first → 1 ≤ t.pages → t.first + t.pages < 2 ^ 63 → are_orderly x ts ≡ true → list_all (λ r. runs_apart r (as_run t)) (runs_of ts) ≡ true → are_orderly x (insert_taken t ts) ≡ true
unfolding insert_by
orderly_more x t [] low some high h apart = orderly_from x t [] low some (lt-ltb (t.first + t.pages) (2 ^ 63) high)
orderly_more x t (u ∷ us) low some high h apart =
    let parts = orderly_parts x u us h in
    let both = and_parts (runs_apart (as_run u) (as_run t)) (list_all (λ r. runs_apart r (as_run t)) (runs_of us)) apart in
    let more = parts.1 in
    elim (cases_Bool (nat_lt t.first u.first)) [
      | inl yes_ ↦
          let less = ltb-true t.first u.first yes_ in
          let before : t.first + t.pages ≤ u.first = elim (or_cases (nat_le (u.first + u.pages) t.first) (nat_le (t.first + t.pages) u.first) both.0) [
            | inl behind ↦ let b = leb-true (u.first + u.pages) t.first behind in absurd (omega arith)
            | inr b ↦ leb-true (t.first + t.pages) u.first b
          ] in
          ap (are_orderly x) (cond-true (nat_lt t.first u.first) (t ∷ u ∷ us) (u ∷ insert_taken t us) yes_) ∙ orderly_from x t (u ∷ us) low some (orderly_from (t.first + t.pages) u us before parts.1 parts.2)
      | inr no_ ↦
          let least : u.first ≤ t.first = elim (cases_lt t.first u.first) [ inl l ↦ absurd (false≢true (sym no_ ∙ lt-ltb t.first u.first l)) | inr g ↦ g ] in
          let behind : u.first + u.pages ≤ t.first = elim (or_cases (nat_le (u.first + u.pages) t.first) (nat_le (t.first + t.pages) u.first) both.0) [
            | inl b ↦ leb-true (u.first + u.pages) t.first b
            | inr before ↦ let b = leb-true (t.first + t.pages) u.first before in absurd (omega arith)
          ] in
          ap (are_orderly x) (cond-false (nat_lt t.first u.first) (t ∷ u ∷ us) (u ∷ insert_taken t us) no_) ∙ orderly_from x u (insert_taken t us) parts.0 parts.1 (orderly_more (u.first + u.pages) t us behind some high parts.2 both.1)
    ]

pub runs_more : (t : Taken) (ts : List Taken) → runs_of (insert_taken t ts) ≡ insert_by (λ r. r.first) (as_run t) (runs_of ts)
unfolding insert_by
runs_more t [] = refl
runs_more t (u ∷ us) = elim (cases_Bool (nat_lt t.first u.first)) [
  | inl yes_ ↦ ap runs_of (cond-true (nat_lt t.first u.first) (t ∷ u ∷ us) (u ∷ insert_taken t us) yes_) ∙ sym (cond-true (nat_lt t.first u.first) (as_run t ∷ as_run u ∷ runs_of us) (as_run u ∷ insert_by (λ r. r.first) (as_run t) (runs_of us)) yes_)
  | inr no_ ↦ ap runs_of (cond-false (nat_lt t.first u.first) (t ∷ u ∷ us) (u ∷ insert_taken t us) no_) ∙ ap (λ rs. as_run u ∷ rs) (runs_more t us) ∙ sym (cond-false (nat_lt t.first u.first) (as_run t ∷ as_run u ∷ runs_of us) (as_run u ∷ insert_by (λ r. r.first) (as_run t) (runs_of us)) no_)
]

pub orderly_fewer : (keep : Taken → Bool) (x : ℕ) (ts : List Taken) → are_orderly x ts ≡ true → are_orderly x (filter keep ts) ≡ true
orderly_fewer keep x [] h = h
orderly_fewer keep x (t ∷ ts) h =
    let parts = orderly_parts x t ts h in
    let a = parts.0 in
    elim (cases_Bool (keep t)) [
      | inl yes_ ↦ ap (are_orderly x) (cond-true (keep t) (t ∷ filter keep ts) (filter keep ts) yes_) ∙ orderly_from x t (filter keep ts) parts.0 parts.1 (orderly_fewer keep (t.first + t.pages) ts parts.2)
      | inr no_ ↦ ap (are_orderly x) (cond-false (keep t) (t ∷ filter keep ts) (filter keep ts) no_) ∙ orderly_fewer keep x ts (orderly_lower (t.first + t.pages) x ts (omega arith) parts.2)
    ]

pub runs_fewer : (keep : Taken → Bool) (test : Run → Bool) (ts : List Taken) → ((t : Taken) → keep t ≡ test (as_run t)) → runs_of (filter keep ts) ≡ filter test (runs_of ts)
runs_fewer keep test [] same = refl
runs_fewer keep test (t ∷ ts) same = elim (cases_Bool (keep t)) [
  | inl yes_ ↦ ap runs_of (cond-true (keep t) (t ∷ filter keep ts) (filter keep ts) yes_) ∙ ap (λ rs. as_run t ∷ rs) (runs_fewer keep test ts same) ∙ sym (cond-true (test (as_run t)) (as_run t ∷ filter test (runs_of ts)) (filter test (runs_of ts)) (sym (same t) ∙ yes_))
  | inr no_ ↦ ap runs_of (cond-false (keep t) (t ∷ filter keep ts) (filter keep ts) no_) ∙ runs_fewer keep test ts same ∙ sym (cond-false (test (as_run t)) (as_run t ∷ filter test (runs_of ts)) (filter test (runs_of ts)) (sym (same t) ∙ no_))
]

-- before the first that begins above it
stands_before : (t u : Taken) (us : List Taken) → t.first < u.first → insert_taken t (u ∷ us) ≡ t ∷ u ∷ us
unfolding insert_by
stands_before t u us above = cond-true (nat_lt t.first u.first) (t ∷ u ∷ us) (u ∷ insert_taken t us) (lt-ltb t.first u.first above)

stands_alone : (t : Taken) → insert_taken t [] ≡ t ∷ []
unfolding insert_by
stands_alone t = refl

pub stands_later : (t u : Taken) (us : List Taken) → u.first ≤ t.first → insert_taken t (u ∷ us) ≡ u ∷ insert_taken t us
unfolding insert_by
stands_later t u us below = cond-false (nat_lt t.first u.first) (t ∷ u ∷ us) (u ∷ insert_taken t us) (false_from_ne_true (nat_lt t.first u.first) (λ yes_. let less = ltb-true t.first u.first yes_ in omega arith))

-- ---- what the answers cite

has_free-by : LeastMultiples → SomeFree → (top w al : ℕ) (ts : List Taken) (o : Option ℕ) → 1 ≤ al → are_orderly 0 ts ≡ true → lowest_between top w al 0 ts ≡ o → is_some o ≡ has_free top (runs_of ts) w al
has_free-by law free top w al ts None some h e = sym (has_free-none law free top w al ts some h e)
has_free-by law free top w al ts (Some g) some h e = sym (has_free-some law free top w al ts g some h e)

pub has_free-is : LeastMultiples → SomeFree → (top w al : ℕ) (ts : List Taken) → 1 ≤ al → are_orderly 0 ts ≡ true → is_some (lowest_between top w al 0 ts) ≡ has_free top (runs_of ts) w al
has_free-is law free top w al ts some h = has_free-by law free top w al ts (lowest_between top w al 0 ts) some h refl

-- the gap before the next run, and what lies behind it
pub lowest_here : (top w al x g : ℕ) (t : Taken) (ts : List Taken) → front_below (min t.first top) w al x ≡ Some g → lowest_between top w al x (t ∷ ts) ≡ Some g
unfolding lowest_between
lowest_here top w al x g t ts e = elim (cases_Bool (nat_le (least_multiple al x + w) (min t.first top))) [
  | inl yes_ ↦ cond-true (nat_le (least_multiple al x + w) (min t.first top)) (Some (least_multiple al x)) (lowest_between top w al (t.first + t.pages) ts) yes_ ∙ sym (cond-true (nat_le (least_multiple al x + w) (min t.first top)) (Some (least_multiple al x)) None yes_) ∙ e
  | inr no_ ↦ let clash : ◌≡◌ {A = Option ℕ} None (Some g) = sym (cond-false (nat_le (least_multiple al x + w) (min t.first top)) (Some (least_multiple al x)) None no_) ∙ e in cc
]

pub lowest_on : (top w al x : ℕ) (t : Taken) (ts : List Taken) → front_below (min t.first top) w al x ≡ None → lowest_between top w al x (t ∷ ts) ≡ lowest_between top w al (t.first + t.pages) ts
unfolding lowest_between
lowest_on top w al x t ts e = elim (cases_Bool (nat_le (least_multiple al x + w) (min t.first top))) [
  | inl yes_ ↦ let clash : ◌≡◌ {A = Option ℕ} (Some (least_multiple al x)) None = sym (cond-true (nat_le (least_multiple al x + w) (min t.first top)) (Some (least_multiple al x)) None yes_) ∙ e in cc
  | inr no_ ↦ cond-false (nat_le (least_multiple al x + w) (min t.first top)) (Some (least_multiple al x)) (lowest_between top w al (t.first + t.pages) ts) no_
]

pub lowest_end : (top w al x : ℕ) → front_below top w al x ≡ lowest_between top w al x []
unfolding lowest_between
lowest_end top w al x = refl

-- the front of a gap, by what is missing to a multiple
pub front_fits : (limit w al x gap : ℕ) → x + gap ≡ least_multiple al x → x ≤ limit → w ≤ limit - x → gap ≤ limit - x - w → front_below limit w al x ≡ Some (x + gap)
front_fits limit w al x gap e low wide narrow = cond-true (nat_le (least_multiple al x + w) limit) (Some (least_multiple al x)) None (le-leb (least_multiple al x + w) limit (omega arith)) ∙ ap Some (sym e)

pub front_short : (limit w al x gap : ℕ) → x + gap ≡ least_multiple al x → (x ≤ limit → w ≤ limit - x → gap ≤ limit - x - w → ⊥) → front_below limit w al x ≡ None
front_short limit w al x gap e short = cond-false (nat_le (least_multiple al x + w) limit) (Some (least_multiple al x)) None (false_from_ne_true (nat_le (least_multiple al x + w) limit) (λ yes_. let fits = leb-true (least_multiple al x + w) limit yes_ in short (omega arith) (omega arith) (omega arith)))

-- ---- steps of the search and of an insertion, by index

abbrev none_taken : Taken
none_taken = record { first = 0; pages = 0 }

pub next_parts : (x i : ℕ) (ts : List Taken) → i < length ts → are_orderly x (drop i ts) ≡ true → let t = get_or ts i none_taken in (t.first + t.pages < 2 ^ 63) × (are_orderly (t.first + t.pages) (drop (i + 1) ts) ≡ true)
next_parts x i ts within h =
    let t = get_or ts i none_taken in
    let parts = orderly_parts x t (drop (i + 1) ts) (sym (at_drop_more (are_orderly x) ts i none_taken within) ∙ h) in
    (orderly_low (t.first + t.pages) (drop (i + 1) ts) parts.2, parts.2)

pub search_here : (top w al x i m g : ℕ) (ts : List Taken) → i < length ts → m ≡ min (get_or ts i none_taken).first top → front_below m w al x ≡ Some g → lowest_between top w al x (drop i ts) ≡ Some g
search_here top w al x i m g ts within is e =
    let t = get_or ts i none_taken in
    at_drop_more (lowest_between top w al x) ts i none_taken within ∙ lowest_here top w al x g t (drop (i + 1) ts) (ap (λ l. front_below l w al x) (sym is) ∙ e)

pub search_on : (top w al x i m : ℕ) (ts : List Taken) → i < length ts → m ≡ min (get_or ts i none_taken).first top → front_below m w al x ≡ None → let t = get_or ts i none_taken in lowest_between top w al x (drop i ts) ≡ lowest_between top w al (t.first + t.pages) (drop (i + 1) ts)
search_on top w al x i m ts within is e =
    let t = get_or ts i none_taken in
    at_drop_more (lowest_between top w al x) ts i none_taken within ∙ lowest_on top w al x t (drop (i + 1) ts) (ap (λ l. front_below l w al x) (sym is) ∙ e)

pub search_end : (top w al x i : ℕ) (ts : List Taken) → length ts ≤ i → front_below top w al x ≡ lowest_between top w al x (drop i ts)
search_end top w al x i ts over = lowest_end top w al x ∙ ap (lowest_between top w al x) (sym (drop_all i ts over))

pub insert_on : (t : Taken) (ts : List Taken) (i : ℕ) → i < length ts → (get_or ts i none_taken).first ≤ t.first → insert_taken t ts ≡ take i ts ++ insert_taken t (drop i ts) → insert_taken t ts ≡ take (i + 1) ts ++ insert_taken t (drop (i + 1) ts)
insert_on t ts i within below e =
    let u = get_or ts i none_taken in
    let us = drop (i + 1) ts in
    e ∙ ap (λ xs. take i ts ++ xs) (at_drop_more (insert_taken t) ts i none_taken within ∙ stands_later t u us below)
    ∙ sym (append_assoc (take i ts) (u ∷ []) (insert_taken t us)) ∙ ap (λ xs. xs ++ insert_taken t us) (sym (take_more ts i none_taken within))

pub insert_here : (t : Taken) (ts : List Taken) (i : ℕ) → i < length ts → t.first < (get_or ts i none_taken).first → insert_taken t ts ≡ take i ts ++ insert_taken t (drop i ts) → insert ts i t ≡ insert_taken t ts
insert_here t ts i within above e =
    let u = get_or ts i none_taken in
    let us = drop (i + 1) ts in
    let is : drop i ts ≡ u ∷ us = at_drop_more (λ xs. xs) ts i none_taken within in
    ap (λ xs. take i ts ++ t ∷ xs) is ∙ ap (λ xs. take i ts ++ xs) (sym (stands_before t u us above)) ∙ ap (λ xs. take i ts ++ insert_taken t xs) (sym is) ∙ sym e

pub insert_last : (t : Taken) (ts : List Taken) (i : ℕ) → length ts ≤ i → insert_taken t ts ≡ take i ts ++ insert_taken t (drop i ts) → insert ts i t ≡ insert_taken t ts
insert_last t ts i over e =
    let is = drop_all i ts over in
    ap (λ xs. take i ts ++ t ∷ xs) is ∙ ap (λ xs. take i ts ++ xs) (sym (stands_alone t)) ∙ ap (λ xs. take i ts ++ insert_taken t xs) (sym is) ∙ sym e

-- what the free pages keep, by its parts
pub pages_same : (a b : List Run) (t u s v : ℕ) → a ≡ b → t ≡ u → s ≡ v → ◌≡◌ {A = Kept} (record nothing_kept { taken = a; tiny_regions = t; small_regions = s }) (record nothing_kept { taken = b; tiny_regions = u; small_regions = v })
pages_same a b t u s v p q r = ap (λ (x : List Run). record nothing_kept { taken = x; tiny_regions = t; small_regions = s }) p ∙ ap (λ (x : ℕ). record nothing_kept { taken = b; tiny_regions = x; small_regions = s }) q ∙ ap (λ (x : ℕ). record nothing_kept { taken = b; tiny_regions = u; small_regions = x }) r
