-- Which region of a shelf has a page.
use Rattle.std.proofs.Common.{◌≡◌, ℕ, ◌+◌, ◌-◌, ◌*◌, ◌/◌, ◌%◌, ◌^◌, ◌<◌, ◌≤◌, ◌==◌, Bool, true, false, List, [], ◌∷◌, Option, None, Some, refl, ap, sym, subst, ◌∙◌, inl, inr, arith}
use Rattle.std.specs.Prelude.{nat_lt, nat_le, ◌&&◌, ◌||◌, find, if◌then◌else◌}
use Rattle.std.specs.Option.{option_map, SomeIff}
use Rattle.std.specs.List.{list_any, list_all}
use Rattle.std.proofs.Math.Nat.{mul-le-mul_right, mod-lt, mul-div_left}
use Rattle.std.proofs.lemmas.Nat.{div-add-mod'}
use Rattle.std.proofs.lemmas.Bool.{and_parts, and_from, cases_Bool, cases_lt, cond-true, cond-false, leb-true, ltb-true, le-leb, lt-ltb, eqb-true, eq-eqb}
use Rattle.mz_base.specs.declared.range.TheConstants.{PAGE}
use Rattle.mz_base.specs.Space.{Run, run_end}
use Rattle.mz_base.specs.Room.{lies_in}
use Rattle.mz_events.specs.Separation.{has_page}
use Rattle.mz_rack.specs.Shelves.{is_formed}

same_tests : (b c : Bool) → (b ≡ true → c ≡ true) → (c ≡ true → b ≡ true) → b ≡ c
same_tests true c f g = sym (f refl)
same_tests false true f g = g refl
same_tests false false f g = refl

-- the page where the stretch of w pages begins that has the page
abbrev pub start_of : ℕ → ℕ → ℕ
start_of w page = page - page % w

-- a multiple of w above another is above it by w
stepped : (w k q : ℕ) → k < q → k * w + w ≤ q * w
stepped w k q less = let step : (k + 1) * w ≤ q * w = mul-le-mul_right w (omega arith) in omega arith

pub record Parts (w : ℕ) (r : Run) : Type 0 where
  pub pages : r.pages ≡ w
  pub first : r.first ≡ r.first / w * w
  pub small : run_end r * PAGE < 2 ^ 63

pub parts_of : (w : ℕ) (r : Run) → is_formed w r ≡ true → Parts w r
parts_of w r h =
    let one = and_parts ((r.pages == w) && (r.first % w == 0)) (nat_lt (run_end r * PAGE) (2 ^ 63)) h in
    let two = and_parts (r.pages == w) (r.first % w == 0) one.0 in
    let whole = eqb-true (r.first % w) 0 two.1 in
    record { pages = eqb-true r.pages w two.0; first = omega (arith, div-add-mod' r.first w, whole); small = ltb-true (run_end r * PAGE) (2 ^ 63) one.1 }

-- where the page's stretch begins is a multiple, and the page lies less than w behind it
start_is : (w page : ℕ) → start_of w page ≡ page / w * w
start_is w page = omega (arith, div-add-mod' page w)

mod_below : (w page : ℕ) → 1 ≤ w → page < page / w * w + w
mod_below w page some = let less = mod-lt page some in omega (arith, div-add-mod' page w)

page_is_in : (w page : ℕ) (r : Run) → 1 ≤ w → is_formed w r ≡ true → has_page r page ≡ (r.first == start_of w page)
page_is_in w page r some h =
    let p = parts_of w r h in
    let pages = p.pages in
    let first = p.first in
    let start = start_is w page in
    let over = mod_below w page some in
    let under = div-add-mod' page w in
    same_tests (has_page r page) (r.first == start_of w page)
    (λ y. let in_it = and_parts (nat_le r.first page) (nat_lt page (run_end r)) y in
    let low = leb-true r.first page in_it.0 in
    let high = ltb-true page (run_end r) in_it.1 in
    eq-eqb r.first (start_of w page) (elim (cases_lt (r.first / w) (page / w)) [
      | inl less ↦ let step = stepped w (r.first / w) (page / w) less in absurd (omega (arith, under))
      | inr no_less ↦ elim (cases_lt (page / w) (r.first / w)) [
        | inl more ↦ let step = stepped w (page / w) (r.first / w) more in absurd (omega (arith, over))
        | inr no_more ↦ let same : r.first / w ≡ page / w = omega arith in first ∙ ap (λ k. k * w) same ∙ sym start
      ]
    ]))
    (λ y. let same = eqb-true r.first (start_of w page) y in
    and_from (nat_le r.first page) (nat_lt page (run_end r)) (le-leb r.first page (omega arith)) (lt-ltb page (run_end r) (omega (arith, over))))

start_lies_in : (w f : ℕ) (r : Run) → 1 ≤ w → f ≡ f / w * w → is_formed w r ≡ true → lies_in r (f * PAGE) (f * PAGE + 1) ≡ (r.first == f)
start_lies_in w f r some start h =
    let p = parts_of w r h in
    let pages = p.pages in
    let first = p.first in
    same_tests (lies_in r (f * PAGE) (f * PAGE + 1)) (r.first == f)
    (λ y. let in_it = and_parts (nat_le (r.first * PAGE) (f * PAGE)) (nat_le (f * PAGE + 1) (run_end r * PAGE)) y in
    let low = leb-true (r.first * PAGE) (f * PAGE) in_it.0 in
    let high = leb-true (f * PAGE + 1) (run_end r * PAGE) in_it.1 in
    let above : r.first ≤ f = omega arith in
    let below : f < r.first + w = omega arith in
    eq-eqb r.first f (elim (cases_lt (r.first / w) (f / w)) [
      | inl less ↦ let step = stepped w (r.first / w) (f / w) less in absurd (omega arith)
      | inr no_less ↦ elim (cases_lt (f / w) (r.first / w)) [
        | inl more ↦ let step = stepped w (f / w) (r.first / w) more in absurd (omega arith)
        | inr no_more ↦ let same : r.first / w ≡ f / w = omega arith in first ∙ ap (λ k. k * w) same ∙ sym start
      ]
    ]))
    (λ y. let same = eqb-true r.first f y in
    and_from (nat_le (r.first * PAGE) (f * PAGE)) (nat_le (f * PAGE + 1) (run_end r * PAGE)) (le-leb (r.first * PAGE) (f * PAGE) (omega arith)) (le-leb (f * PAGE + 1) (run_end r * PAGE) (omega arith)))

abbrev pub pair_of : Run → ℕ × ℕ
pair_of r = (r.first, r.pages)

-- the region that begins at f is the one that has the page, where there is one
pub found_where : (w page : ℕ) (rs : List Run) → 1 ≤ w → list_all (is_formed w) rs ≡ true
    → option_map pair_of (find (λ r. has_page r page) rs) ≡ (if list_any (λ r. r.first == start_of w page) rs then Some (start_of w page, w) else None)
found_where w page [] some h = refl
found_where w page (r ∷ rs) some h =
    let parts = and_parts (is_formed w r) (list_all (is_formed w) rs) h in
    let here = page_is_in w page r some parts.0 in
    let rest = found_where w page rs some parts.1 in
    elim (cases_Bool (r.first == start_of w page)) [
      | inl is_it ↦
          let p = parts_of w r parts.0 in
          let pages = p.pages in
          let same = eqb-true r.first (start_of w page) is_it in
          ap (option_map pair_of) (cond-true (has_page r page) (Some r) (find (λ t. has_page t page) rs) (here ∙ is_it))
          ∙ ap (λ x. Some (x, r.pages)) same ∙ ap (λ x. Some (start_of w page, x)) pages
          ∙ sym (ap (λ b. if b || list_any (λ t. t.first == start_of w page) rs then Some (start_of w page, w) else None) is_it)
      | inr is_not ↦
          ap (option_map pair_of) (cond-false (has_page r page) (Some r) (find (λ t. has_page t page) rs) (here ∙ is_not)) ∙ rest
          ∙ sym (ap (λ b. if b || list_any (λ t. t.first == start_of w page) rs then Some (start_of w page, w) else None) is_not)
    ]

-- some region lies round the first byte of a stretch exactly where one begins there
pub any_begins : (w f : ℕ) (rs : List Run) → 1 ≤ w → f ≡ f / w * w → list_all (is_formed w) rs ≡ true → list_any (λ r. lies_in r (f * PAGE) (f * PAGE + 1)) rs ≡ list_any (λ r. r.first == f) rs
any_begins w f [] some start h = refl
any_begins w f (r ∷ rs) some start h =
    let parts = and_parts (is_formed w r) (list_all (is_formed w) rs) h in
    ap (λ b. b || list_any (λ t. lies_in t (f * PAGE) (f * PAGE + 1)) rs) (start_lies_in w f r some start parts.0)
    ∙ ap (λ b. (r.first == f) || b) (any_begins w f rs some start parts.1)

-- and none begins where addresses no longer fit
pub none_begins : (w f : ℕ) (rs : List Run) → 2 ^ 64 ≤ f * PAGE → list_all (is_formed w) rs ≡ true → list_any (λ r. r.first == f) rs ≡ false
none_begins w f [] far h = refl
none_begins w f (r ∷ rs) far h =
    let parts = and_parts (is_formed w r) (list_all (is_formed w) rs) h in
    let p = parts_of w r parts.0 in
    let small = p.small in
    let other : (r.first == f) ≡ false = elim (cases_Bool (r.first == f)) [
      | inl is_it ↦ let same = eqb-true r.first f is_it in absurd (omega arith)
      | inr is_not ↦ is_not
    ] in
    ap (λ b. b || list_any (λ t. t.first == f) rs) other ∙ none_begins w f rs far parts.1

-- a sum or product that was checked
pub some_is : (P : Type 0) (v : ℕ) {a : ℕ} {o : Option ℕ} → SomeIff o P v → o ≡ Some a → a ≡ v
some_is P v h e = (subst (λ o. SomeIff o P v) e h).1

pub none_is : (P : Type 0) (v : ℕ) {o : Option ℕ} → SomeIff o P v → o ≡ None → ¬ P
none_is P v h e = subst (λ o. SomeIff o P v) e h

-- what the search by the first address of the page's stretch finds
chosen : (w page : ℕ) (rs : List Run) → 1 ≤ w → list_all (is_formed w) rs ≡ true → (b : Bool) → list_any (λ r. r.first == start_of w page) rs ≡ b
    → (if b then Some (start_of w page, w) else None) ≡ option_map pair_of (find (λ r. has_page r page) rs)
chosen w page rs some h b e = sym (found_where w page rs some h ∙ ap (λ c. if c then Some (start_of w page, w) else None) e)

begins : (w page a : ℕ) (rs : List Run) → 1 ≤ w → list_all (is_formed w) rs ≡ true → a ≡ start_of w page * PAGE → list_any (λ r. lies_in r a (a + 1)) rs ≡ list_any (λ r. r.first == start_of w page) rs
begins w page a rs some h at =
    let start = start_is w page in
    let whole : start_of w page ≡ start_of w page / w * w = start ∙ ap (λ k. k * w) (sym (ap (λ x. x / w) start ∙ mul-div_left (page / w) some)) in
    ap (λ x. list_any (λ r. lies_in r x (x + 1)) rs) at ∙ any_begins w (start_of w page) rs some whole h

pub found_so : (v w page a : ℕ) (rs : List Run) → 1 ≤ w → v ≡ w → list_all (is_formed v) rs ≡ true → a ≡ start_of w page * PAGE → list_any (λ r. lies_in r a (a + 1)) rs ≡ true
    → Some (start_of w page, w) ≡ option_map pair_of (find (λ r. has_page r page) rs)
found_so v w page a rs some same h at there =
    let formed = subst (λ x. list_all (is_formed x) rs ≡ true) same h in
    chosen w page rs some formed true (sym (begins w page a rs some formed at) ∙ there)

pub found_not : (v w page a : ℕ) (rs : List Run) → 1 ≤ w → v ≡ w → list_all (is_formed v) rs ≡ true → a ≡ start_of w page * PAGE → list_any (λ r. lies_in r a (a + 1)) rs ≡ false
    → None ≡ option_map pair_of (find (λ r. has_page r page) rs)
found_not v w page a rs some same h at there =
    let formed = subst (λ x. list_all (is_formed x) rs ≡ true) same h in
    chosen w page rs some formed false (sym (begins w page a rs some formed at) ∙ there)

pub found_far : (v w page : ℕ) (rs : List Run) → 1 ≤ w → v ≡ w → list_all (is_formed v) rs ≡ true → ¬ (start_of w page * PAGE < 2 ^ 64)
    → None ≡ option_map pair_of (find (λ r. has_page r page) rs)
found_far v w page rs some same h far =
    let formed = subst (λ x. list_all (is_formed x) rs ≡ true) same h in
    let above : 2 ^ 64 ≤ start_of w page * PAGE = elim (cases_lt (start_of w page * PAGE) (2 ^ 64)) [ inl less ↦ absurd (far less) | inr more ↦ more ] in
    chosen w page rs some formed false (none_begins w (start_of w page) rs above formed)
