-- A test that tells a request that no other caller disturbs, for the worked examples.
use Rattle.std.proofs.Common.{◌≡◌, ℕ, Bool, true, not, refl, List, [], ◌∷◌, ap, sym, subst, ◌∙◌, inl, inr, ◌⊎◌, arith}
use Rattle.std.specs.Prelude.{◌==◌, ◌||◌, nat_lt, Contains}
use Rattle.std.specs.List.{list_any, list_all}
use Rattle.std.proofs.lemmas.Bool.{eqb-true, lt-ltb, and_parts, or_cases, false≢true}
use Rattle.std.proofs.lemmas.List.Elements.{Contains-append_cases, Contains-push_cases}
use Rattle.mz_base.specs.declared.profile.Profile.{Profile}
use Rattle.mz_events.specs.declared.entry.Entry.{Entry}
use Rattle.mz_events.specs.declared.place.Place.{Place}
use Rattle.mz_events.specs.declared.place.Place.TheVariants.{Pages, Tiny, TinyDepot, Small, SmallDepot, Large, Nano}
use Rattle.mz_events.specs.Places.{Spot, keeper_at, nano_page, same_place, same_spot}
use Rattle.mz_events.specs.Effect.{touched}
use Rattle.mz_record.specs.Served.{is_dry, IsUndisturbed}

-- an element of a list is its first, or one of the others
pub contains_first : {A : Type 0} (y : A) (ys : List A) (x : A) → Contains (y ∷ ys) x → (y ≡ x) ⊎ Contains ys x
contains_first {A = A} y ys x contains =
    elim (Contains-append_cases (y ∷ []) ys x contains) [
      | inl here ↦ elim (Contains-push_cases [] y x here) [
        | inl nowhere ↦ absurd (let low = nowhere.1 in omega arith)
        | inr same ↦ inl same
      ]
      | inr there ↦ inr there
    ]

pub contains_none : {A : Type 0} (x : A) (P : Type 0) → Contains [] x → P
contains_none x P nowhere = absurd (let low = nowhere.1 in omega arith)

-- what is tested of all is so of each
pub all_at : {A : Type 0} (test : A → Bool) (xs : List A) (x : A) → list_all test xs ≡ true → Contains xs x → test x ≡ true
all_at test [] x all contains = contains_none x _ contains
all_at {A = A} test (y ∷ ys) x all contains =
    let parts = and_parts (test y) (list_all test ys) all in
    elim (contains_first y ys x contains) [
      | inl same ↦ subst (λ (z : A). test z ≡ true) same parts.0
      | inr there ↦ all_at test ys x parts.1 there
    ]

places_same : (j k : Place) → same_place j k ≡ true → j ≡ k
places_same Pages Pages same = refl
places_same (Tiny z m) (Tiny y n) same = let both = and_parts (z == y) (m == n) same in rw (eqb-true z y both.0, eqb-true m n both.1) refl
places_same (TinyDepot z) (TinyDepot y) same = ap TinyDepot (eqb-true z y same)
places_same (Small z m) (Small y n) same = let both = and_parts (z == y) (m == n) same in rw (eqb-true z y both.0, eqb-true m n both.1) refl
places_same (SmallDepot z) (SmallDepot y) same = ap SmallDepot (eqb-true z y same)
places_same (Large z) (Large y) same = ap Large (eqb-true z y same)
places_same Nano Nano same = refl
places_same _ _ same = absurd (false≢true same)

pub spots_same : (j k : Spot) → same_spot j k ≡ true → j ≡ k
spots_same (keeper_at j) (keeper_at k) same = ap keeper_at (places_same j k same)
spots_same (nano_page i) (nano_page j) same = ap nano_page (eqb-true i j same)
spots_same _ _ same = absurd (false≢true same)

-- no spot stands in both
abbrev pub are_other : List Spot → List Spot → Bool
are_other js ks = list_all (λ k. not (list_any (same_spot k) js)) ks

not_other : (js ks : List Spot) (j : Spot) → are_other js ks ≡ true → list_any (same_spot j) js ≡ true → list_any (same_spot j) ks ≡ true → ⊥
not_other js [] j other here there = false≢true there
not_other js (k ∷ ks) j other here there =
    let parts = and_parts (not (list_any (same_spot k) js)) (are_other js ks) other in
    elim (or_cases (same_spot j k) (list_any (same_spot j) ks) there) [
      | inl same ↦
          let both : list_any (same_spot k) js ≡ true = subst (λ (i : Spot). list_any (same_spot i) js ≡ true) (spots_same j k same) here in
          false≢true (sym (ap not both) ∙ parts.0)
      | inr rest ↦ not_other js ks j parts.1 here rest
    ]

-- x is the caller's, or comes before e, or behind d, or touches no spot that e touches
abbrev pub is_no_harm : Profile → ℕ → Entry → Entry → Entry → Bool
is_no_harm p c e d x =
    (x.caller == c) || (not (is_dry d.event) || (not (nat_lt e.ticket x.ticket) || (not (nat_lt x.ticket d.ticket) || are_other (touched p e.event) (touched p x.event))))

abbrev pub no_harm : Profile → List Entry → ℕ → List Entry → Bool
no_harm p h c es = list_all (λ e. list_all (λ d. list_all (λ x. is_no_harm p c e d x) h) es) es

pub flipped : (b : Bool) → b ≡ true → not b ≡ true → ⊥
flipped b holds denied = false≢true (sym (ap not holds) ∙ denied)

pub undisturbed_by_test : (p : Profile) (h : List Entry) (c : ℕ) (es : List Entry) → no_harm p h c es ≡ true → IsUndisturbed p h c es
undisturbed_by_test p h c es harmless x j at_x there within =
    let e = within.earlier in
    let d = within.dry in
    let of_e = all_at (λ a. list_all (λ b. list_all (λ y. is_no_harm p c a b y) h) es) es e harmless within.has_earlier in
    let of_d = all_at (λ b. list_all (λ y. is_no_harm p c e b y) h) es d of_e within.has_dry in
    let of_x : is_no_harm p c e d x ≡ true = all_at (λ y. is_no_harm p c e d y) h x of_d at_x in
    elim (or_cases (x.caller == c) _ of_x) [
      | inl mine ↦ eqb-true x.caller c mine
      | inr o1 ↦ elim (or_cases (not (is_dry d.event)) _ o1) [
        | inl denied ↦ absurd (flipped (is_dry d.event) within.is_dry denied)
        | inr o2 ↦ elim (or_cases (not (nat_lt e.ticket x.ticket)) _ o2) [
          | inl denied ↦ absurd (flipped (nat_lt e.ticket x.ticket) (lt-ltb e.ticket x.ticket within.behind) denied)
          | inr o3 ↦ elim (or_cases (not (nat_lt x.ticket d.ticket)) _ o3) [
            | inl denied ↦ absurd (flipped (nat_lt x.ticket d.ticket) (lt-ltb x.ticket d.ticket within.before) denied)
            | inr other ↦ absurd (not_other (touched p e.event) (touched p x.event) j other within.touched there)
          ]
        ]
      ]
    ]
