-- Lists in ascending order, and what is in them.
use Rattle.std.proofs.Common.{◌≡◌, ℕ, ◌<◌, ◌≤◌, ◌⊎◌, Bool, true, false, not, List, [], ◌∷◌, ◌++◌, length, refl, ap, sym, subst, ◌∙◌, inl, inr, arith, suc}
use Rattle.std.specs.Prelude.{filter, nat_lt}
use Rattle.std.specs.List.{All, list_any, list_all}
use Rattle.std.proofs.lemmas.Bool.{false≢true, cases_Bool, and_parts, or_cases, or_left, or_right, ltb-true, ltb-false, cond-true, cond-false}
use Rattle.std.proofs.lemmas.List.Elements.{All-nil, All-cons, All-head, All-tail}
use Rattle.mz_base.specs.Lists.{insert_by}
use Rattle.mz_events.specs.Separation.{InOrder}

-- x is an element of the list
abbrev pub IsIn : {A : Type 0} → A → List A → Type 0
IsIn x [] = ⊥
IsIn x (y ∷ ys) = (x ≡ y) ⊎ IsIn x ys

pub all_in : {A : Type 0} (P : A → Type 0) (xs : List A) (x : A) → All P xs → IsIn x xs → P x
all_in P [] x all h = absurd h
all_in P (y ∷ ys) x all (inl e) = subst P (sym e) (All-head P y ys all)
all_in P (y ∷ ys) x all (inr h) = all_in P ys x (All-tail P y ys all) h

pub all_from_in : {A : Type 0} (P : A → Type 0) (xs : List A) → ((x : A) → IsIn x xs → P x) → All P xs
all_from_in P [] f = All-nil P
all_from_in P (y ∷ ys) f = All-cons P y ys (f y (inl refl)) (all_from_in P ys (λ x h. f x (inr h)))

pub in_filter : {A : Type 0} (test : A → Bool) (xs : List A) (x : A) → IsIn x (filter test xs) → IsIn x xs × (test x ≡ true)
in_filter test [] x h = absurd h
in_filter test (y ∷ ys) x h = elim (cases_Bool (test y)) [
  | inl yes_ ↦ elim (subst (λ zs. IsIn x zs) (cond-true (test y) (y ∷ filter test ys) (filter test ys) yes_) h) [
    | inl e ↦ (inl e, ap test e ∙ yes_)
    | inr later ↦ let rest = in_filter test ys x later in (inr rest.0, rest.1)
  ]
  | inr no_ ↦ let rest = in_filter test ys x (subst (λ zs. IsIn x zs) (cond-false (test y) (y ∷ filter test ys) (filter test ys) no_) h) in (inr rest.0, rest.1)
]

pub filter_in : {A : Type 0} (test : A → Bool) (xs : List A) (x : A) → IsIn x xs → test x ≡ true → IsIn x (filter test xs)
filter_in test [] x h yes_ = absurd h
filter_in test (y ∷ ys) x (inl e) yes_ = subst (λ zs. IsIn x zs) (sym (cond-true (test y) (y ∷ filter test ys) (filter test ys) (ap test (sym e) ∙ yes_))) (inl e)
filter_in test (y ∷ ys) x (inr h) yes_ = elim (cases_Bool (test y)) [
  | inl keep ↦ subst (λ zs. IsIn x zs) (sym (cond-true (test y) (y ∷ filter test ys) (filter test ys) keep)) (inr (filter_in test ys x h yes_))
  | inr drop ↦ subst (λ zs. IsIn x zs) (sym (cond-false (test y) (y ∷ filter test ys) (filter test ys) drop)) (filter_in test ys x h yes_)
]

insert_before : {A : Type 0} (key : A → ℕ) (x y : A) (ys : List A) → nat_lt (key x) (key y) ≡ true → insert_by key x (y ∷ ys) ≡ x ∷ y ∷ ys
unfolding insert_by
insert_before key x y ys h = cond-true (nat_lt (key x) (key y)) (x ∷ y ∷ ys) (y ∷ insert_by key x ys) h

insert_behind : {A : Type 0} (key : A → ℕ) (x y : A) (ys : List A) → nat_lt (key x) (key y) ≡ false → insert_by key x (y ∷ ys) ≡ y ∷ insert_by key x ys
unfolding insert_by
insert_behind key x y ys h = cond-false (nat_lt (key x) (key y)) (x ∷ y ∷ ys) (y ∷ insert_by key x ys) h

insert_none : {A : Type 0} (key : A → ℕ) (x : A) → insert_by key x [] ≡ x ∷ []
unfolding insert_by
insert_none key x = refl

pub in_insert : {A : Type 0} (key : A → ℕ) (y : A) (xs : List A) (x : A) → IsIn x (insert_by key y xs) → (x ≡ y) ⊎ IsIn x xs
in_insert key y [] x h = subst (λ zs. IsIn x zs) (insert_none key y) h
in_insert key y (z ∷ zs) x h = elim (cases_Bool (nat_lt (key y) (key z))) [
  | inl less ↦ subst (λ us. IsIn x us) (insert_before key y z zs less) h
  | inr more ↦ elim (subst (λ us. IsIn x us) (insert_behind key y z zs more) h) [
    | inl e ↦ inr (inl e)
    | inr later ↦ elim (in_insert key y zs x later) [ inl e ↦ inl e | inr rest ↦ inr (inr rest) ]
  ]
]

pub insert_new : {A : Type 0} (key : A → ℕ) (y : A) (xs : List A) → IsIn y (insert_by key y xs)
insert_new key y [] = subst (λ us. IsIn y us) (sym (insert_none key y)) (inl refl)
insert_new key y (z ∷ zs) = elim (cases_Bool (nat_lt (key y) (key z))) [
  | inl less ↦ subst (λ us. IsIn y us) (sym (insert_before key y z zs less)) (inl refl)
  | inr more ↦ subst (λ us. IsIn y us) (sym (insert_behind key y z zs more)) (inr (insert_new key y zs))
]

pub insert_old : {A : Type 0} (key : A → ℕ) (y : A) (xs : List A) (x : A) → IsIn x xs → IsIn x (insert_by key y xs)
insert_old key y [] x h = absurd h
insert_old key y (z ∷ zs) x h = elim (cases_Bool (nat_lt (key y) (key z))) [
  | inl less ↦ subst (λ us. IsIn x us) (sym (insert_before key y z zs less)) (inr h)
  | inr more ↦ subst (λ us. IsIn x us) (sym (insert_behind key y z zs more)) (elim h [ inl e ↦ inl e | inr later ↦ inr (insert_old key y zs x later) ])
]

pub length_insert : {A : Type 0} (key : A → ℕ) (y : A) (xs : List A) → length (insert_by key y xs) ≡ suc (length xs)
length_insert key y [] = ap length (insert_none key y)
length_insert key y (z ∷ zs) = elim (cases_Bool (nat_lt (key y) (key z))) [
  | inl less ↦ ap length (insert_before key y z zs less)
  | inr more ↦ ap length (insert_behind key y z zs more) ∙ ap suc (length_insert key y zs)
]

pub in_append : {A : Type 0} (xs ys : List A) (x : A) → IsIn x (xs ++ ys) → IsIn x xs ⊎ IsIn x ys
in_append [] ys x h = inr h
in_append (z ∷ zs) ys x (inl e) = inl (inl e)
in_append (z ∷ zs) ys x (inr h) = elim (in_append zs ys x h) [ inl l ↦ inl (inr l) | inr r ↦ inr r ]

-- what is in a list by a test of equality
module _ {A : Type 0} (same : A → A → Bool) where
  pub in_from_has : ((x y : A) → same x y ≡ true → x ≡ y) → (xs : List A) (x : A) → list_any (same x) xs ≡ true → IsIn x xs
  in_from_has is [] x h = absurd (false≢true h)
  in_from_has is (y ∷ ys) x h = elim (or_cases (same x y) (list_any (same x) ys) h) [
    | inl here ↦ inl (is x y here)
    | inr later ↦ inr (in_from_has is ys x later)
  ]

  pub has_from_in : ((x : A) → same x x ≡ true) → (xs : List A) (x : A) → IsIn x xs → list_any (same x) xs ≡ true
  has_from_in self [] x h = absurd h
  has_from_in self (y ∷ ys) x (inl e) = or_left (same x y) (list_any (same x) ys) (subst (λ z. same x z ≡ true) e (self x))
  has_from_in self (y ∷ ys) x (inr h) = or_right (same x y) (list_any (same x) ys) (has_from_in self ys x h)

-- an element that passes, where some does
pub any_in : {A : Type 0} (test : A → Bool) (xs : List A) → list_any test xs ≡ true → (x : A) × IsIn x xs × (test x ≡ true)
any_in test [] h = absurd (false≢true h)
any_in test (y ∷ ys) h = elim (or_cases (test y) (list_any test ys) h) [
  | inl here ↦ (y, inl refl, here)
  | inr later ↦ let rest = any_in test ys later in (rest.0, inr rest.1, rest.2)
]

pub in_any : {A : Type 0} (test : A → Bool) (xs : List A) (x : A) → IsIn x xs → test x ≡ true → list_any test xs ≡ true
in_any test [] x h t = absurd h
in_any test (y ∷ ys) x (inl e) t = or_left (test y) (list_any test ys) (ap test (sym e) ∙ t)
in_any test (y ∷ ys) x (inr h) t = or_right (test y) (list_any test ys) (in_any test ys x h t)

pub each_in : {A : Type 0} (test : A → Bool) (xs : List A) (x : A) → list_all test xs ≡ true → IsIn x xs → test x ≡ true
each_in test [] x h there = absurd there
each_in test (y ∷ ys) x h (inl e) = ap test e ∙ (and_parts (test y) (list_all test ys) h).0
each_in test (y ∷ ys) x h (inr later) = each_in test ys x (and_parts (test y) (list_all test ys) h).1 later

module _ {A : Type 0} (first end : A → ℕ) where
  -- the first ends at or before the second begins, or the other way
  abbrev pub Beside : A → A → Type 0
  Beside x y = (end x ≤ first y) ⊎ (end y ≤ first x)

  pub order_some : (xs : List A) (x : A) → InOrder first end xs → IsIn x xs → first x < end x
  order_some [] x h there = absurd there
  order_some (y ∷ ys) x h (inl e) = subst (λ z. first z < end z) (sym e) h.0
  order_some (y ∷ ys) x h (inr later) = order_some ys x h.2 later

  pub order_pair : (xs : List A) (x y : A) → InOrder first end xs → IsIn x xs → IsIn y xs → (x ≡ y) ⊎ Beside x y
  order_pair [] x y h there other = absurd there
  order_pair (z ∷ zs) x y h (inl e) (inl f) = inl (e ∙ sym f)
  order_pair (z ∷ zs) x y h (inl e) (inr f) = inr (inl (subst (λ u. end u ≤ first y) (sym e) (all_in (λ u. end z ≤ first u) zs y h.1 f)))
  order_pair (z ∷ zs) x y h (inr e) (inl f) = inr (inr (subst (λ u. end u ≤ first x) (sym f) (all_in (λ u. end z ≤ first u) zs x h.1 e)))
  order_pair (z ∷ zs) x y h (inr e) (inr f) = order_pair zs x y h.2 e f

  pub order_append : (xs ys : List A) → InOrder first end xs → InOrder first end ys → ((x y : A) → IsIn x xs → IsIn y ys → end x ≤ first y) → InOrder first end (xs ++ ys)
  order_append [] ys h g before = g
  order_append (x ∷ xs) ys h g before = (
    h.0,
    all_from_in (λ u. end x ≤ first u) (xs ++ ys) (λ u there. elim (in_append xs ys u there) [ inl l ↦ all_in (λ v. end x ≤ first v) xs u h.1 l | inr r ↦ before x u (inl refl) r ]),
    order_append xs ys h.2 g (λ z y there other. before z y (inr there) other),
  )

  pub order_filter : (test : A → Bool) (xs : List A) → InOrder first end xs → InOrder first end (filter test xs)
  order_filter test [] h = tt
  order_filter test (y ∷ ys) h = elim (cases_Bool (test y)) [
    | inl keep ↦ subst (InOrder first end) (sym (cond-true (test y) (y ∷ filter test ys) (filter test ys) keep))
        (h.0, all_from_in (λ u. end y ≤ first u) (filter test ys) (λ u there. all_in (λ v. end y ≤ first v) ys u h.1 (in_filter test ys u there).0), order_filter test ys h.2)
    | inr drop ↦ subst (InOrder first end) (sym (cond-false (test y) (y ∷ filter test ys) (filter test ys) drop)) (order_filter test ys h.2)
  ]

  pub order_insert : (x : A) (xs : List A) → first x < end x → ((y : A) → IsIn y xs → Beside y x) → InOrder first end xs → InOrder first end (insert_by first x xs)
  order_insert x [] some beside h = subst (InOrder first end) (sym (insert_none first x)) (some, All-nil (λ y. end x ≤ first y), tt)
  order_insert x (y ∷ ys) some beside h = elim (cases_Bool (nat_lt (first x) (first y))) [
    | inl less ↦
        let lower : first x < first y = ltb-true (first x) (first y) less in
        let before : end x ≤ first y = elim (beside y (inl refl)) [ inl l ↦ let here = h.0 in absurd (omega (arith, l)) | inr r ↦ r ] in
        subst (InOrder first end) (sym (insert_before first x y ys less)) (
          some,
          all_from_in (λ u. end x ≤ first u) (y ∷ ys) (λ u there. elim there [
            | inl e ↦ subst (λ v. end x ≤ first v) (sym e) before
            | inr later ↦ let here = h.0 in let more : end y ≤ first u = all_in (λ v. end y ≤ first v) ys u h.1 later in omega arith
          ]),
          h,
        )
    | inr more ↦
        let lower : first y ≤ first x = ltb-false (first x) (first y) more in
        let before : end y ≤ first x = elim (beside y (inl refl)) [ inl l ↦ l | inr r ↦ absurd (omega (arith, r)) ] in
        subst (InOrder first end) (sym (insert_behind first x y ys more)) (
          h.0,
          all_from_in (λ u. end y ≤ first u) (insert_by first x ys) (λ u there. elim (in_insert first x ys u there) [
            | inl e ↦ subst (λ v. end y ≤ first v) (sym e) before
            | inr later ↦ all_in (λ v. end y ≤ first v) ys u h.1 later
          ]),
          order_insert x ys some (λ z there. beside z (inr there)) h.2,
        )
  ]

  -- one more of those that are apart in the list isn't there twice: without it the list is one shorter
  pub length_without : (same : A → A → Bool) (is : (x y : A) → same x y ≡ true → x ≡ y) (self : (x : A) → same x x ≡ true) (xs : List A) (x : A) → InOrder first end xs → IsIn x xs → suc (length (filter (λ y. not (same x y)) xs)) ≡ length xs
  length_without same is self [] x h there = absurd there
  length_without same is self (y ∷ ys) x h (inl e) =
      let here : same x y ≡ true = subst (λ z. same x z ≡ true) e (self x) in
      ap (λ zs. suc (length zs)) (cond-false (not (same x y)) (y ∷ filter (λ z. not (same x z)) ys) (filter (λ z. not (same x z)) ys) (ap not here))
      ∙ ap (λ zs. suc (length zs)) (all_stay ys (λ z there. e_not z there))
    where
      all_stay : (zs : List A) → ((z : A) → IsIn z zs → same x z ≡ false) → filter (λ z. not (same x z)) zs ≡ zs
      all_stay [] f = refl
      all_stay (z ∷ zs) f = cond-true (not (same x z)) (z ∷ filter (λ u. not (same x u)) zs) (filter (λ u. not (same x u)) zs) (ap not (f z (inl refl))) ∙ ap (λ us. z ∷ us) (all_stay zs (λ u there. f u (inr there)))

      e_not : (z : A) → IsIn z ys → same x z ≡ false
      e_not z there = elim (cases_Bool (same x z)) [
        | inl yes_ ↦
            let lower : end y ≤ first z = all_in (λ v. end y ≤ first v) ys z h.1 there in
            let some : first y < end y = h.0 in
            let at : first z ≡ first y = ap first (sym (is x z yes_) ∙ e) in
            absurd (omega arith)
        | inr no_ ↦ no_
      ]
  length_without same is self (y ∷ ys) x h (inr later) =
      let other : same x y ≡ false = elim (cases_Bool (same x y)) [
        | inl yes_ ↦
            let lower : end y ≤ first x = all_in (λ v. end y ≤ first v) ys x h.1 later in
            let some : first y < end y = h.0 in
            let at : first x ≡ first y = ap first (is x y yes_) in
            absurd (omega arith)
        | inr no_ ↦ no_
      ] in
      ap (λ zs. suc (length zs)) (cond-true (not (same x y)) (y ∷ filter (λ z. not (same x z)) ys) (filter (λ z. not (same x z)) ys) (ap not other))
      ∙ ap suc (length_without same is self ys x h.2 later)
