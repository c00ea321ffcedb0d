-- Lists, tests and keeper numbers.
use Rattle.std.proofs.Common.{◌≡◌, ◌≢◌, ℕ, ◌<◌, ◌==◌, Bool, true, false, cond, not, ◌⊎◌, List, [], ◌∷◌, ◌++◌, length, get_or, set, refl, sym, ap, ◌∙◌, arith, eq-eqb, inl, inr, ⊎_elim, zero, suc}
use Rattle.std.specs.Prelude.{◌||◌}
use Rattle.std.proofs.lemmas.Bool.{false≢true, eqb-true}
use mathlib.Core.Option as m
use mathlib.Core.Option.{some-ne-none, some-injective}
use lib.ListN.{get_elem?}
use Rattle.mz_book.specs.Keepers.{is_among}
use Rattle.mz_book.specs.Calls.{without}

pub or_either : (a b : Bool) → (a || b) ≡ true → (a ≡ true) ⊎ (b ≡ true)
or_either true b h = inl refl
or_either false b h = inr h

pub or_left : (a b : Bool) → a ≡ true → (a || b) ≡ true
or_left a b h = ap (λ z. z || b) h

pub or_right : (a b : Bool) → b ≡ true → (a || b) ≡ true
or_right true b h = refl
or_right false b h = h

pub or_again : (a b d : Bool) → (a || (b || d)) ≡ ((a || b) || d)
or_again true b d = refl
or_again false b d = refl

pub among_append : (xs ys : List ℕ) (j : ℕ) → is_among (xs ++ ys) j ≡ (is_among xs j || is_among ys j)
among_append [] ys j = refl
among_append (x ∷ xs) ys j = ap (λ b. (x == j) || b) (among_append xs ys j) ∙ or_again (x == j) (is_among xs j) (is_among ys j)

pub among_one : (k j : ℕ) → is_among (k ∷ []) j ≡ true → j ≡ k
among_one k j h = ⊎_elim (λ (t : (k == j) ≡ true). sym (eqb-true k j t)) (λ (t : false ≡ true). absurd (false≢true t)) (or_either (k == j) false h)

pub one_among : (k : ℕ) → is_among (k ∷ []) k ≡ true
one_among k = or_left (k == k) false (eq-eqb k k refl)

without_case : (j k x : ℕ) (b : Bool) (xs : List ℕ) → (x == k) ≡ b → (is_among (without k xs) j ≡ true → (is_among xs j ≡ true) × (j ≢ k)) → is_among (cond (not b) (x ∷ without k xs) (without k xs)) j ≡ true → (is_among (x ∷ xs) j ≡ true) × (j ≢ k)
without_case j k x true xs e f h = let t = f h in (or_right (x == j) (is_among xs j) t.0, t.1)
without_case j k x false xs e f h = ⊎_elim
    (λ (t : (x == j) ≡ true). (or_left (x == j) (is_among xs j) t, λ (y : j ≡ k). false≢true (sym e ∙ eq-eqb x k (eqb-true x j t ∙ y))))
    (λ (t : is_among (without k xs) j ≡ true). let o = f t in (or_right (x == j) (is_among xs j) o.0, o.1))
    (or_either (x == j) (is_among (without k xs) j) h)

pub without_less : (k : ℕ) (xs : List ℕ) (j : ℕ) → is_among (without k xs) j ≡ true → (is_among xs j ≡ true) × (j ≢ k)
without_less k [] j h = absurd (false≢true h)
without_less k (x ∷ xs) j h = without_case j k x (x == k) xs refl (without_less k xs j) h

more_case : (j k x : ℕ) (b : Bool) (xs : List ℕ) → (x == k) ≡ b → j ≢ k → (is_among xs j ≡ true → is_among (without k xs) j ≡ true) → is_among (x ∷ xs) j ≡ true → is_among (cond (not b) (x ∷ without k xs) (without k xs)) j ≡ true
more_case j k x true xs e n f h = ⊎_elim
    (λ (t : (x == j) ≡ true). absurd (n (sym (eqb-true x j t) ∙ eqb-true x k e)))
    f (or_either (x == j) (is_among xs j) h)
more_case j k x false xs e n f h = ⊎_elim
    (λ (t : (x == j) ≡ true). or_left (x == j) (is_among (without k xs) j) t)
    (λ (t : is_among xs j ≡ true). or_right (x == j) (is_among (without k xs) j) (f t))
    (or_either (x == j) (is_among xs j) h)

pub without_more : (k : ℕ) (xs : List ℕ) (j : ℕ) → is_among xs j ≡ true → j ≢ k → is_among (without k xs) j ≡ true
without_more k [] j h n = absurd (false≢true h)
without_more k (x ∷ xs) j h n = more_case j k x (x == k) xs refl n (λ t. without_more k xs j t n) h

module _ {A : Type 0} where
  pub set_there : (l : List A) (i : ℕ) (a b : A) → get_elem? l i ≡ m.some a → get_elem? (set l i b) i ≡ m.some b
  set_there [] i a b e = absurd (some-ne-none a (sym e))
  set_there (x ∷ xs) zero a b e = refl
  set_there (x ∷ xs) (suc i) a b e = set_there xs i a b e

  pub at_length : (l : List A) (i : ℕ) (a : A) → get_elem? l i ≡ m.some a → i < length l
  at_length [] i a e = absurd (some-ne-none a (sym e))
  at_length (x ∷ xs) zero a e = omega arith
  at_length (x ∷ xs) (suc i) a e = let t = at_length xs i a e in omega arith

  pub snoc_at : (l : List A) (a b : A) (j : ℕ) → get_elem? (l ++ a ∷ []) j ≡ m.some b → (get_elem? l j ≡ m.some b) ⊎ ((j ≡ length l) × (a ≡ b))
  snoc_at [] a b zero e = inr (refl, some-injective a b e)
  snoc_at [] a b (suc j) e = absurd (some-ne-none b (sym e))
  snoc_at (x ∷ xs) a b zero e = inl e
  snoc_at (x ∷ xs) a b (suc j) e = ⊎_elim (λ (t : get_elem? xs j ≡ m.some b). inl t) (λ (t : (j ≡ length xs) × (a ≡ b)). inr (ap suc t.0, t.1)) (snoc_at xs a b j e)

pub some_below : (xs : List ℕ) (b : ℕ) → get_or xs b 0 ≢ 0 → b < length xs
some_below [] b n = absurd (n refl)
some_below (x ∷ xs) zero n = omega arith
some_below (x ∷ xs) (suc b) n = let t = some_below xs b n in omega arith
