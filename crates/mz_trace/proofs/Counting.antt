-- How many of a list's elements pass a test.
use Rattle.std.proofs.Common.{◌≡◌, ℕ, ◌+◌, Bool, true, false, List, [], ◌∷◌, ◌++◌, cond, arith, refl, ◌∙◌}
use Rattle.std.specs.Prelude.{count_by}
use Rattle.std.proofs.lemmas.List.Sums.{sum_by-append, sum_by-cons}

added : (b : Bool) (n : ℕ) → cond b 1 0 + n ≡ cond b (n + 1) n
added true n = omega arith
added false n = omega arith

pub count_more : {A : Type 0} (p : A → Bool) (x : A) (xs : List A) → count_by p (x ∷ xs) ≡ cond (p x) (count_by p xs + 1) (count_by p xs)
count_more p x xs = sum_by-cons (λ y. cond (p y) 1 0) x xs ∙ added (p x) (count_by p xs)

pub count_by-append : {A : Type 0} (p : A → Bool) (xs ys : List A) → count_by p (xs ++ ys) ≡ count_by p xs + count_by p ys
count_by-append p xs ys = sum_by-append (λ x. cond (p x) 1 0) xs ys

pub count_by-push : {A : Type 0} (p : A → Bool) (xs : List A) (x : A) → count_by p (xs ++ x ∷ []) ≡ count_by p xs + cond (p x) 1 0
count_by-push p xs x = count_by-append p xs (x ∷ []) ∙ rw (count_more p x []) (single (p x) (count_by p xs)) where
  single : (b : Bool) (n : ℕ) → n + cond b 1 0 ≡ n + cond b 1 0
  single b n = refl
