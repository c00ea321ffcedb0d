-- Numbers are read again from the words that they are written as.
use Rattle.std.proofs.Common.{◌≡◌, ℕ, ◌<◌, ◌≤◌, ◌^◌, Bool, true, false, List, [], ◌∷◌, ◌++◌, length, ltb, leb, cond, arith, refl, ap, ◌∙◌, Option, Some, None}
use Rattle.std.specs.Prelude.{not, ◌&&◌, position}
use Rattle.std.specs.List.{list_all, position_or_len}
use Rattle.std.specs.Fmt.{decimal}
use Rattle.std.proofs.lemmas.Bool.{and_parts, ltb-true, lt-ltb, leb-true, not-true, cond-true}
use Rattle.std.proofs.lemmas.List.{length-append}
use Rattle.mz_words.specs.Numbers.{are_digits, number_of, is_from, value_of, ◌>>=◌, is_u64, number_from}
use Rattle.mz_words.proofs.NumberLemmas.{is_number-decimal, value_of-decimal, number_parts}

-- the parts of three and of four tests
pub and_three : (a b c : Bool) → (a && b && c) ≡ true → (a ≡ true) × (b ≡ true) × (c ≡ true)
and_three a b c h = let out = and_parts (a && b) c h in let front = and_parts a b out.0 in (front.0, front.1, out.1)

-- numbers
pub number_again : (n : ℕ) → is_u64 n ≡ true → number_of (decimal n) ≡ Some n
number_again n h =
    let lt : n < 2 ^ 64 = ltb-true _ _ h in
    ap (λ (t : Bool). cond t (Some (value_of (decimal n))) None) (is_number-decimal n lt) ∙ ap (λ (v : ℕ). Some v) (value_of-decimal n lt)

pub limited_again : (least most n : ℕ) → is_from least most n ≡ true → most < 2 ^ 64 → number_from least most (decimal n) ≡ Some n
limited_again least most n h lt =
    let parts = and_parts (leb least n) (leb n most) h in
    let top : n ≤ most = leb-true _ _ parts.1 in
    ap (λ (o : Option ℕ). o >>= λ m. cond (is_from least most m) (Some m) None) (number_again n (lt-ltb _ _ (omega arith))) ∙ cond-true _ _ _ h

-- the first place that passes, and none
passes_at :
    (p : ℕ → Bool) (xs : List ℕ) (y : ℕ) (ys : List ℕ) → list_all (λ x. not (p x)) xs ≡ true → p y ≡ true
    → position_or_len p (xs ++ y ∷ ys) ≡ length xs
passes_at p [] y ys h hy = rw hy refl
passes_at p (x ∷ xs) y ys h hy =
    let parts = and_parts (not (p x)) (list_all (λ z. not (p z)) xs) h in
    let fails : p x ≡ false = not-true (p x) parts.0 in
    let rest = passes_at p xs y ys parts.1 hy in
    rw fails (omega (arith, rest))

pub found_at :
    (p : ℕ → Bool) (xs : List ℕ) (y : ℕ) (ys : List ℕ) → list_all (λ x. not (p x)) xs ≡ true → p y ≡ true → position p (xs ++ y ∷ ys) ≡ Some (length xs)
found_at p xs y ys h hy =
    let within : length xs < length (xs ++ y ∷ ys) = omega (arith, length-append xs (y ∷ ys)) in
    ap (λ (n : ℕ). cond (ltb n (length (xs ++ y ∷ ys))) (Some n) None) (passes_at p xs y ys h hy) ∙ cond-true _ _ _ (lt-ltb _ _ within)

pub number_digits : (n : ℕ) → is_u64 n ≡ true → are_digits (decimal n) ≡ true
number_digits n h = (number_parts (decimal n) (is_number-decimal n (ltb-true _ _ h))).digits
