-- Numbers as words: what their digits stand for, and that each is written in one way.
use Rattle.std.proofs.Common.{◌≡◌, ℕ, ◌^◌, ◌<◌, ◌≤◌, true, false, List, [], ◌∷◌, length, get_or, ltb, cond, arith, rules, refl, inl, inr, Some, None, Result, Ok, Err}
use Rattle.std.specs.Prelude.{not, ◌&&◌}
use Rattle.std.specs.List.{list_all}
use Rattle.std.specs.Fmt.{decimal}
use Rattle.std.specs.Result.{OkIff, result_ok}
use Rattle.std.specs.Str.{IsAscii, IsUtf8}
use Rattle.std.specs.Str.Parse.{digits_value, ParsesUnsigned}
use Rattle.std.proofs.lemmas.Bool.{and_parts, and_from, le-ltb, lt-ltb, ltb-true, not-true, not_from_false, cases_lt, ne_eqb}
use Rattle.std.proofs.lemmas.Bool.Decides.{nat_tests}
use Rattle.std.proofs.lemmas.Result.{OkIff-at_ok, OkIff-at_err}
use Rattle.std.proofs.lemmas.Str.{IsUtf8-from_ascii}
use Rattle.std.proofs.lemmas.Str.Ascii.{IsAscii-nil, IsAscii-cons}
use Rattle.std.proofs.lemmas.Str.Parse.{IsNumeralModel, IsDigitsTest, numerals_by_value, parse_digits}
use Rattle.std.proofs.lemmas.Fmt.{digits_decimal, digits_value-decimal, decimal-digits_value, decimal_nonempty, first_decimal, decimal_digit}
use Rattle.mz_base.specs.Names.{is_digit}
use Rattle.mz_words.specs.Numbers.{value_of, are_digits, has_leading_zero, is_number}

abbrev IsDigits : List ℕ → Type 0
IsDigits ds = list_all is_digit ds ≡ true

digits_test : IsDigitsTest IsDigits
digits_test = search rules

pub own : IsNumeralModel IsDigits (digits_value 10)
own = numerals_by_value IsDigits digits_test

pub all_digits : (w : List ℕ) → are_digits w ≡ true → IsDigits w
all_digits [] e = refl
all_digits (c ∷ cs) e = e

pub some_digit : (w : List ℕ) → are_digits w ≡ true → 0 < length w
some_digit [] e = grind arith
some_digit (c ∷ cs) e = omega arith

-- digits are text
digits-IsAscii : (w : List ℕ) → IsDigits w → IsAscii w
digits-IsAscii [] e = IsAscii-nil
digits-IsAscii (c ∷ cs) e =
    IsAscii-cons c cs (grind (arith, nat_tests)) (digits-IsAscii cs (grind (arith, nat_tests)))

pub digits-IsUtf8 : (w : List ℕ) → are_digits w ≡ true → IsUtf8 w
digits-IsUtf8 w e = IsUtf8-from_ascii w (digits-IsAscii w (all_digits w e))

-- what the library reads of digits
decided : {E : Type 0} (n v : ℕ) (r : Result ℕ E) → 0 < n → OkIff r ((0 < n) × (v < 2 ^ 64)) v → result_ok r ≡ cond (ltb v (2 ^ 64)) (Some v) None
decided {E} n v (Ok x) some h =
    let read = OkIff-at_ok {E = E} (Ok x) ((0 < n) × (v < 2 ^ 64)) v x h refl in
    rw (read.1, lt-ltb v (2 ^ 64) read.0.1) refl
decided {E} n v (Err e) some h =
    let large : 2 ^ 64 ≤ v = elim (cases_lt v (2 ^ 64)) [
      | inl lt ↦ absurd (OkIff-at_err (Err e) ((0 < n) × (v < 2 ^ 64)) v e h refl (some, lt))
      | inr le ↦ le
    ] in
    rw (le-ltb v (2 ^ 64) large) refl

pub parsed_value :
    {E : Type 0} (w : List ℕ) (r : Result ℕ E) → are_digits w ≡ true → ParsesUnsigned 64 10 w r
    → result_ok r ≡ cond (ltb (value_of w) (2 ^ 64)) (Some (value_of w)) None
parsed_value w r e h = decided (length w) (value_of w) r (some_digit w e) (parse_digits own 64 w r h (all_digits w e))

-- the parts of the test
pub record IsNumber (w : List ℕ) : Type 0 where
  pub digits : are_digits w ≡ true
  pub plain : has_leading_zero w ≡ false
  pub below : value_of w < 2 ^ 64

pub number_parts : (w : List ℕ) → is_number w ≡ true → IsNumber w
number_parts w e =
    let both = and_parts (are_digits w && not (has_leading_zero w)) (ltb (value_of w) (2 ^ 64)) e in
    let front = and_parts (are_digits w) (not (has_leading_zero w)) both.0 in
    record { digits = front.0; plain = not-true (has_leading_zero w) front.1; below = ltb-true _ _ both.1 }

one_digit : (w : List ℕ) → has_leading_zero w ≡ false → get_or w 0 0 ≡ 48 → 0 < length w → length w ≡ 1
one_digit [] e z h = grind arith
one_digit (c ∷ []) e z h = refl
one_digit (c ∷ d ∷ ds) e z h = grind (arith, nat_tests)

-- a number is how its value is written
pub decimal-value_of : (w : List ℕ) → is_number w ≡ true → decimal (value_of w) ≡ w
decimal-value_of w e =
    let p = number_parts w e in
    decimal-digits_value own w (all_digits w p.digits) (some_digit w p.digits) (λ z. one_digit w p.plain z (some_digit w p.digits)) p.below

digits_again : (w : List ℕ) → IsDigits w → 0 < length w → are_digits w ≡ true
digits_again [] e h = grind arith
digits_again (c ∷ cs) e h = e

first_above : (w : List ℕ) → 48 < get_or w 0 0 → has_leading_zero w ≡ false
first_above [] h = refl
first_above (c ∷ []) h = refl
first_above (c ∷ d ∷ ds) h = ne_eqb c 48 (λ e. absurd (omega arith))

pub plain_decimal : (n : ℕ) → n < 2 ^ 64 → has_leading_zero (decimal n) ≡ false
plain_decimal n lt =
    elim (cases_lt 0 n) [
      | inl positive ↦ first_above (decimal n) (first_decimal n positive lt)
      | inr none ↦ let e : n ≡ 0 = omega arith in rw (e, decimal_digit 0 (omega arith)) refl
    ]

-- what is written of a number's value is a number with that value
pub is_number-decimal : (n : ℕ) → n < 2 ^ 64 → is_number (decimal n) ≡ true
is_number-decimal n lt =
    let digits : are_digits (decimal n) ≡ true = digits_again (decimal n) (digits_decimal own n lt) (decimal_nonempty n lt) in
    and_from _ _ (and_from _ _ digits (not_from_false _ (plain_decimal n lt))) (lt-ltb _ _ (rw (digits_value-decimal own n lt) lt))

pub value_of-decimal : (n : ℕ) → n < 2 ^ 64 → value_of (decimal n) ≡ n
value_of-decimal n lt = digits_value-decimal own n lt
