-- Numbers as words. This project's own.
use Rattle.std.specs.Prelude.{ℕ, ◌^◌, ◌==◌, Bool, false, nat_lt, nat_le, ◌&&◌, not, List, [], ◌∷◌, Option, Some, None, if◌then◌else◌}
use Rattle.std.specs.List.{list_all}
use Rattle.std.specs.Str.Parse.{digits_value}
use Rattle.mz_base.specs.Names.{is_digit}

-- what digits stand for, in base ten
abbrev pub value_of : List ℕ → ℕ
value_of word = digits_value 10 word

-- at least one digit, and nothing else
abbrev pub are_digits : List ℕ → Bool
are_digits [] = false
are_digits (c ∷ cs) = list_all is_digit (c ∷ cs)

-- a 0 in front of other digits
abbrev pub has_leading_zero : List ℕ → Bool
has_leading_zero [] = false
has_leading_zero (c ∷ []) = false
has_leading_zero (c ∷ d ∷ ds) = c == 48

-- a number is `0`, or decimal digits without a leading zero, below 2^64
abbrev pub is_number : List ℕ → Bool
is_number word = are_digits word && not (has_leading_zero word) && nat_lt (value_of word) (2 ^ 64)

-- a number from the least to the most
abbrev pub is_from : ℕ → ℕ → ℕ → Bool
is_from least most n = nat_le least n && nat_le n most

abbrev pub is_number_from : ℕ → ℕ → List ℕ → Bool
is_number_from least most word = is_number word && is_from least most (value_of word)

-- A clause sees a number as any number. These tests say which of them a line can have: below 2^64, and below 2^32 where
-- it is the number of a zone or of a magazine.
abbrev pub is_u64 : ℕ → Bool
is_u64 n = nat_lt n (2 ^ 64)

abbrev pub is_u32 : ℕ → Bool
is_u32 n = nat_lt n (2 ^ 32)

-- one value after another, if there are all
infixl 10 ◌>>=◌
abbrev pub ◌>>=◌ : {A B : Type 0} → Option A → (A → Option B) → Option B
(Some x) >>= f = f x
None >>= f = None

-- the value of a word that is a number, of one within limits, and of the number of one of so many callers
abbrev pub number_of : List ℕ → Option ℕ
number_of word = if is_number word then Some (value_of word) else None

abbrev pub number_from : ℕ → ℕ → List ℕ → Option ℕ
number_from least most word = do
  n ← number_of word
  if is_from least most n then Some n else None

abbrev pub small_number_of : List ℕ → Option ℕ
small_number_of word = number_from 0 4294967295 word

abbrev pub caller_of : ℕ → List ℕ → Option ℕ
caller_of callers word = do
  n ← number_of word
  if nat_lt n callers then Some n else None
