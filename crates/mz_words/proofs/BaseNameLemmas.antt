-- A name is text.
use Rattle.std.proofs.Common.{◌≡◌, ℕ, ◌<◌, true, List, [], ◌∷◌, arith}
use Rattle.std.specs.List.{list_all}
use Rattle.std.specs.Str.{IsAscii, IsUtf8}
use Rattle.std.proofs.lemmas.Bool.Decides.{nat_tests}
use Rattle.std.proofs.lemmas.Str.{IsUtf8-from_ascii}
use Rattle.std.proofs.lemmas.Str.Ascii.{IsAscii-nil, IsAscii-cons}
use Rattle.mz_base.specs.Names.{is_letter, is_letter_or_digit, is_base_name}

-- letters and digits are below 128
letter_or_digit-below : (c : ℕ) → is_letter_or_digit c ≡ true → c < 128
letter_or_digit-below c h = grind (arith, nat_tests)

pub letters_or_digits-IsAscii : (cs : List ℕ) → list_all is_letter_or_digit cs ≡ true → IsAscii cs
letters_or_digits-IsAscii [] h = IsAscii-nil
letters_or_digits-IsAscii (c ∷ cs) h =
    IsAscii-cons c cs (letter_or_digit-below c (grind (arith, nat_tests))) (letters_or_digits-IsAscii cs (grind (arith, nat_tests)))

-- the first byte of a name is a letter, and the others are letters or digits
pub is_base_name-IsAscii : (bs : List ℕ) → is_base_name bs ≡ true → IsAscii bs
is_base_name-IsAscii [] h = IsAscii-nil
is_base_name-IsAscii (c ∷ cs) h =
    let first : is_letter c ≡ true = grind (arith, nat_tests) in
    let others : list_all is_letter_or_digit cs ≡ true = grind (arith, nat_tests) in
    IsAscii-cons c cs (grind (arith, nat_tests)) (letters_or_digits-IsAscii cs others)

-- so a name is text
pub is_base_name-IsUtf8 : (bs : List ℕ) → is_base_name bs ≡ true → IsUtf8 bs
is_base_name-IsUtf8 bs h = IsUtf8-from_ascii bs (is_base_name-IsAscii bs h)
