-- The form of names. This project's own.
use Rattle.std.specs.Prelude.{ℕ, Bool, false, List, [], ◌∷◌, length, nat_le, ◌&&◌, ◌||◌, not, codes}
use Rattle.std.specs.List.{list_all}
use Rattle.std.specs.Str.{bytes_eq}

-- a letter from a to z
abbrev pub is_letter : ℕ → Bool
is_letter c = nat_le 97 c && nat_le c 122

-- a digit from 0 to 9
abbrev pub is_digit : ℕ → Bool
is_digit c = nat_le 48 c && nat_le c 57

abbrev pub is_letter_or_digit : ℕ → Bool
is_letter_or_digit c = is_letter c || is_digit c

-- the word that stands for no block, and so is no name
abbrev pub is_null : List ℕ → Bool
is_null word = bytes_eq word (codes "null")

-- A base name is a letter and at most 15 letters or digits after it, and isn't null.
-- The names of zones have this form.
abbrev pub is_base_name : List ℕ → Bool
is_base_name [] = false
is_base_name (c ∷ cs) = is_letter c && list_all is_letter_or_digit cs && nat_le (length cs) 15 && not (is_null (c ∷ cs))
