-- Bytes as a word of hexadecimal digits, two for each. This project's own.
use Rattle.std.specs.Prelude.{ℕ, ◌+◌, ◌*◌, ◌-◌, ◌/◌, ◌%◌, nat_lt, Bool, ◌&&◌, List, [], ◌∷◌, Option, Some, None, length, if◌then◌else◌}
use Rattle.std.specs.List.{flat_map, list_all}
use Rattle.mz_words.specs.Numbers.{is_from, ◌>>=◌}

abbrev pub hex_digit : ℕ → ℕ
hex_digit n = if nat_lt n 10 then 48 + n else 87 + n

abbrev pub hex_byte : ℕ → List ℕ
hex_byte b = hex_digit (b / 16) ∷ hex_digit (b % 16) ∷ []

abbrev pub hex_word : List ℕ → List ℕ
hex_word bytes = flat_map hex_byte bytes

-- from 1 to 64 bytes
abbrev pub are_shown : List ℕ → Bool
are_shown bytes = list_all (is_from 0 255) bytes && is_from 1 64 (length bytes)

-- the bytes that a word is
abbrev pub hex_value : ℕ → Option ℕ
hex_value c = if is_from 48 57 c then Some (c - 48) else if is_from 97 102 c then Some (c - 87) else None

abbrev pub bytes_of : List ℕ → Option (List ℕ)
bytes_of [] = Some []
bytes_of (a ∷ []) = None
bytes_of (a ∷ b ∷ word) = hex_value a >>= λ h. hex_value b >>= λ l. bytes_of word >>= λ bs. Some ((16 * h + l) ∷ bs)

abbrev pub shown_of : List ℕ → Option (List ℕ)
shown_of word = bytes_of word >>= λ bs. if is_from 1 64 (length bs) then Some bs else None
