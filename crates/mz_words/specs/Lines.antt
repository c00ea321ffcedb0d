-- Bytes, cut into lines, and lines, cut into words. This project's own.
use Rattle.std.specs.Prelude.{ℕ, ◌==◌, Bool, true, false, nat_le, ◌&&◌, List, [], ◌∷◌, ◌++◌, length, count_by, if◌then◌else◌}
use Rattle.std.specs.List.{list_all, slice_split, join_with_byte}
use Rattle.mz_words.specs.declared.line.RawLine.{RawLine}
use Rattle.mz_words.specs.Numbers.{is_from}

-- Bytes are cut into lines behind each line feed. A line is the bytes before its line feed; the last may have none.
pub record Cut : Type 0 where
  pub text : List ℕ
  pub ended : Bool

abbrev pub longer : ℕ → List Cut → List Cut
longer b [] = record { text = b ∷ []; ended = false } ∷ []
longer b (l ∷ ls) = record { text = b ∷ l.text; ended = l.ended } ∷ ls

abbrev pub cuts : List ℕ → List Cut
cuts [] = []
cuts (b ∷ bs) = if b == 10 then record { text = []; ended = true } ∷ cuts bs else longer b (cuts bs)

-- a line as the code has it
abbrev pub cut_of : RawLine → Cut
cut_of l = record { text = l.text.now; ended = l.ended }

-- a line that can be read at all
abbrev pub is_plain : Cut → Bool
is_plain l = l.ended && nat_le (length l.text) 255 && list_all (is_from 32 126) l.text

-- A line with a line feed and at most 12 words: no line of a run has more, and more are never cut.
abbrev pub is_short : Cut → Bool
is_short l = l.ended && nat_le (count_by (λ b. b == 32) l.text) 11

-- the words of a line are cut at each space
abbrev pub words_of : List ℕ → List (List ℕ)
words_of text = slice_split (λ b. b == 32) text

-- a line of words: one space between each two, and a line feed
abbrev pub line_text : List (List ℕ) → List ℕ
line_text words = join_with_byte 32 words ++ 10 ∷ []

-- the line that these words make
abbrev pub line_of : List (List ℕ) → Cut
line_of words = record { text = join_with_byte 32 words; ended = true }

-- words of bytes that can be seen, which neither spaces nor line feeds are
abbrev pub is_visible : ℕ → Bool
is_visible b = is_from 33 126 b

abbrev pub is_visible_word : List ℕ → Bool
is_visible_word w = list_all is_visible w

abbrev pub are_visible : List (List ℕ) → Bool
are_visible words = list_all is_visible_word words

-- words of at most 21 bytes, as all are but those that show bytes
abbrev pub is_short_word : List ℕ → Bool
is_short_word w = nat_le (length w) 21

abbrev pub are_short : List (List ℕ) → Bool
are_short words = list_all is_short_word words
