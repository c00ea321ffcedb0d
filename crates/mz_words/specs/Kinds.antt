-- The kinds of words: how a word of each kind is written and read. This project's own.
use Rattle.std.specs.Prelude.{ℕ, Bool, true, false, nat_lt, ◌&&◌, List, Option, Some, None}
use Rattle.std.specs.Fmt.{decimal}
use Rattle.mz_base.specs.Names.{is_base_name}
use Rattle.mz_words.specs.declared.count.TheConstants.{MOST_IN_BATCH}
use Rattle.mz_words.specs.declared.kind.Kind.{Kind}
use Rattle.mz_words.specs.declared.kind.Kind.TheVariants as kind
use Rattle.mz_words.specs.declared.kind.Word.{Word}
use Rattle.mz_words.specs.declared.kind.Word.TheVariants as word
use Rattle.mz_words.specs.Numbers.{is_from, is_u64, is_u32, number_of, number_from, small_number_of, caller_of, ◌>>=◌}
use Rattle.mz_words.specs.Names.{name_word, given_word, old_word, name_fits, is_new, base_of, given_of, name_of, old_name_of, new_name_of}
use Rattle.mz_words.specs.Places.{place_word, place_fits, place_of}
use Rattle.mz_words.specs.Hex.{hex_word, are_shown, shown_of}
use Rattle.mz_words.specs.Ranges.{range_word, is_listed_range, range_of}

-- the kind of a word
abbrev pub kind_of : Word → Kind
kind_of (word.Number n) = kind.Number
kind_of (word.Small n) = kind.Small
kind_of (word.Caller n) = kind.Caller
kind_of (word.Base b) = kind.Base
kind_of (word.Name n) = kind.Name
kind_of (word.Old o) = kind.Old
kind_of (word.New n) = kind.New
kind_of (word.Given g) = kind.Given
kind_of (word.Zone z) = kind.Zone
kind_of (word.Byte n) = kind.Byte
kind_of (word.ShowCount n) = kind.ShowCount
kind_of (word.BatchCount n) = kind.BatchCount
kind_of (word.Place k) = kind.Place
kind_of (word.Range r) = kind.Range
kind_of (word.Bytes bs) = kind.Bytes

-- A clause sees a name as any bytes, and a number as any number. This test says which words a line can have, in a trace
-- with so many callers, behind the text of the word in front.
unfoldable pub word_fits : ℕ → List ℕ → Word → Bool
word_fits callers before (word.Number n) = is_u64 n
word_fits callers before (word.Small n) = is_u32 n
word_fits callers before (word.Caller n) = nat_lt n callers
word_fits callers before (word.Base b) = is_base_name b
word_fits callers before (word.Name n) = name_fits n
word_fits callers before (word.Old None) = true
word_fits callers before (word.Old (Some n)) = name_fits n
word_fits callers before (word.New n) = name_fits n && is_new before (name_word n)
word_fits callers before (word.Given g) = is_base_name g.base
word_fits callers before (word.Zone z) = is_base_name z
word_fits callers before (word.Byte n) = is_from 0 255 n
word_fits callers before (word.ShowCount n) = is_from 1 64 n
word_fits callers before (word.BatchCount n) = is_from 1 MOST_IN_BATCH n
word_fits callers before (word.Place k) = place_fits k
word_fits callers before (word.Range r) = is_listed_range r
word_fits callers before (word.Bytes bs) = are_shown bs

-- how a word is written
unfoldable pub word_text : Word → List ℕ
word_text (word.Number n) = decimal n
word_text (word.Small n) = decimal n
word_text (word.Caller n) = decimal n
word_text (word.Base b) = b
word_text (word.Name n) = name_word n
word_text (word.Old o) = old_word o
word_text (word.New n) = name_word n
word_text (word.Given g) = given_word g
word_text (word.Zone z) = z
word_text (word.Byte n) = decimal n
word_text (word.ShowCount n) = decimal n
word_text (word.BatchCount n) = decimal n
word_text (word.Place k) = place_word k
word_text (word.Range r) = range_word r
word_text (word.Bytes bs) = hex_word bs

-- the word of a kind that a text is
unfoldable pub read_word : ℕ → List ℕ → Kind → List ℕ → Option Word
read_word callers before kind.Number text = number_of text >>= λ n. Some (word.Number n)
read_word callers before kind.Small text = small_number_of text >>= λ n. Some (word.Small n)
read_word callers before kind.Caller text = caller_of callers text >>= λ n. Some (word.Caller n)
read_word callers before kind.Base text = base_of text >>= λ b. Some (word.Base b)
read_word callers before kind.Name text = name_of text >>= λ n. Some (word.Name n)
read_word callers before kind.Old text = old_name_of text >>= λ o. Some (word.Old o)
read_word callers before kind.New text = new_name_of before text >>= λ n. Some (word.New n)
read_word callers before kind.Given text = given_of text >>= λ g. Some (word.Given g)
read_word callers before kind.Zone text = base_of text >>= λ z. Some (word.Zone z)
read_word callers before kind.Byte text = number_from 0 255 text >>= λ n. Some (word.Byte n)
read_word callers before kind.ShowCount text = number_from 1 64 text >>= λ n. Some (word.ShowCount n)
read_word callers before kind.BatchCount text = number_from 1 MOST_IN_BATCH text >>= λ n. Some (word.BatchCount n)
read_word callers before kind.Place text = place_of text >>= λ k. Some (word.Place k)
read_word callers before kind.Range text = range_of text >>= λ r. Some (word.Range r)
read_word callers before kind.Bytes text = shown_of text >>= λ bs. Some (word.Bytes bs)

-- the kinds of which a word has at most 21 bytes
abbrev pub is_short_kind : Kind → Bool
is_short_kind kind.Bytes = false
is_short_kind _ = true
