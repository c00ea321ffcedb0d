-- Sentences: a form of the table, and a word in each of its places. This project's own.
use Rattle.std.specs.Prelude.{ℕ, ◌≡◌, Bool, ◌&&◌, true, List, [], ◌∷◌, ◌++◌, map, Option, Some, None}
use Rattle.mz_words.specs.declared.kind.Kind.{Kind}
use Rattle.mz_words.specs.declared.kind.Word.{Word}
use Rattle.mz_words.specs.declared.table.Form.{Form}
use Rattle.mz_words.specs.declared.sentence.Sentence.{Sentence}
use Rattle.mz_words.specs.Numbers.{◌>>=◌}
use Rattle.mz_words.specs.Kinds.{kind_of, word_fits, word_text, read_word}
use Rattle.mz_words.specs.Table.{form_word, kinds_of, form_among}

-- a word of each of these kinds, and no more
abbrev pub read_words : ℕ → List ℕ → List Kind → List (List ℕ) → Option (List Word)
read_words callers before [] [] = Some []
read_words callers before [] (t ∷ ts) = None
read_words callers before (k ∷ ks) [] = None
read_words callers before (k ∷ ks) (t ∷ ts) = read_word callers before k t >>= λ w. read_words callers t ks ts >>= λ ws. Some (w ∷ ws)

-- the same, behind words that were read
abbrev pub read_onto : ℕ → List ℕ → List Word → List Kind → List (List ℕ) → Option (List Word)
read_onto callers before done [] [] = Some done
read_onto callers before done [] (t ∷ ts) = None
read_onto callers before done (k ∷ ks) [] = None
read_onto callers before done (k ∷ ks) (t ∷ ts) = read_word callers before k t >>= λ w. read_onto callers t (done ++ w ∷ []) ks ts

-- a form with words
abbrev pub sentence : Form → List Word → Sentence
sentence f ws = record { form = f; words = ws }

-- the sentence of a form, and of one of these forms
abbrev pub sentence_behind : ℕ → Form → List (List ℕ) → Option Sentence
sentence_behind callers f ts = read_words callers [] (kinds_of f) ts >>= λ ws. Some (sentence f ws)

abbrev pub sentence_in : ℕ → List Form → List (List ℕ) → Option Sentence
sentence_in callers forms [] = None
sentence_in callers forms (t ∷ ts) = form_among forms t >>= λ f. sentence_behind callers f ts

-- the words of a sentence, the form's first
abbrev pub sentence_words : Sentence → List (List ℕ)
sentence_words s = form_word s.form ∷ map word_text s.words

-- a word behind a space
abbrev pub spaced_word : Word → List ℕ
spaced_word w = 32 ∷ word_text w

-- each word fits behind the one before it
abbrev pub words_fit : ℕ → List ℕ → List Word → Bool
words_fit callers before [] = true
words_fit callers before (w ∷ ws) = word_fits callers before w && words_fit callers (word_text w) ws

-- the form is one of these, and what stands in its places is of their kinds
pub record IsSentence (callers : ℕ) (forms : List Form) (s : Sentence) : Type 0 where
  pub form : form_among forms (form_word s.form) ≡ Some s.form
  pub kinds : map kind_of s.words ≡ kinds_of s.form
  pub fits : words_fit callers [] s.words ≡ true
