-- What the definitions of words and lines mean: what is written is read again, what is read is written, and a word is read
-- exactly where it has no flaw. This project's own.
use Rattle.std.specs.Prelude.{ℕ, ◌≡◌, ◌==◌, ◌<◌, ◌≤◌, ◌^◌, true, false, is_none, nat_lt, List, [], ◌∷◌, ◌++◌, map, length, Some, None}
use Rattle.std.specs.List.{list_any, list_all, join_with_byte}
use Rattle.std.specs.Fmt.{decimal}
use Rattle.mz_words.specs.declared.kind.Kind.{Kind}
use Rattle.mz_words.specs.declared.kind.Kind.TheVariants as kind
use Rattle.mz_words.specs.declared.kind.Word.{Word}
use Rattle.mz_words.specs.declared.table.Form.{Form}
use Rattle.mz_words.specs.declared.sentence.Sentence.{Sentence}
use Rattle.mz_words.specs.Numbers.{is_from, is_u64, are_digits, number_of, caller_of}
use Rattle.mz_base.specs.Names.{is_base_name}
use Rattle.mz_words.specs.declared.name.BatchName.{BatchName}
use Rattle.mz_words.specs.declared.name.Name.{Name}
use Rattle.mz_words.specs.Names.{batch_word, name_word, name_fits, name_of}
use Rattle.mz_words.specs.Lines.{Cut, cuts, line_of, line_text, words_of, is_visible_word, are_visible, are_short}
use Rattle.mz_words.specs.Kinds.{kind_of, is_short_kind}
use Rattle.mz_words.specs.Sentences.{words_fit, read_words, sentence_in, sentence_words, IsSentence}
use Rattle.mz_words.specs.Flaws.{flaws, is_wrong, some_wrong}

-- a number, and how it is written
pub record NumbersHold : Type 0 where
  pub again : (n : ℕ) → is_u64 n ≡ true → number_of (decimal n) ≡ Some n
  pub spelled : (w : List ℕ) (n : ℕ) → number_of w ≡ Some n → (w ≡ decimal n) × (is_u64 n ≡ true)
  pub digits : (n : ℕ) → is_u64 n ≡ true → are_digits (decimal n) ≡ true
  pub visible : (n : ℕ) → is_u64 n ≡ true → is_visible_word (decimal n) ≡ true
  pub short : (n : ℕ) → is_u64 n ≡ true → length (decimal n) ≤ 20
  pub caller_again : (callers n : ℕ) → callers < 2 ^ 64 → nat_lt n callers ≡ true → caller_of callers (decimal n) ≡ Some n
  pub caller_spelled : (callers : ℕ) (w : List ℕ) (n : ℕ) → caller_of callers w ≡ Some n → (w ≡ decimal n) × (nat_lt n callers ≡ true)

-- a name, and how it is written
pub record NamesHold : Type 0 where
  pub again : (n : Name) → name_fits n ≡ true → name_of (name_word n) ≡ Some n
  pub no_base : (b : BatchName) → is_base_name (batch_word b) ≡ false

-- a sentence, and how it is written
pub record SentencesHold : Type 0 where
  pub again : (callers : ℕ) (forms : List Form) (s : Sentence) → callers < 2 ^ 64 → IsSentence callers forms s → sentence_in callers forms (sentence_words s) ≡ Some s
  pub spelled : (callers : ℕ) (forms : List Form) (ts : List (List ℕ)) (s : Sentence) → sentence_in callers forms ts ≡ Some s → (ts ≡ sentence_words s) × IsSentence callers forms s
  pub visible : (callers : ℕ) (s : Sentence) → callers < 2 ^ 64 → words_fit callers [] s.words ≡ true → are_visible (sentence_words s) ≡ true
  pub short : (callers : ℕ) (s : Sentence) → callers < 2 ^ 64 → words_fit callers [] s.words ≡ true → list_all is_short_kind (map kind_of s.words) ≡ true → are_short (sentence_words s) ≡ true

-- Words of these kinds are read exactly where there are as many and none has a flaw; and no word is read that is empty.
pub record FlawsHold : Type 0 where
  pub words : (callers : ℕ) (before : List ℕ) (ks : List Kind) (ts : List (List ℕ)) → length ks ≡ length ts
      → list_any (λ y. some_wrong callers y before ks ts) flaws ≡ is_none (read_words callers before ks ts)
  pub count : (callers : ℕ) (before : List ℕ) (ks : List Kind) (ts : List (List ℕ)) → (length ks ≡ length ts → ⊥) → read_words callers before ks ts ≡ None
  pub some : (callers : ℕ) (before : List ℕ) (ks : List Kind) (ts : List (List ℕ)) (ws : List Word) → read_words callers before ks ts ≡ Some ws
      → list_any (λ t. length t == 0) ts ≡ false
  pub caller : (callers : ℕ) (t : List ℕ) → list_any (λ y. is_wrong callers [] y kind.Caller t) flaws ≡ is_none (caller_of callers t)

-- A line of words is cut into those words, and bytes are cut behind each line of words. A line that is ended is one of its
-- words, and bytes that are cut into the same lines are the same.
pub record LinesHold : Type 0 where
  pub words : (w : List ℕ) (ws : List (List ℕ)) → are_visible (w ∷ ws) ≡ true → words_of (join_with_byte 32 (w ∷ ws)) ≡ w ∷ ws
  pub cut : (ws : List (List ℕ)) (rest : List ℕ) → are_visible ws ≡ true → cuts (line_text ws ++ rest) ≡ line_of ws ∷ cuts rest
  pub ended : (l : Cut) → l.ended ≡ true → l ≡ line_of (words_of l.text)
  pub same : (bs cs : List ℕ) → cuts bs ≡ cuts cs → bs ≡ cs
  pub printable : (ws : List (List ℕ)) → are_visible ws ≡ true → list_all (is_from 32 126) (join_with_byte 32 ws) ≡ true

-- all of it
pub record WordLaws : Type 0 where
  pub numbers : NumbersHold
  pub names : NamesHold
  pub sentences : SentencesHold
  pub flaws : FlawsHold
  pub lines : LinesHold
