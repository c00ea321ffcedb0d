-- Answers, to and from sentences. This project's own.
use Rattle.std.specs.Prelude.{ℕ, Bool, List, [], ◌∷◌, Option, Some, None}
use Rattle.mz_words.specs.declared.kind.Word.{Word}
use Rattle.mz_words.specs.declared.kind.Word.TheVariants as word
use Rattle.mz_words.specs.declared.table.Form.{Form}
use Rattle.mz_words.specs.declared.table.Form.TheVariants as form
use Rattle.mz_words.specs.declared.sentence.Sentence.{Sentence}
use Rattle.mz_lines.specs.declared.answer.Answer.{Answer}
use Rattle.mz_lines.specs.declared.answer.Answer.TheVariants as answer
use Rattle.mz_words.specs.declared.table.TheConstants.{ANSWERS}
use Rattle.mz_words.specs.Numbers.{◌>>=◌}
use Rattle.mz_words.specs.Sentences.{sentence, sentence_in, sentence_words, words_fit}

-- an answer: its word, then what it tells
abbrev pub answer_sentence : Answer → Sentence
answer_sentence answer.Held = sentence form.Held []
answer_sentence answer.NoZone = sentence form.NoZone []
answer_sentence answer.Overflow = sentence form.Overflow []
answer_sentence answer.BadAlign = sentence form.BadAlign []
answer_sentence answer.NotHeld = sentence form.NotHeld []
answer_sentence (answer.WrongSize s) = sentence form.WrongSize (word.Number s ∷ [])
answer_sentence answer.OutOfRange = sentence form.OutOfRange []
answer_sentence answer.NameTaken = sentence form.NameTaken []
answer_sentence answer.TooMany = sentence form.TooMany []
answer_sentence answer.IsDefault = sentence form.IsDefault []
answer_sentence (answer.HasLive n) = sentence form.HasLive (word.Number n ∷ [])
answer_sentence answer.Null = sentence form.Null []
answer_sentence answer.Nowhere = sentence form.Nowhere []
answer_sentence answer.Done = sentence form.Done []
answer_sentence answer.NotLive = sentence form.NotLive []
answer_sentence (answer.Block a s) = sentence form.Block (word.Number a ∷ word.Number s ∷ [])
answer_sentence (answer.Size s) = sentence form.SizeIs (word.Number s ∷ [])
answer_sentence (answer.Bytes shown) = sentence form.Bytes (word.Bytes shown ∷ [])
answer_sentence (answer.Got n) = sentence form.Got (word.Number n ∷ [])
answer_sentence (answer.Freed n) = sentence form.Freed (word.Number n ∷ [])
answer_sentence (answer.Zone name) = sentence form.InZone (word.Zone name ∷ [])

-- an answer that is one word, that tells a number, or something else
abbrev pub bare_answer : Form → Option Answer
bare_answer form.Held = Some answer.Held
bare_answer form.NoZone = Some answer.NoZone
bare_answer form.Overflow = Some answer.Overflow
bare_answer form.BadAlign = Some answer.BadAlign
bare_answer form.NotHeld = Some answer.NotHeld
bare_answer form.OutOfRange = Some answer.OutOfRange
bare_answer form.NameTaken = Some answer.NameTaken
bare_answer form.TooMany = Some answer.TooMany
bare_answer form.IsDefault = Some answer.IsDefault
bare_answer form.Null = Some answer.Null
bare_answer form.Nowhere = Some answer.Nowhere
bare_answer form.Done = Some answer.Done
bare_answer form.NotLive = Some answer.NotLive
bare_answer _ = None

abbrev pub counting_answer : Form → ℕ → Option Answer
counting_answer form.WrongSize n = Some (answer.WrongSize n)
counting_answer form.HasLive n = Some (answer.HasLive n)
counting_answer form.SizeIs n = Some (answer.Size n)
counting_answer form.Got n = Some (answer.Got n)
counting_answer form.Freed n = Some (answer.Freed n)
counting_answer _ n = None

abbrev pub telling_answer : Form → List Word → Option Answer
telling_answer form.Block (word.Number a ∷ word.Number s ∷ []) = Some (answer.Block a s)
telling_answer form.Bytes (word.Bytes shown ∷ []) = Some (answer.Bytes shown)
telling_answer form.InZone (word.Zone name ∷ []) = Some (answer.Zone name)
telling_answer f (word.Number n ∷ []) = counting_answer f n
telling_answer _ _ = None

-- the answer that a sentence is
abbrev pub answer_of : Form → List Word → Option Answer
answer_of f [] = bare_answer f
answer_of f (w ∷ ws) = telling_answer f (w ∷ ws)

-- the answer that words are
abbrev pub answer_in : List (List ℕ) → Option Answer
answer_in ts = sentence_in 0 ANSWERS ts >>= λ s. answer_of s.form s.words

-- how an answer is written
abbrev pub answer_words : Answer → List (List ℕ)
answer_words x = sentence_words (answer_sentence x)

-- an answer that a line can have
abbrev pub answer_fits : Answer → Bool
answer_fits x = words_fit 0 [] (answer_sentence x).words
