-- Lines at the start of a round, to and from sentences. This project's own.
use Rattle.std.specs.Prelude.{ℕ, Bool, List, [], ◌∷◌, Option, Some, None}
use Rattle.mz_words.specs.declared.kind.Word.{Word}
use Rattle.mz_words.specs.declared.kind.Word.TheVariants.{Number, Zone}
use Rattle.mz_words.specs.declared.table.Form.{Form}
use Rattle.mz_words.specs.declared.table.Form.TheVariants as form
use Rattle.mz_words.specs.declared.table.TheConstants.{ROUND_LINES}
use Rattle.mz_words.specs.declared.sentence.Sentence.{Sentence}
use Rattle.mz_words.specs.Numbers.{◌>>=◌}
use Rattle.mz_words.specs.Sentences.{sentence, sentence_in, sentence_words, words_fit}
use Rattle.mz_lines.specs.declared.round_line.RoundLine.{RoundLine}
use Rattle.mz_lines.specs.declared.round_line.RoundLine.TheVariants as at

-- the sentence of such a line
abbrev pub start_sentence : RoundLine → Sentence
start_sentence (at.Zone zone) = sentence form.Zone (Zone zone ∷ [])
start_sentence (at.Destroy zone) = sentence form.Destroy (Zone zone ∷ [])
start_sentence (at.Size zone addr) = sentence form.SizeAt (Zone zone ∷ Number addr ∷ [])
start_sentence (at.Where addr) = sentence form.Where (Number addr ∷ [])

-- the line that a sentence is
abbrev pub start_of : Form → List Word → Option RoundLine
start_of form.Zone (Zone zone ∷ []) = Some (at.Zone zone)
start_of form.Destroy (Zone zone ∷ []) = Some (at.Destroy zone)
start_of form.SizeAt (Zone zone ∷ Number addr ∷ []) = Some (at.Size zone addr)
start_of form.Where (Number addr ∷ []) = Some (at.Where addr)
start_of _ _ = None

-- the line that words are
abbrev pub start_in : ℕ → List (List ℕ) → Option RoundLine
start_in callers ts = sentence_in callers ROUND_LINES ts >>= λ s. start_of s.form s.words

-- how such a line is written
abbrev pub start_words : RoundLine → List (List ℕ)
start_words x = sentence_words (start_sentence x)

-- one that a trace can have
abbrev pub start_fits : RoundLine → Bool
start_fits x = words_fit 0 [] (start_sentence x).words
