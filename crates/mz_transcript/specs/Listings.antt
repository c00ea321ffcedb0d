-- The listing of a printed run, from its words. This follows the code; that they are those of the texts is
-- proved.
use Rattle.std.specs.Prelude.{ℕ, List, [], ◌∷◌, Option, Some, None}
use Rattle.mz_words.specs.declared.kind.Word.{Word}
use Rattle.mz_words.specs.declared.kind.Word.TheVariants.{Number, Range, Zone}
use Rattle.mz_words.specs.declared.table.Form.{Form}
use Rattle.mz_words.specs.declared.table.Form.TheVariants as form
use Rattle.mz_words.specs.declared.table.TheConstants.{LISTING}
use Rattle.mz_words.specs.Numbers.{◌>>=◌}
use Rattle.mz_words.specs.Sentences.{sentence_in}
use Rattle.mz_trace.specs.declared.tail.Listed.{Listed}

-- the listed block that a sentence is, and that words are
abbrev pub listed_of : Form → List Word → Option Listed
listed_of form.Listed (Number a ∷ Number s ∷ Range range ∷ Zone zone ∷ []) = Some (record { a = a; s = s; range = range; zone = zone })
listed_of _ _ = None

abbrev pub listed_in : List (List ℕ) → Option Listed
listed_in ts = sentence_in 0 LISTING ts >>= λ s. listed_of s.form s.words
