-- The lines of a text, one after the other.
use Rattle.std.proofs.Common.{◌≡◌, ℕ, ◌+◌, List, [], ◌∷◌, length, refl, ◌∙◌, Option, Some, None}
use Rattle.std.specs.Prelude.{Ok, Err}
use Rattle.std.proofs.lemmas.List.{length-replicate}
use Rattle.mz_words.specs.Lines.{Cut, words_of}
use Rattle.mz_lines.specs.declared.line.Line.{Line}
use Rattle.mz_lines.specs.declared.why.Why.{Why}
use Rattle.mz_lines.specs.LineReading.{line_in}
use Rattle.mz_trace.specs.declared.reader.Reader.{Reader}
use Rattle.mz_trace.specs.Readers.{Keeps, cut_why, fresh, reading, with_words}
use Rattle.mz_trace.proofs.LineIsKept.{bad_at}
use Rattle.mz_trace.proofs.LinesAreInPlace.{lists_added}

-- there is a list for each caller
lists_kept : (callers : ℕ) (words : List (List ℕ)) (r : Reader) → length r.open.commands ≡ callers → length (with_words callers r words).open.commands ≡ callers
lists_kept callers words r e = by_line (line_in callers words) refl where
  by_line : (o : Option Line) → line_in callers words ≡ o → length (with_words callers r words).open.commands ≡ callers
  by_line None read = rw read e
  by_line (Some x) read = rw read (lists_added callers x r e)

-- the lines so far are read, and the others are left
pub record IsBehind (callers : ℕ) (all : List Cut) (number : ℕ) (left : List Cut) (r : Reader) : Type 0 where
  pub lists : length r.open.commands ≡ callers
  pub same : reading callers (fresh callers) 3 all ≡ reading callers r number left

pub starts : (callers : ℕ) (all : List Cut) (r : Reader) → r ≡ fresh callers → IsBehind callers all 3 all r
starts callers all r e = rw e (record { lists = length-replicate callers []; same = refl })

pub goes_on :
    (callers : ℕ) (all : List Cut) (number : ℕ) (left : List Cut) (l : Cut) (ls : List Cut) (old new : Reader) (why : Option Why) → IsBehind callers all number left old
    → left ≡ l ∷ ls → Keeps (cut_why callers old l) (with_words callers old (words_of l.text)) new why → why ≡ None → IsBehind callers all (number + 1) ls new
goes_on callers all number left l ls old new why h e k none = record {
  lists = rw (k.kept_is none) (lists_kept callers (words_of l.text) old h.lists);
  same = h.same ∙ rw e (rw (← k.told, none, k.kept_is none) refl);
}

pub stops :
    (callers : ℕ) (all : List Cut) (number : ℕ) (left : List Cut) (l : Cut) (ls : List Cut) (old new : Reader) (y : Why) → IsBehind callers all number left old
    → left ≡ l ∷ ls → Keeps (cut_why callers old l) (with_words callers old (words_of l.text)) new (Some y) → reading callers (fresh callers) 3 all ≡ Err (bad_at number y)
stops callers all number left l ls old new y h e k = h.same ∙ rw e (rw (← k.told) refl)

pub ends : (callers : ℕ) (all : List Cut) (number : ℕ) (left : List Cut) (r : Reader) → IsBehind callers all number left r → left ≡ [] → reading callers (fresh callers) 3 all ≡ Ok r
ends callers all number left r h e = h.same ∙ rw e refl
