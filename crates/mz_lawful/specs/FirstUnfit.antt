-- The first record of a run that doesn't fit, with its line in the text, and the first wrong line behind a run. This project's own.
use Rattle.std.specs.Prelude.{ℕ, ◌+◌, ◌≡◌, Bool, false, List, [], ◌∷◌, length, take, slice_get, Option, None, Some, if◌then◌else◌, codes}
use Rattle.std.specs.List.{AllByRecursion}
use Rattle.std.specs.Str.{bytes_eq}
use Rattle.mz_words.specs.Lines.{line_text}
use Rattle.mz_trace.specs.declared.run.Run.{Run}
use Rattle.mz_trace.specs.declared.tail.Figures.{Figures}
use Rattle.mz_trace.specs.RunTexts.{run_lines}
use Rattle.mz_trace.specs.TailTexts.{tail_lines}
use Rattle.mz_lawful.specs.Fitting.{FitsRecord}
use Rattle.mz_lawful.specs.LawfulRun.{Placed, placed_records}
use Rattle.mz_lawful.specs.Tail.{tail_of}

-- a line, in words, with which a record begins
abbrev pub begins_record : List (List ℕ) → Bool
begins_record [] = false
begins_record (word ∷ words) = bytes_eq word (codes ">")

-- the numbers of the lines with which records begin, where the first line has number n
abbrev pub record_numbers : ℕ → List (List (List ℕ)) → List ℕ
record_numbers n [] = []
record_numbers n (line ∷ lines) = if begins_record line then n ∷ record_numbers (n + 1) lines else record_numbers (n + 1) lines

-- In the order of the text one record is the first that doesn't fit, and its line has this number.
pub record FirstUnfit (r : Run) (line : ℕ) : Type 0 where
  pub index : ℕ
  pub here : Placed
  pub at : slice_get (placed_records r) index ≡ Some here
  pub unfit : ¬ FitsRecord here.setting here.deed
  pub fitting : AllByRecursion (λ x. FitsRecord x.setting x.deed) (take index (placed_records r))
  pub number : slice_get (record_numbers 1 (run_lines r)) index ≡ Some line

-- the number of the first line at which two texts differ, where the first line of each has number n: a line that is missing or left over
-- counts at its place
abbrev pub first_difference : ℕ → List (List (List ℕ)) → List (List (List ℕ)) → Option ℕ
first_difference n [] [] = None
first_difference n [] (own ∷ owns) = Some n
first_difference n (line ∷ lines) [] = Some n
first_difference n (line ∷ lines) (own ∷ owns) = if bytes_eq (line_text line) (line_text own) then first_difference (n + 1) lines owns else Some n

-- the first line of the listing or the statistics behind a run that isn't the run's own
abbrev pub first_wrong_line : Run → Figures → Option ℕ
first_wrong_line r told = first_difference (length (run_lines r) + 1) (tail_lines told) (tail_lines (tail_of r))
