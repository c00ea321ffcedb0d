-- The sections of callers, one more at a time.
use Rattle.std.proofs.Common.{◌≡◌, ℕ, ◌+◌, List, [], ◌∷◌, ◌++◌, length, arith, sym, ap, ◌∙◌}
use Rattle.std.proofs.lemmas.Grind.{common_steps}
use Rattle.std.proofs.lemmas.List.{append_assoc}
use Rattle.mz_trace.specs.declared.run.CallRecord.{CallRecord}
use Rattle.mz_trace.specs.RunTexts.{section_lines, sections_from}

pub sections_from-append_one :
    (first : ℕ) (lists : List (List CallRecord)) (calls : List CallRecord) →
    sections_from first (lists ++ calls ∷ []) ≡ sections_from first lists ++ section_lines (first + length lists) calls
sections_from-append_one first [] calls = grind (arith, common_steps)
sections_from-append_one first (l ∷ ls) calls =
    let rest = sections_from-append_one (first + 1) ls calls in
    let place : (first + 1) + length ls ≡ first + length (l ∷ ls) = omega arith in
    ap (λ xs. section_lines first l ++ xs) (rest ∙ ap (λ n. sections_from (first + 1) ls ++ section_lines n calls) place)
    ∙ sym (append_assoc (section_lines first l) (sections_from (first + 1) ls) (section_lines (first + length (l ∷ ls)) calls))
