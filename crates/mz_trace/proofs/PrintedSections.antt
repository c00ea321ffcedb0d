-- The sections of callers, one more at a time.
use Rattle.std.proofs.Common.{◌≡◌, ℕ, ◌+◌, ◌<◌, List, [], ◌∷◌, ◌++◌, length, get_or, take, arith, sym, ap, ◌∙◌}
use Rattle.std.specs.List.{flat_map}
use Rattle.std.proofs.lemmas.Grind.{common_steps, flat_map-append}
use Rattle.std.proofs.lemmas.List.{append_assoc, take_more}
use Rattle.mz_trace.specs.declared.run.CallRecord.{CallRecord}
use Rattle.mz_words.specs.Lines.{line_text}
use Rattle.mz_trace.specs.RunTexts.{section_lines, sections_from}

pub sections_from-append_one :
    (first : ℕ) (lists : List (List CallRecord)) (calls : List CallRecord) →
    sections_from first (lists ++ calls ∷ []) ≡ sections_from first lists ++ section_lines (first + length lists) calls
sections_from-append_one first [] calls = grind (arith, common_steps)
sections_from-append_one first (l ∷ ls) calls =
    let rest = sections_from-append_one (first + 1) ls calls in
    let place : (first + 1) + length ls ≡ first + length (l ∷ ls) = omega arith in
    ap (λ xs. section_lines first l ++ xs) (rest ∙ ap (λ n. sections_from (first + 1) ls ++ section_lines n calls) place)
    ∙ sym (append_assoc (section_lines first l) (sections_from (first + 1) ls) (section_lines (first + length (l ∷ ls)) calls))

-- the text of one more section behind those before it
pub appended_section :
    (lists : List (List CallRecord)) (i : ℕ) (calls : List CallRecord) (old was now : List ℕ) → i < length lists → calls ≡ get_or lists i calls
    → was ≡ old ++ flat_map line_text (sections_from 0 (take i lists)) → now ≡ was ++ flat_map line_text (section_lines i calls)
    → now ≡ old ++ flat_map line_text (sections_from 0 (take (i + 1) lists))
appended_section lists i calls old was now below element before after =
    let count : 0 + length (take i lists) ≡ i = grind (arith, common_steps) in
    let front = sections_from 0 (take i lists) in
    let back = section_lines i calls in
    let more : sections_from 0 (take (i + 1) lists) ≡ front ++ back =
    ap (λ xs. sections_from 0 xs) (take_more lists i calls below ∙ ap (λ y. take i lists ++ y ∷ []) (sym element))
    ∙ sections_from-append_one 0 (take i lists) calls ∙ ap (λ n. front ++ section_lines n calls) count in
    after ∙ ap (λ bs. bs ++ flat_map line_text back) before ∙ append_assoc old (flat_map line_text front) (flat_map line_text back)
    ∙ ap (λ bs. old ++ bs) (sym (flat_map-append line_text front back)) ∙ ap (λ ls. old ++ flat_map line_text ls) (sym more)
