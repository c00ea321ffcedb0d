use Rattle.std.proofs.Common.{◌≡◌, ℕ, List, [], ◌∷◌, ◌++◌, codes, string_bytes, refl, ap, ◌∙◌}
use Rattle.std.specs.Fmt.{decimal}
use Rattle.std.proofs.lemmas.List.{append_assoc, append-nil}
use Rattle.std.proofs.lemmas.Result.{on_ok_weaker}
use Rattle.mz_words.specs.Lines.{line_text}
use Rattle.mz_trace.proofs.run_printer.print_statistics.Goals as goal

four : (old a b c d : List ℕ) → (((old ++ a) ++ b) ++ c) ++ d ≡ old ++ (a ++ (b ++ (c ++ (d ++ []))))
four old a b c d = simp (append_assoc, append-nil)

abbrev told : List ℕ → ℕ → List ℕ
told label n = line_text (label ∷ decimal n ∷ [])

pub returns : goal.returns
returns c =
    let s = c.args.statistics in
    let first = told (codes "blocks_in_use") s.blocks_in_use in
    let second = told (codes "size_in_use") s.size_in_use in
    let third = told (codes "max_size_in_use") s.max_size_in_use in
    let last = told (codes "size_allocated") s.size_allocated in
    on_ok_weaker c.print_statistic-4.result (λ h. h ∙ ap (λ bs. bs ++ last) (c.in_ok-print_statistic-3.ensures ∙ rw (c.in_ok-print_statistic-2.ensures, c.in_ok-print_statistic.ensures) refl) ∙ four (string_bytes c.args.out.now) first second third last) c.print_statistic-4.ensures
