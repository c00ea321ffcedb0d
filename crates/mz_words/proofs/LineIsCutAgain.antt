-- A line of words is cut into those words again, and lines are cut off behind them.
use Rattle.std.proofs.Common.{◌≡◌, ℕ, Bool, true, false, List, [], ◌∷◌, ◌++◌, eqb, arith, refl, ap, ◌∙◌, append_assoc}
use Rattle.std.specs.Prelude.{not}
use Rattle.std.specs.List.{list_all, join_with_byte, slice_split, onto_first}
use Rattle.std.proofs.lemmas.Bool.{and_parts, and_from, not-true}
use Rattle.std.proofs.lemmas.Bool.Decides.{nat_tests}
use Rattle.std.proofs.lemmas.List.Folds.{list_all-append}
use Rattle.mz_words.specs.Numbers.{is_from}
use Rattle.mz_words.specs.Lines.{longer, cuts, line_of, line_text, words_of, is_visible, are_visible}

no_space : (b : ℕ) → is_visible b ≡ true → eqb b 32 ≡ false
no_space b h = grind (arith, nat_tests)

-- the words of a line
abbrev at_space : ℕ → Bool
at_space b = eqb b 32

abbrev onto_front : List ℕ → List (List ℕ) → List (List ℕ)
onto_front [] parts = parts
onto_front (b ∷ bs) parts = onto_first b (onto_front bs parts)

split_word : (w rest : List ℕ) → list_all is_visible w ≡ true → slice_split at_space (w ++ rest) ≡ onto_front w (slice_split at_space rest)
split_word [] rest h = refl
split_word (b ∷ bs) rest h =
    let parts = and_parts (is_visible b) (list_all is_visible bs) h in
    rw (no_space b parts.0) (ap (onto_first b) (split_word bs rest parts.1))

onto_nothing : (w : List ℕ) (parts : List (List ℕ)) → onto_front w ([] ∷ parts) ≡ w ∷ parts
onto_nothing [] parts = refl
onto_nothing (b ∷ bs) parts = ap (onto_first b) (onto_nothing bs parts)

nothing_behind : (w : List ℕ) → w ≡ w ++ []
nothing_behind [] = refl
nothing_behind (c ∷ cs) = ap (λ (x : List ℕ). c ∷ x) (nothing_behind cs)

pub words_again : (w : List ℕ) (ws : List (List ℕ)) → are_visible (w ∷ ws) ≡ true → words_of (join_with_byte 32 (w ∷ ws)) ≡ w ∷ ws
words_again w [] h =
    let parts = and_parts (list_all is_visible w) true h in
    ap (slice_split at_space) (nothing_behind w) ∙ split_word w [] parts.0 ∙ onto_nothing w []
words_again w (v ∷ ws) h =
    let parts = and_parts (list_all is_visible w) (are_visible (v ∷ ws)) h in
    split_word w (32 ∷ join_with_byte 32 (v ∷ ws)) parts.0 ∙ onto_nothing w (words_of (join_with_byte 32 (v ∷ ws)))
    ∙ ap (λ (x : List (List ℕ)). w ∷ x) (words_again v ws parts.1)

-- bytes are cut behind a line of words
cut_off : (t rest : List ℕ) → list_all (λ b. not (eqb b 10)) t ≡ true → cuts (t ++ 10 ∷ rest) ≡ record { text = t; ended = true } ∷ cuts rest
cut_off [] rest h = refl
cut_off (b ∷ bs) rest h =
    let parts = and_parts (not (eqb b 10)) (list_all (λ x. not (eqb x 10)) bs) h in
    rw (not-true (eqb b 10) parts.0) (ap (longer b) (cut_off bs rest parts.1))

-- what holds of each byte that can be seen, and of a space, holds of each byte of a line
of_word : (p : ℕ → Bool) → ((b : ℕ) → is_visible b ≡ true → p b ≡ true) → (w : List ℕ) → list_all is_visible w ≡ true → list_all p w ≡ true
of_word p each [] h = refl
of_word p each (b ∷ bs) h = let parts = and_parts (is_visible b) (list_all is_visible bs) h in and_from _ _ (each b parts.0) (of_word p each bs parts.1)

of_line : (p : ℕ → Bool) → ((b : ℕ) → is_visible b ≡ true → p b ≡ true) → p 32 ≡ true → (ws : List (List ℕ)) → are_visible ws ≡ true → list_all p (join_with_byte 32 ws) ≡ true
of_line p each space [] h = refl
of_line p each space (w ∷ []) h = of_word p each w (and_parts (list_all is_visible w) true h).0
of_line p each space (w ∷ v ∷ ws) h =
    let parts = and_parts (list_all is_visible w) (are_visible (v ∷ ws)) h in
    list_all-append p w (32 ∷ join_with_byte 32 (v ∷ ws)) ∙ and_from _ _ (of_word p each w parts.0) (and_from _ _ space (of_line p each space (v ∷ ws) parts.1))

pub line_printable : (ws : List (List ℕ)) → are_visible ws ≡ true → list_all (is_from 32 126) (join_with_byte 32 ws) ≡ true
line_printable = of_line (is_from 32 126) (λ b h. grind (arith, nat_tests)) refl

pub line_cut_off : (ws : List (List ℕ)) (rest : List ℕ) → are_visible ws ≡ true → cuts (line_text ws ++ rest) ≡ line_of ws ∷ cuts rest
line_cut_off ws rest h =
    ap cuts (append_assoc (join_with_byte 32 ws) (10 ∷ []) rest) ∙ cut_off (join_with_byte 32 ws) rest (of_line (λ b. not (eqb b 10)) (λ b seen. grind (arith, nat_tests)) refl ws h)
