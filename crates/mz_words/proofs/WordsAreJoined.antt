-- Words that are printed one behind the other are joined by spaces.
use Rattle.std.proofs.Common.{◌≡◌, ℕ, List, [], ◌∷◌, ◌++◌, map, ap, ◌∙◌, append-nil, Result}
use Rattle.std.specs.List.{flat_map, join_with_byte}
use Rattle.std.specs.Result.{OnOk}
use Rattle.std.proofs.lemmas.List.{append_assoc}
use Rattle.std.proofs.lemmas.Result.{on_ok_weaker}
use Rattle.mz_words.specs.declared.kind.Word.{Word}
use Rattle.mz_words.specs.Kinds.{word_text}
use Rattle.mz_words.specs.Sentences.{spaced_word}

joined : (w : List ℕ) (ws : List Word) → w ++ flat_map spaced_word ws ≡ join_with_byte 32 (w ∷ map word_text ws)
joined w [] = append-nil w
joined w (v ∷ ws) = ap (λ (x : List ℕ). w ++ 32 ∷ x) (joined (word_text v) ws)

pub written :
    {T E : Type 0} (r : Result T E) (old w now : List ℕ) (ws : List Word) {was : List ℕ} → was ≡ old ++ w → OnOk r (now ≡ was ++ flat_map spaced_word ws)
    → OnOk r (now ≡ old ++ join_with_byte 32 (w ∷ map word_text ws))
written r old w now ws before after =
    on_ok_weaker r
    (λ h. h ∙ ap (λ (bs : List ℕ). bs ++ flat_map spaced_word ws) before ∙ append_assoc old w (flat_map spaced_word ws) ∙ ap (λ (bs : List ℕ). old ++ bs) (joined w ws)) after
