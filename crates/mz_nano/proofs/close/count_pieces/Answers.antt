use Rattle.std.proofs.Common.{◌≡◌, ℕ, ◌+◌, ◌/◌, ap, sym, ◌∙◌, refl}
use Rattle.mz_nanoword.specs.declared.word.NanoWord.{NanoWord}
use Rattle.mz_nanoword.specs.Words.{word_of}
use Rattle.mz_nano.specs.Rule.{slots}
use Rattle.mz_nano.proofs.EndLemmas.{pieces_ready}
use Rattle.mz_nano.proofs.close.count_pieces.Goals as goal

slots_is : (c : ℕ) → 1024 / c ≡ slots c
unfolding slots
slots_is c = refl

pub returns-else-word-eq0 : goal.returns-else-word-eq0
returns-else-word-eq0 c w e =
    let es : c.args.word.now.state ≡ (word_of w).state = ap (λ (x : NanoWord). x.state) e in
    ap (λ (n : ℕ). 1024 / n + 1) es ∙ (ap (λ (n : ℕ). n + 1) (slots_is (word_of w).state) ∙ sym (pieces_ready w (λ z. c.if-word-eq0.false (es ∙ z))))
