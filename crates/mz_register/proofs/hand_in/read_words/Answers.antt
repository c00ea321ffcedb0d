use Rattle.std.proofs.Common.{◌≡◌, ℕ, ◌+◌, ◌<◌, List, [], ◌∷◌, length, get_or, set, arith, sym, ap, ◌∙◌, ⊎_elim, length-set, zero, suc}
use Rattle.std.proofs.lemmas.Bool.{cases_eq}
use Rattle.std.proofs.lemmas.List.{get_or-set_same, get_or-set_other}
use mathlib.Core.Option.{some, some-injective, some-ne-none}
use lib.ListN.{get_elem?}
use Rattle.core.specs.Mem.Slots.{slots_items}
use Rattle.mz_register.proofs.hand_in.read_words.Goals as goal

read : (l : List ℕ) (i a : ℕ) → get_elem? l i ≡ some a → get_or l i 0 ≡ a
read [] i a e = absurd (some-ne-none a (sym e))
read (x ∷ xs) zero a e = some-injective x a e
read (x ∷ xs) (suc i) a e = read xs i a e

pub loop-i-preserved : goal.loop-i-preserved
loop-i-preserved g c =
    let inv = c.loop-i.invariant in
    let row = c.loop-i.row.items in
    let words = slots_items c.args.closed.now.words in
    record {
      len = length-set row c.loop-i.i c.word.result ∙ inv.len;
      each = λ k lt. ⊎_elim
          (λ (y : k ≡ c.loop-i.i).
          let here : c.loop-i.i < length row = let t = c.loop-i-test.true in let l = inv.len in omega (arith, c.loop-i.row.ok.0, c.args.row.now.ok.0, c.len-i-end.ensures) in
          ap (λ (j : ℕ). get_or (set row c.loop-i.i c.word.result) j 0) y ∙ (get_or-set_same row c.loop-i.i c.word.result 0 here ∙ (sym (read words (c.args.from + c.loop-i.i) c.word.result c.word.ensures) ∙ ap (λ (j : ℕ). get_or words (c.args.from + j) 0) (sym y))))
          (λ (n : k ≡ c.loop-i.i → ⊥). get_or-set_other row c.loop-i.i k c.word.result 0 n ∙ inv.each k (omega arith))
          (cases_eq k c.loop-i.i);
    }
