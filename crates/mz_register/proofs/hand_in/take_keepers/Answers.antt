use Rattle.std.proofs.Common.{◌≡◌, ℕ, ◌+◌, Bool, false, List, [], ◌∷◌, ◌++◌, length, get_or, set, take, Option, arith, refl, sym, ap, ◌∙◌, ⊎_elim, length-append, zero, suc}
use Rattle.std.proofs.lemmas.Bool.{cases_eq}
use Rattle.std.proofs.lemmas.List.{get_or-set_other}
use mathlib.Core.Option.{some, some-injective, some-ne-none}
use lib.ListN.{get_elem?}
use Rattle.core.specs.Mem.Slots.{slots_items, slots_filled}
use Rattle.mz_register.proofs.hand_in.take_keepers.Goals as goal

-- one more of them
take_more : {A : Type 0} (xs : List A) (k : ℕ) (x : A) → get_elem? xs k ≡ some x → take (k + 1) xs ≡ take k xs ++ x ∷ []
take_more [] k x e = absurd (some-ne-none x (sym e))
take_more (y ∷ ys) zero x e = ap (λ z. z ∷ []) (some-injective y x e)
take_more (y ∷ ys) (suc k) x e = let n : suc k + 1 ≡ suc (k + 1) = omega arith in ap (λ (m : ℕ). take m (y ∷ ys)) n ∙ ap (λ zs. y ∷ zs) (take_more ys k x e)

cleared : (fs : List Bool) (i k : ℕ) → (k ≡ i → ⊥) → get_or (set fs i false) k false ≡ get_or fs k false
cleared fs i k n = get_or-set_other fs i k false false n

clear_at : (fs : List Bool) (i : ℕ) → get_or (set fs i false) i false ≡ false
clear_at [] i = refl
clear_at (f ∷ fs) zero = refl
clear_at (f ∷ fs) (suc i) = clear_at fs i

pub loop-k-preserved : goal.loop-k-preserved
loop-k-preserved g c =
    let inv = c.loop-k.invariant in
    let o = c.take.ensures.others in
    let fs = slots_filled c.loop-k.closed.slots in
    let k = c.loop-k.k in
    record {
      items = o.0 ∙ inv.items;
      len = o.2 ∙ inv.len;
      taken = λ i lt. ap (λ (xs : List Bool). get_or xs i false) o.1 ∙ ⊎_elim
          (λ (y : i ≡ k). ap (λ (j : ℕ). get_or (set fs k false) j false) y ∙ clear_at fs k)
          (λ (n : i ≡ k → ⊥). cleared fs k i n ∙ inv.taken i (omega arith))
          (cases_eq i k);
      left = λ i ge lt. ap (λ (xs : List Bool). get_or xs i false) o.1 ∙ (cleared fs k i (λ y. omega arith) ∙ inv.left i (omega arith) (let a = o.2 in omega arith));
      keepers = c.push_reserved.ensures.items ∙ (ap (λ (ks : List (Option g.row.V.Denot)). ks ++ c.take.result ∷ []) inv.keepers ∙ sym (take_more (slots_items c.args.closed.slots) k c.take.result (ap (λ (xs : List (Option g.row.V.Denot)). get_elem? xs k) (sym inv.items) ∙ c.take.ensures.value)));
      pushed = let a = inv.pushed in let n = ap length c.push_reserved.ensures.items in let l = length-append c.loop-k.keepers.items (c.take.result ∷ []) in omega arith;
      capacity = c.push_reserved.ensures.capacity ∙ inv.capacity;
    }
