-- Passes in order of their callers are one for each.
use Rattle.std.proofs.Common.{◌≡◌, ⊎_elim, ℕ, zero, suc, ◌+◌, ◌≤◌, ◌<◌, ◌==◌, List, [], ◌∷◌, length, Some, refl, ap, arith, eq-eqb, ne_eqb}
use Rattle.std.specs.Prelude.{slice_get}
use Rattle.std.proofs.lemmas.Bool.{cases_eq}
use Rattle.mz_events.specs.Changes.{one_for}
use Rattle.mz_register.specs.declared.pass.Pass.{Pass}
use Rattle.mz_register.specs.HandIn.{passes_of}

none_before : {V : Type 0} (k : ℕ) (xs : List (Pass V)) → ((i : ℕ) (x : Pass V) → slice_get xs i ≡ Some x → x.seat.me.0.caller ≡ k + i) → (c : ℕ) → c < k → passes_of c xs ≡ 0
none_before k [] f c l = refl
none_before k (x ∷ xs) f c l =
    let o : one_for (x.seat.me.0.caller == c) ≡ 0 = ap one_for (ne_eqb x.seat.me.0.caller c (λ e. let n = f 0 x refl in omega arith)) in
    let r = none_before (k + 1) xs (λ i y e. let n = f (suc i) y e in omega arith) c (omega arith) in
    omega arith

one_from : {V : Type 0} (k : ℕ) (xs : List (Pass V)) → ((i : ℕ) (x : Pass V) → slice_get xs i ≡ Some x → x.seat.me.0.caller ≡ k + i) → (c : ℕ) → k ≤ c → c < k + length xs → passes_of c xs ≡ 1
one_from k [] f c l h = absurd (omega arith)
one_from k (x ∷ xs) f c l h = ⊎_elim
    (λ (e : c ≡ k).
    let o : one_for (x.seat.me.0.caller == c) ≡ 1 = ap one_for (eq-eqb x.seat.me.0.caller c (let n = f 0 x refl in omega arith)) in
    let r = none_before (k + 1) xs (λ i y at. let n = f (suc i) y at in omega arith) c (omega arith) in
    omega arith)
    (λ (e : c ≡ k → ⊥).
    let o : one_for (x.seat.me.0.caller == c) ≡ 0 = ap one_for (ne_eqb x.seat.me.0.caller c (λ y. let n = f 0 x refl in e (omega arith))) in
    let r = one_from (k + 1) xs (λ i y at. let n = f (suc i) y at in omega arith) c (omega arith) (omega arith) in
    omega arith)
    (cases_eq c k)

pub in_order : {V : Type 0} (n : ℕ) (xs : List (Pass V)) → length xs ≡ n → ((i : ℕ) (x : Pass V) → slice_get xs i ≡ Some x → x.seat.me.0.caller ≡ i) → (c : ℕ) → c < n → passes_of c xs ≡ 1
in_order n xs l f c h = one_from 0 xs (λ i x e. let m = f i x e in omega arith) c (omega arith) (omega arith)
