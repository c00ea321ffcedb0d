-- How many entries there are at most.
use Rattle.std.proofs.Common.{◌≡◌, ℕ, ◌+◌, ◌*◌, ◌<◌, ◌≤◌, ◌==◌, Bool, true, false, cond, not, ◌⊎◌, List, [], ◌∷◌, length, refl, sym, ap, ◌∙◌, arith, eq-eqb, inl, inr, ⊎_elim, zero, suc, suc-mul}
use Rattle.std.specs.Prelude.{filter}
use Rattle.std.specs.List.{All}
use Rattle.std.proofs.lemmas.Bool.{cases_eq, false≢true}
use Rattle.std.proofs.lemmas.List.Filters.{length-filter_both}
use Rattle.std.proofs.lemmas.List.Elements.{All-nil, All-cons, All-head, All-tail}
use Rattle.mz_events.specs.declared.entry.Entry.{Entry}
use Rattle.mz_events.specs.Hands.{own}

-- the entries of all but one caller
abbrev besides : ℕ → List Entry → List Entry
besides n es = filter (λ e. not (e.caller == n)) es

lt_or : (n k : ℕ) → k < suc n → (k ≡ n) ⊎ (k < n)
lt_or n k h = ⊎_elim (λ (y : k ≡ n). inl y) (λ (y : k ≡ n → ⊥). inr (omega arith)) (cases_eq k n)

below_by : (n : ℕ) (e : Entry) (es : List Entry) (b : Bool) → (e.caller == n) ≡ b → e.caller < suc n → All (λ d. d.caller < n) es → All (λ d. d.caller < n) (cond (not b) (e ∷ es) es)
below_by n e es true is lt h = h
below_by n e es false is lt h = All-cons (λ (d : Entry). d.caller < n) e es (⊎_elim (λ (y : e.caller ≡ n). absurd (false≢true (sym is ∙ eq-eqb e.caller n y))) (λ (y : e.caller < n). y) (lt_or n e.caller lt)) h

below : (n : ℕ) (es : List Entry) → All (λ e. e.caller < suc n) es → All (λ e. e.caller < n) (besides n es)
below n [] h = All-nil (λ (e : Entry). e.caller < n)
below n (e ∷ es) h = below_by n e (besides n es) (e.caller == n) refl (All-head (λ (d : Entry). d.caller < suc n) e es h) (below n es (All-tail (λ (d : Entry). d.caller < suc n) e es h))

own_by : (c : ℕ) (e : Entry) (es fs : List Entry) (a b : Bool) → (e.caller == c) ≡ a → length (own c es) ≤ length (own c fs) → length (own c (cond b (e ∷ es) es)) ≤ length (cond a (e ∷ own c fs) (own c fs))
own_by c e es fs true false is h = omega arith
own_by c e es fs false false is h = h
own_by c e es fs true true is h = let t : length (cond (e.caller == c) (e ∷ own c es) (own c es)) ≡ suc (length (own c es)) = ap (λ x. length (cond x (e ∷ own c es) (own c es))) is in omega arith
own_by c e es fs false true is h = let t : length (cond (e.caller == c) (e ∷ own c es) (own c es)) ≡ length (own c es) = ap (λ x. length (cond x (e ∷ own c es) (own c es))) is in omega arith

own_besides : (c n : ℕ) (es : List Entry) → length (own c (besides n es)) ≤ length (own c es)
own_besides c n [] = omega arith
own_besides c n (e ∷ es) = own_by c e (besides n es) es (e.caller == c) (not (e.caller == n)) refl (own_besides c n es)

nobody : (es : List Entry) → All (λ e. e.caller < 0) es → length es ≡ 0
nobody [] h = refl
nobody (e ∷ es) h = let t = All-head (λ (d : Entry). d.caller < 0) e es h in absurd (omega arith)

-- n callers with at most m entries each have at most n * m entries
pub at_most : (m n : ℕ) (es : List Entry) → All (λ e. e.caller < n) es → ((c : ℕ) → length (own c es) ≤ m) → length es ≤ n * m
at_most m zero es h f = let z = nobody es h in omega arith
at_most m (suc n) es h f =
    let a = length-filter_both (λ (e : Entry). e.caller == n) (λ (e : Entry). not (e.caller == n)) (λ e. refl) es in
    let b = at_most m n (besides n es) (below n es h) (λ c. let x = own_besides c n es in let y = f c in omega arith) in
    let c = f n in
    let d = suc-mul n m in
    let p : ℕ = n * m in
    let b' : length (besides n es) ≤ p = b in
    let d' : suc n * m ≡ p + m = d in
    omega arith
