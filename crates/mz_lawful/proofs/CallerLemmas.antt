-- A caller is found as it was last left.
use Rattle.std.proofs.Common.{◌≡◌, ℕ, false, Bool, List, [], ◌∷◌, Option, Some, None, ap, sym, refl, ◌∙◌, inl, inr}
use Rattle.std.specs.Prelude.{◌==◌, ◌≢◌, not, filter, find, cond}
use Rattle.std.proofs.lemmas.Bool.{eq-eqb, eqb-true, cases_Bool}
use Rattle.mz_lawful.specs.Standing.{Caller, Standing, newcomer, caller_at, with_caller}

-- the caller that is found, or a newcomer
abbrev found : Option (ℕ × Caller) → Caller
found None = newcomer
found (Some x) = x.1

-- the callers but c, and the first that is d
abbrev without : ℕ → List (ℕ × Caller) → List (ℕ × Caller)
without c xs = filter (λ x. not (x.0 == c)) xs

abbrev first_at : ℕ → List (ℕ × Caller) → Option (ℕ × Caller)
first_at d xs = find (λ x. x.0 == d) xs

pub own_is_found : (c : ℕ) (me : Caller) (v : Standing) → caller_at (with_caller c me v) c ≡ me
own_is_found c me v = ap (λ (b : Bool). found (cond b (Some (c, me)) (first_at c (without c v.callers)))) (eq-eqb c c refl)

differs : (c d : ℕ) → c ≢ d → (c == d) ≡ false
differs c d apart = elim (cases_Bool (c == d)) [ inl same ↦ absurd (apart (eqb-true c d same)) | inr other ↦ other ]

-- who isn't c is found the same without c
found_without : (c d : ℕ) (xs : List (ℕ × Caller)) → c ≢ d → first_at d (without c xs) ≡ first_at d xs
found_without c d [] apart = refl
found_without c d (x ∷ xs) apart =
    elim (cases_Bool (x.0 == c)) [
      | inl here ↦
          let other : (x.0 == d) ≡ false = differs x.0 d (λ same. apart (sym (eqb-true x.0 c here) ∙ same)) in
          ap (λ (b : Bool). first_at d (cond (not b) (x ∷ without c xs) (without c xs))) here ∙ found_without c d xs apart
          ∙ sym (ap (λ (b : Bool). cond b (Some x) (first_at d xs)) other)
      | inr elsewhere ↦
          ap (λ (b : Bool). first_at d (cond (not b) (x ∷ without c xs) (without c xs))) elsewhere
          ∙ ap (λ (o : Option (ℕ × Caller)). cond (x.0 == d) (Some x) o) (found_without c d xs apart)
    ]

pub others_are_found : (c d : ℕ) (me : Caller) (v : Standing) → c ≢ d → caller_at (with_caller c me v) d ≡ caller_at v d
others_are_found c d me v apart =
    ap (λ (b : Bool). found (cond b (Some (c, me)) (first_at d (without c v.callers)))) (differs c d apart) ∙ ap found (found_without c d v.callers apart)
