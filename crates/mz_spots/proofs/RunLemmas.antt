-- A run that comes among others is one of them.
use Rattle.std.proofs.Common.{◌≡◌, true, false, List, [], ◌∷◌, refl, ap, ◌∙◌, inl, inr}
use Rattle.std.specs.Prelude.{◌==◌, nat_lt}
use Rattle.std.proofs.lemmas.Bool.{cases_Bool, cond-true, cond-false, or_left, or_right, and_from, eq-eqb}
use Rattle.mz_base.specs.Space.{Run, same_run}
use Rattle.mz_base.specs.Lists.{insert_by, has_run, add_run}

self_same : (r : Run) → same_run r r ≡ true
self_same r = and_from (r.first == r.first) (r.pages == r.pages) (eq-eqb r.first r.first refl) (eq-eqb r.pages r.pages refl)

pub added : (r : Run) (rs : List Run) → has_run (add_run r rs) r ≡ true
unfolding insert_by
added r [] = or_left (same_run r r) false (self_same r)
added r (t ∷ rs) = elim (cases_Bool (nat_lt r.first t.first)) [
  | inl less ↦ ap (λ xs. has_run xs r) (cond-true (nat_lt r.first t.first) (r ∷ t ∷ rs) (t ∷ insert_by (λ (u : Run). u.first) r rs) less) ∙ or_left (same_run r r) (has_run (t ∷ rs) r) (self_same r)
  | inr more ↦ ap (λ xs. has_run xs r) (cond-false (nat_lt r.first t.first) (r ∷ t ∷ rs) (t ∷ insert_by (λ (u : Run). u.first) r rs) more) ∙ or_right (same_run r t) (has_run (insert_by (λ (u : Run). u.first) r rs) r) (added r rs)
]
