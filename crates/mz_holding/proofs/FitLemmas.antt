-- The best fit among the runs behind an index.
use Rattle.std.proofs.Common.{◌≡◌, ℕ, ◌-◌, ◌<◌, ◌≤◌, true, false, cond, List, [], ◌∷◌, length, get_or, drop, suc, zero, refl, sym, ap, ◌∙◌, arith}
use Rattle.std.specs.Prelude.{map, Option, Some, None}
use Rattle.mz_base.specs.Space.{Run}
use Rattle.mz_holding.specs.declared.extent.Extent.{Extent}
use Rattle.mz_holding.specs.HeldRuns.{run_of_extent}
use Rattle.mz_events.specs.Room.{run_fits, better, best_fit}

best_cons : (r : Run) (rs : List Run) (w : ℕ) → best_fit (r ∷ rs) w ≡ cond (run_fits w r) (Some (better r (best_fit rs w))) (best_fit rs w)
unfolding best_fit
best_cons r rs w = refl

best_nil : (w : ℕ) → best_fit [] w ≡ None
unfolding best_fit
best_nil w = refl

drop_all : (xs : List Extent) → drop (length xs) xs ≡ []
drop_all [] = refl
drop_all (x ∷ xs) = drop_all xs

drop_last : (xs : List Extent) (i : ℕ) (d : Extent) → i < length xs → drop i xs ≡ get_or xs i d ∷ drop (suc i) xs
drop_last [] i d below = absurd (omega arith)
drop_last (x ∷ xs) zero d below = refl
drop_last (x ∷ xs) (suc i) d below = drop_last xs i d (omega arith)

drop_before : (xs : List Extent) (i : ℕ) (d : Extent) → 0 < i → i ≤ length xs → drop (i - 1) xs ≡ get_or xs (i - 1) d ∷ drop i xs
drop_before xs i d some within = let next : suc (i - 1) ≡ i = omega arith in drop_last xs (i - 1) d (omega arith) ∙ ap (λ k. get_or xs (i - 1) d ∷ drop k xs) next

pub best_none : (xs : List Extent) (w : ℕ) → ◌≡◌ {A = Option Run} None (best_fit (map run_of_extent (drop (length xs) xs)) w)
best_none xs w = sym (ap (λ ys. best_fit (map run_of_extent ys) w) (drop_all xs) ∙ best_nil w)

best_before : (xs : List Extent) (i w : ℕ) (d : Extent) → 0 < i → i ≤ length xs → best_fit (map run_of_extent (drop (i - 1) xs)) w ≡ cond (run_fits w (run_of_extent (get_or xs (i - 1) d))) (Some (better (run_of_extent (get_or xs (i - 1) d)) (best_fit (map run_of_extent (drop i xs)) w))) (best_fit (map run_of_extent (drop i xs)) w)
best_before xs i w d some within = ap (λ ys. best_fit (map run_of_extent ys) w) (drop_before xs i d some within) ∙ best_cons (run_of_extent (get_or xs (i - 1) d)) (map run_of_extent (drop i xs)) w

pub best_taken : (xs : List Extent) (i w : ℕ) (d : Extent) → 0 < i → i ≤ length xs → run_fits w (run_of_extent (get_or xs (i - 1) d)) ≡ true → Some (better (run_of_extent (get_or xs (i - 1) d)) (best_fit (map run_of_extent (drop i xs)) w)) ≡ best_fit (map run_of_extent (drop (i - 1) xs)) w
best_taken xs i w d some within fits = sym (best_before xs i w d some within ∙ ap (λ t. cond t (Some (better (run_of_extent (get_or xs (i - 1) d)) (best_fit (map run_of_extent (drop i xs)) w))) (best_fit (map run_of_extent (drop i xs)) w)) fits)

pub best_passed : (xs : List Extent) (i w : ℕ) (d : Extent) → 0 < i → i ≤ length xs → run_fits w (run_of_extent (get_or xs (i - 1) d)) ≡ false → best_fit (map run_of_extent (drop i xs)) w ≡ best_fit (map run_of_extent (drop (i - 1) xs)) w
best_passed xs i w d some within fits = sym (best_before xs i w d some within ∙ ap (λ t. cond t (Some (better (run_of_extent (get_or xs (i - 1) d)) (best_fit (map run_of_extent (drop i xs)) w))) (best_fit (map run_of_extent (drop i xs)) w)) fits)
