-- The best fit, found from the last cached run to the first.
use Rattle.std.proofs.Common.{◌≡◌, ℕ, suc, ◌<◌, true, false, List, [], ◌∷◌, Option, Some, None, length, map, get_or, drop, drop-cons, refl, ap, sym, subst, ◌∙◌, inl, inr, arith}
use Rattle.std.specs.Prelude.{nat_lt, MatchOption}
use Rattle.std.specs.List.{HoldsAt}
use Rattle.std.proofs.lemmas.Bool.{cases_Bool, cond-true, cond-false}
use Rattle.std.proofs.lemmas.List.{get_or_default}
use Rattle.mz_base.specs.Space.{Run}
use Rattle.mz_ground.specs.Views.{SpanView}
use Rattle.mz_events.specs.Room.{best_fit, better, run_fits}
use Rattle.mz_large.specs.Large.{run_of_span}
use Rattle.mz_large.specs.Best.{fewer_of, IsBestFrom}

best-nil : (w : ℕ) → best_fit [] w ≡ None
unfolding best_fit
best-nil w = refl

best-fits : (r : Run) (rs : List Run) (w : ℕ) → run_fits w r ≡ true → best_fit (r ∷ rs) w ≡ Some (better r (best_fit rs w))
unfolding best_fit
best-fits r rs w h = cond-true (run_fits w r) (Some (better r (best_fit rs w))) (best_fit rs w) h

best-not : (r : Run) (rs : List Run) (w : ℕ) → run_fits w r ≡ false → best_fit (r ∷ rs) w ≡ best_fit rs w
unfolding best_fit
best-not r rs w h = cond-false (run_fits w r) (Some (better r (best_fit rs w))) (best_fit rs w) h

drop-end : (xs : List SpanView) → drop (length xs) xs ≡ []
drop-end [] = refl
drop-end (x ∷ xs) = drop-end xs

pub best-start : (spans : List SpanView) (w : ℕ) → IsBestFrom spans w (length spans) None
best-start spans w = record { within = omega arith; says = ap (λ l. best_fit (map run_of_span l) w) (drop-end spans) ∙ best-nil w }

split-at : (spans : List SpanView) (i : ℕ) (s : SpanView) → i < length spans → s ≡ get_or spans i s → map run_of_span (drop i spans) ≡ run_of_span s ∷ map run_of_span (drop (suc i) spans)
split-at spans i s within is = ap (map run_of_span) (drop-cons spans i s within) ∙ ap (λ t. run_of_span t ∷ map run_of_span (drop (suc i) spans)) (sym is)

-- a run that doesn't fit changes nothing
pub best-past : (spans : List SpanView) (w i : ℕ) (best : Option (ℕ × ℕ)) (s : SpanView) → IsBestFrom spans w (suc i) best → s ≡ get_or spans i s → run_fits w (run_of_span s) ≡ false → IsBestFrom spans w i best
best-past spans w i best s h is other =
    let within = h.within in
    let same : best_fit (map run_of_span (drop i spans)) w ≡ best_fit (map run_of_span (drop (suc i) spans)) w =
    ap (λ l. best_fit l w) (split-at spans i s (omega arith) is) ∙ best-not (run_of_span s) (map run_of_span (drop (suc i) spans)) w other in
    record {
      within = omega arith;
      says = subst (λ o. MatchOption best (o ≡ None) (λ p. (p.0 < length spans) × HoldsAt (λ t. (o ≡ Some (run_of_span t)) × ((run_of_span t).pages ≡ p.1)) spans p.0)) (sym same) h.says;
    }

-- one that fits is the best, or the one that was stays
pub best-here : (spans : List SpanView) (w i : ℕ) (best : Option (ℕ × ℕ)) (s : SpanView) → IsBestFrom spans w (suc i) best → s ≡ get_or spans i s → run_fits w (run_of_span s) ≡ true → IsBestFrom spans w i (Some (fewer_of best (i, (run_of_span s).pages)))
best-here spans w i None s h is fit =
    let within = h.within in
    let whole : best_fit (map run_of_span (drop i spans)) w ≡ Some (better (run_of_span s) (best_fit (map run_of_span (drop (suc i) spans)) w)) =
    ap (λ l. best_fit l w) (split-at spans i s (omega arith) is) ∙ best-fits (run_of_span s) (map run_of_span (drop (suc i) spans)) w fit in
    record {
      within = omega arith;
      says = (
        omega arith,
        λ d.
            let here : s ≡ get_or spans i d = is ∙ get_or_default spans i s d (omega arith) in
            (whole ∙ ap (λ o. Some (better (run_of_span s) o)) h.says ∙ ap (λ t. Some (run_of_span t)) here, ap (λ t. (run_of_span t).pages) (sym here)),
      );
    }
best-here spans w i (Some q) s h is fit =
    let within = h.within in
    let was = h.says in
    let whole : best_fit (map run_of_span (drop i spans)) w ≡ Some (better (run_of_span s) (best_fit (map run_of_span (drop (suc i) spans)) w)) =
    ap (λ l. best_fit l w) (split-at spans i s (omega arith) is) ∙ best-fits (run_of_span s) (map run_of_span (drop (suc i) spans)) w fit in
    let P : ℕ × ℕ → Type 0 = λ p. (p.0 < length spans) × HoldsAt (λ t. (best_fit (map run_of_span (drop i spans)) w ≡ Some (run_of_span t)) × ((run_of_span t).pages ≡ p.1)) spans p.0 in
    record {
      within = omega arith;
      says = elim (cases_Bool (nat_lt q.1 (run_of_span s).pages)) [
        | inl fewer ↦
            subst P (sym (cond-true (nat_lt q.1 (run_of_span s).pages) q (i, (run_of_span s).pages) fewer)) (
              was.0,
              λ d.
                  let both = was.1 d in
                  let u = run_of_span (get_or spans q.0 d) in
                  let less : nat_lt (run_of_span (get_or spans q.0 d)).pages (run_of_span s).pages ≡ true = ap (λ n. nat_lt n (run_of_span s).pages) both.1 ∙ fewer in (
                    whole ∙ ap (λ o. Some (better (run_of_span s) o)) both.0 ∙ ap Some (cond-true (nat_lt (run_of_span (get_or spans q.0 d)).pages (run_of_span s).pages) (run_of_span (get_or spans q.0 d)) (run_of_span s) less),
                    both.1,
                  ),
            )
        | inr no_fewer ↦
            subst P (sym (cond-false (nat_lt q.1 (run_of_span s).pages) q (i, (run_of_span s).pages) no_fewer)) (
              omega arith,
              λ d.
                  let both = was.1 d in
                  let here : s ≡ get_or spans i d = is ∙ get_or_default spans i s d (omega arith) in
                  let less : nat_lt (run_of_span (get_or spans q.0 d)).pages (run_of_span s).pages ≡ false = ap (λ n. nat_lt n (run_of_span s).pages) both.1 ∙ no_fewer in (
                    whole ∙ ap (λ o. Some (better (run_of_span s) o)) both.0
                        ∙ ap Some (cond-false (nat_lt (run_of_span (get_or spans q.0 d)).pages (run_of_span s).pages) (run_of_span (get_or spans q.0 d)) (run_of_span s) less)
                        ∙ ap (λ t. Some (run_of_span t)) here,
                    ap (λ t. (run_of_span t).pages) (sym here),
                  ),
            )
      ];
    }
