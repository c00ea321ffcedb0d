-- The best fit is what IsBestFit says.
use Rattle.std.proofs.Common.{◌≡◌, ℕ, ◌<◌, ◌≤◌, ◌-◌, true, false, List, [], ◌∷◌, ◌++◌, Option, Some, None, refl, ap, sym, subst, ◌∙◌, inl, inr, arith}
use Rattle.std.specs.Prelude.{IsTrue, nat_lt, nat_le}
use Rattle.std.specs.List.{All}
use Rattle.std.proofs.lemmas.Bool.{and_parts, and_from, cases_Bool, false≢true, leb-true, le-leb, ltb-true, ltb-false, lt-ltb, le-ltb, cond-true, cond-false, or_parts, or_from}
use Rattle.std.proofs.lemmas.List.Elements.{All-nil, All-cons, All-head, All-tail, All-same, All-append, All-weaker}
use Rattle.mz_base.specs.Space.{Run}
use Rattle.mz_events.specs.Room.{run_fits, any_fits, better, best_fit}
use Rattle.mz_events.specs.BestFit.{IsBestFit}

some_same : (r t : Run) → ◌≡◌ {A = Option Run} (Some r) (Some t) → r ≡ t
some_same r t h = cc

none_some : (r : Run) → ◌≡◌ {A = Option Run} None (Some r) → ⊥
none_some r h = cc

best_skip : (t : Run) (ts : List Run) (w : ℕ) → run_fits w t ≡ false → best_fit (t ∷ ts) w ≡ best_fit ts w
unfolding best_fit
best_skip t ts w h = cond-false (run_fits w t) (Some (better t (best_fit ts w))) (best_fit ts w) h

best_take : (t : Run) (ts : List Run) (w : ℕ) → run_fits w t ≡ true → best_fit (t ∷ ts) w ≡ Some (better t (best_fit ts w))
unfolding best_fit
best_take t ts w h = cond-true (run_fits w t) (Some (better t (best_fit ts w))) (best_fit ts w) h

-- none is found exactly where none fits
pub none_fits : (ts : List Run) (w : ℕ) → best_fit ts w ≡ None → any_fits ts w ≡ false
none_fits [] w h = refl
none_fits (t ∷ ts) w h =
    elim (cases_Bool (run_fits w t)) [
      | inl yes_ ↦ absurd (none_some (better t (best_fit ts w)) (sym h ∙ best_take t ts w yes_))
      | inr no_ ↦ or_from (run_fits w t) (any_fits ts w) no_ (none_fits ts w (sym (best_skip t ts w no_) ∙ h))
    ]

none_of_none : (w : ℕ) → best_fit [] w ≡ None
unfolding best_fit
none_of_none w = refl

pub none_by_none : (ts : List Run) (w : ℕ) → any_fits ts w ≡ false → best_fit ts w ≡ None
none_by_none [] w h = none_of_none w
none_by_none (t ∷ ts) w h =
    let parts = or_parts (run_fits w t) (any_fits ts w) h in
    best_skip t ts w parts.0 ∙ none_by_none ts w parts.1

-- where none fits, whatever is said of those that fit holds
all_by_none : (P : Run → Type 0) (ts : List Run) (w : ℕ) → any_fits ts w ≡ false → All (λ t. IsTrue (run_fits w t) → P t) ts
all_by_none P [] w h = All-nil (λ t. IsTrue (run_fits w t) → P t)
all_by_none P (t ∷ ts) w h =
    let parts = or_parts (run_fits w t) (any_fits ts w) h in
    All-cons (λ u. IsTrue (run_fits w u) → P u) t ts (λ g. absurd (false≢true (sym parts.0 ∙ g))) (all_by_none P ts w parts.1)

abbrev AllMore : ℕ → Run → List Run → Type 0
AllMore w r ts = All (λ t. IsTrue (run_fits w t) → r.pages < t.pages) ts

abbrev AllNoFewer : ℕ → Run → List Run → Type 0
AllNoFewer w r ts = All (λ t. IsTrue (run_fits w t) → r.pages ≤ t.pages) ts

-- a first run that is no larger than the best of the others is the best
first_best : (t : Run) (ts : List Run) (w : ℕ) (u : Run) → run_fits w t ≡ true → t.pages ≤ u.pages → IsBestFit ts w u → IsBestFit (t ∷ ts) w t
first_best t ts w u yes_ least b = record {
  before = [];
  behind = ts;
  stands = refl;
  is_fit = yes_;
  more = All-nil (λ v. IsTrue (run_fits w v) → t.pages < v.pages);
  no_fewer = All-same (λ v. IsTrue (run_fits w v) → t.pages ≤ v.pages) ts (b.before ++ u ∷ b.behind) b.stands (All-append (λ v. IsTrue (run_fits w v) → t.pages ≤ v.pages) b.before (u ∷ b.behind)
      (All-weaker (λ v. IsTrue (run_fits w v) → u.pages < v.pages) (λ v. IsTrue (run_fits w v) → t.pages ≤ v.pages) (λ v h g. let k : u.pages < v.pages = h g in omega arith) b.before b.more)
      (All-cons (λ v. IsTrue (run_fits w v) → t.pages ≤ v.pages) u b.behind (λ g. least)
      (All-weaker (λ v. IsTrue (run_fits w v) → u.pages ≤ v.pages) (λ v. IsTrue (run_fits w v) → t.pages ≤ v.pages) (λ v h g. let k : u.pages ≤ v.pages = h g in omega arith) b.behind b.no_fewer)));
}

-- behind one that doesn't fit, or that is larger, the best stays
later_best : (t : Run) (ts : List Run) (w : ℕ) (u : Run) → (IsTrue (run_fits w t) → u.pages < t.pages) → IsBestFit ts w u → IsBestFit (t ∷ ts) w u
later_best t ts w u larger b = record {
  before = t ∷ b.before;
  behind = b.behind;
  stands = ap (λ vs. t ∷ vs) b.stands;
  is_fit = b.is_fit;
  more = All-cons (λ v. IsTrue (run_fits w v) → u.pages < v.pages) t b.before larger b.more;
  no_fewer = b.no_fewer;
}

-- a first run that fits, beside the best of the others
best_of_two : (t : Run) (ts : List Run) (w : ℕ) (r : Run) (o : Option Run) → best_fit ts w ≡ o → ((u : Run) → best_fit ts w ≡ Some u → IsBestFit ts w u) → run_fits w t ≡ true → better t o ≡ r → IsBestFit (t ∷ ts) w r
best_of_two t ts w r None is rest yes_ e =
    subst (IsBestFit (t ∷ ts) w) e (record {
      before = [];
      behind = ts;
      stands = refl;
      is_fit = yes_;
      more = All-nil (λ v. IsTrue (run_fits w v) → t.pages < v.pages);
      no_fewer = all_by_none (λ v. t.pages ≤ v.pages) ts w (none_fits ts w is);
    })
best_of_two t ts w r (Some u) is rest yes_ e =
    elim (cases_Bool (nat_lt u.pages t.pages)) [
      | inl less ↦ subst (IsBestFit (t ∷ ts) w) (sym (cond-true (nat_lt u.pages t.pages) u t less) ∙ e) (later_best t ts w u (λ g. ltb-true u.pages t.pages less) (rest u is))
      | inr not_less ↦ subst (IsBestFit (t ∷ ts) w) (sym (cond-false (nat_lt u.pages t.pages) u t not_less) ∙ e) (first_best t ts w u yes_ (ltb-false u.pages t.pages not_less) (rest u is))
    ]

pub best_is : (ts : List Run) (w : ℕ) (r : Run) → best_fit ts w ≡ Some r → IsBestFit ts w r
best_is [] w r h = absurd (none_some r (sym (none_by_none [] w refl) ∙ h))
best_is (t ∷ ts) w r h =
    elim (cases_Bool (run_fits w t)) [
      | inr no_ ↦ later_best t ts w r (λ g. absurd (false≢true (sym no_ ∙ g))) (best_is ts w r (sym (best_skip t ts w no_) ∙ h))
      | inl yes_ ↦ best_of_two t ts w r (best_fit ts w) refl (λ u is. best_is ts w u is) yes_ (some_same (better t (best_fit ts w)) r (sym (best_take t ts w yes_) ∙ h))
    ]

stays_better : (r : Run) (behind : List Run) (w : ℕ) (o : Option Run) → best_fit behind w ≡ o → AllNoFewer w r behind → better r o ≡ r
stays_better r behind w None is least = refl
stays_better r behind w (Some u) is least =
    let b : IsBestFit behind w u = best_is behind w u is in
    let all : AllNoFewer w r (b.before ++ u ∷ b.behind) = subst (AllNoFewer w r) b.stands least in
    let at : r.pages ≤ u.pages = at_u b.before b.behind u b.is_fit all in
    cond-false (nat_lt u.pages r.pages) u r (le-ltb u.pages r.pages at)
  where
    at_u : (xs ys : List Run) (u : Run) → IsTrue (run_fits w u) → AllNoFewer w r (xs ++ u ∷ ys) → r.pages ≤ u.pages
    at_u [] ys u fit all = All-head (λ t. IsTrue (run_fits w t) → r.pages ≤ t.pages) u ys all fit
    at_u (x ∷ xs) ys u fit all = at_u xs ys u fit (All-tail (λ t. IsTrue (run_fits w t) → r.pages ≤ t.pages) x (xs ++ u ∷ ys) all)

best_at : (before behind : List Run) (w : ℕ) (r : Run) → IsTrue (run_fits w r) → AllMore w r before → AllNoFewer w r behind → best_fit (before ++ r ∷ behind) w ≡ Some r
best_at [] behind w r fit more least = best_take r behind w fit ∙ ap {B = Option Run} Some (stays_better r behind w (best_fit behind w) refl least)
best_at (t ∷ before) behind w r fit more least =
    let rest = best_at before behind w r fit (All-tail (λ v. IsTrue (run_fits w v) → r.pages < v.pages) t before more) least in
    elim (cases_Bool (run_fits w t)) [
      | inr no_ ↦ best_skip t (before ++ r ∷ behind) w no_ ∙ rest
      | inl yes_ ↦
          let larger : r.pages < t.pages = All-head (λ v. IsTrue (run_fits w v) → r.pages < v.pages) t before more yes_ in
          best_take t (before ++ r ∷ behind) w yes_ ∙ ap (λ o. Some (better t o)) rest ∙ ap {B = Option Run} Some (cond-true (nat_lt r.pages t.pages) r t (lt-ltb r.pages t.pages larger))
    ]

pub is_best : (ts : List Run) (w : ℕ) (r : Run) → IsBestFit ts w r → best_fit ts w ≡ Some r
is_best ts w r b = ap (λ vs. best_fit vs w) b.stands ∙ best_at b.before b.behind w r b.is_fit b.more b.no_fewer

-- a test of fit, in numbers
fit_parts : (w : ℕ) (r : Run) → IsTrue (run_fits w r) → (w ≤ r.pages) × (r.pages - w < w)
fit_parts w r h =
    let parts = and_parts (nat_le w r.pages) (nat_lt (r.pages - w) w) h in
    (leb-true w r.pages parts.0, ltb-true (r.pages - w) w parts.1)

fit_from : (w : ℕ) (r : Run) → w ≤ r.pages → r.pages - w < w → IsTrue (run_fits w r)
fit_from w r least less = and_from (nat_le w r.pages) (nat_lt (r.pages - w) w) (le-leb w r.pages least) (lt-ltb (r.pages - w) w less)

-- the best fit for some number of pages is the best fit for its own
pub own_best : (ts : List Run) (w : ℕ) (r : Run) → IsBestFit ts w r → IsBestFit ts r.pages r
own_best ts w r b =
    let fit : (w ≤ r.pages) × (r.pages - w < w) = fit_parts w r b.is_fit in
    record {
      before = b.before;
      behind = b.behind;
      stands = b.stands;
      is_fit = fit_from r.pages r (omega arith) (omega arith);
      more = All-weaker (λ t. IsTrue (run_fits w t) → r.pages < t.pages) (λ t. IsTrue (run_fits r.pages t) → r.pages < t.pages) (λ t h g.
          let own : (r.pages ≤ t.pages) × (t.pages - r.pages < r.pages) = fit_parts r.pages t g in
          elim (cases_Bool (nat_lt r.pages t.pages)) [
            | inl less ↦ ltb-true r.pages t.pages less
            | inr not_less ↦ let least : t.pages ≤ r.pages = ltb-false r.pages t.pages not_less in h (fit_from w t (omega arith) (omega arith))
          ]) b.before b.more;
      no_fewer = All-weaker (λ t. IsTrue (run_fits w t) → r.pages ≤ t.pages) (λ t. IsTrue (run_fits r.pages t) → r.pages ≤ t.pages) (λ t h g. (fit_parts r.pages t g).0) b.behind b.no_fewer;
    }
