-- Requests that try nano one after another.
use Rattle.std.proofs.Common.{◌≡◌, ◌⊎◌, ℕ, zero, suc, ◌+◌, ◌≤◌, ◌==◌, Bool, true, false, cond, List, [], ◌∷◌, Option, None, Some, length, set, refl, ap, sym, subst, ◌∙◌, arith, inl, inr}
use Rattle.std.specs.Prelude.{slice_set, slice_index_or, ◌&&◌, nat_le, nat_lt, Result, Ok, Err}
use Rattle.std.specs.Option.{is_none}
use Rattle.std.proofs.lemmas.Bool.{eqb-true, eq-eqb, false≢true}
use Rattle.std.proofs.lemmas.Bool.Decides.{nat_tests}
use Rattle.std.proofs.lemmas.List.{get_or-set_same, get_or-set_other, length-set}
use Rattle.std.proofs.lemmas.List.Sums.{sum_by-append}
use Rattle.mz_book.specs.Account.{one_more}
use Rattle.mz_rack.specs.declared.lot.Null.{Null}
use Rattle.mz_nano.specs.declared.view.Held.{Held}
use Rattle.mz_nano.specs.Rule.{held}
use Rattle.mz_nano.specs.CallEffects.{risen}
use Rattle.mz_zone.specs.Blocks.{BlockView}
use Rattle.mz_zone.specs.Batches.{requests_made, served_without}
use Rattle.mz_zone.specs.Calling.{AtView, Seated, StaysSeated}
use Rattle.mz_zone.specs.Counts.{Counts, MayHaveClass, with_class, with_miss, with_pop, Tried, by_pop, by_miss, by_class, by_word, TriesIf, times, GrowsBy, TriedTimes, TriedTimesIf, has_nano, is_for_nano}

-- so many more, and then so many
times_on : (more : ℕ → ℕ) (m k n : ℕ) → times more (m + k) n ≡ times more k (times more m n)
times_on more zero k n = let e : 0 + k ≡ k = omega arith in ap (λ i. times more i n) e
times_on more (suc m) k n = let e : suc m + k ≡ suc (m + k) = omega arith in ap (λ i. times more i n) e ∙ times_on more m k (more n)

no_class : (c : ℕ) (xs : List ℕ) → GrowsBy c xs xs
no_class c xs = record { same_length = refl; each = λ b. inl refl }

-- what isn't in the list isn't set
set_outside : (xs : List ℕ) (b c : ℕ) → length xs ≤ b → set xs b c ≡ xs
set_outside [] b c l = refl
set_outside (x ∷ xs) zero c l = absurd (none l)
  where
    none : suc (length xs) ≤ 0 → ⊥
    none h = omega (arith, h)
set_outside (x ∷ xs) (suc b) c l = ap (λ (ys : List ℕ). x ∷ ys) (set_outside xs b c (omega (arith, l)))

one_class : (x : Counts) (b c : ℕ) → MayHaveClass x b c → GrowsBy c x.settled (slice_set x.settled b c)
one_class x b c may = record { same_length = length-set x.settled b c; each = λ i. by_place i (i == b) refl }
  where
    at_it : (t : Bool) → nat_lt b (length x.settled) ≡ t → MayHaveClass x b c
        → (slice_index_or (slice_set x.settled b c) b 0 ≡ slice_index_or x.settled b 0) ⊎ ((slice_index_or x.settled b 0 ≡ 0) × (slice_index_or (slice_set x.settled b c) b 0 ≡ c))
    at_it true l (inl none) = inr (none, get_or-set_same x.settled b c 0 (grind (arith, nat_tests, l)))
    at_it true l (inr same) = inl (get_or-set_same x.settled b c 0 (grind (arith, nat_tests, l)) ∙ sym same)
    at_it false l _ = inl (ap (λ (xs : List ℕ). slice_index_or xs b 0) (set_outside x.settled b c (grind (arith, nat_tests, l))))

    by_place : (i : ℕ) (t : Bool) → (i == b) ≡ t
        → (slice_index_or (slice_set x.settled b c) i 0 ≡ slice_index_or x.settled i 0) ⊎ ((slice_index_or x.settled i 0 ≡ 0) × (slice_index_or (slice_set x.settled b c) i 0 ≡ c))
    by_place i true e =
        subst (λ k. (slice_index_or (slice_set x.settled b c) k 0 ≡ slice_index_or x.settled k 0) ⊎ ((slice_index_or x.settled k 0 ≡ 0) × (slice_index_or (slice_set x.settled b c) k 0 ≡ c)))
        (sym (eqb-true i b e)) (at_it (nat_lt b (length x.settled)) refl may)
    by_place i false e = inl (get_or-set_other x.settled b i c 0 (λ h. absurd (false≢true (sym e ∙ eq-eqb i b h))))

classes_on : (c : ℕ) (xs ys zs : List ℕ) → GrowsBy c xs ys → GrowsBy c ys zs → GrowsBy c xs zs
classes_on c xs ys zs g h = record { same_length = h.same_length ∙ g.same_length; each = λ b. both b (g.each b) (h.each b) }
  where
    both : (b : ℕ)
        → (slice_index_or ys b 0 ≡ slice_index_or xs b 0) ⊎ ((slice_index_or xs b 0 ≡ 0) × (slice_index_or ys b 0 ≡ c))
        → (slice_index_or zs b 0 ≡ slice_index_or ys b 0) ⊎ ((slice_index_or ys b 0 ≡ 0) × (slice_index_or zs b 0 ≡ c))
        → (slice_index_or zs b 0 ≡ slice_index_or xs b 0) ⊎ ((slice_index_or xs b 0 ≡ 0) × (slice_index_or zs b 0 ≡ c))
    both b (inl p) (inl q) = inl (q ∙ p)
    both b (inl p) (inr q) = inr (sym p ∙ q.0, q.1)
    both b (inr p) (inl q) = inr (p.0, q ∙ p.1)
    both b (inr p) (inr q) = inr (p.0, q.1)

-- one request
once_tried : (c : ℕ) (x y : Counts) (slot : Option Held) → Tried c x slot y → TriedTimes c 1 (cond (is_none slot) 1 0) x y
once_tried c x y slot (by_pop b j got may e) =
    subst (λ (o : Option Held). TriedTimes c 1 (cond (is_none o) 1 0) x y) (sym got) (subst (λ (w : Counts). TriedTimes c 1 0 x w) (sym e) served)
  where
    served : TriedTimes c 1 0 x (with_class b c (with_pop (held b j c) x))
    served = record { missed = 0; found = 0; all = refl; tries = refl; misses = refl; founds = refl; settled = one_class x b c may }
once_tried c x y slot (by_miss got e) =
    subst (λ (o : Option Held). TriedTimes c 1 (cond (is_none o) 1 0) x y) (sym got) (subst (λ (w : Counts). TriedTimes c 1 1 x w) (sym e) missed)
  where
    missed : TriedTimes c 1 1 x (with_miss c x)
    missed = record { missed = 1; found = 0; all = refl; tries = refl; misses = refl; founds = refl; settled = no_class c x.settled }
once_tried c x y slot (by_class b j got e) =
    subst (λ (o : Option Held). TriedTimes c 1 (cond (is_none o) 1 0) x y) (sym got) (subst (λ (w : Counts). TriedTimes c 1 1 x w) (sym e)
    (record { missed = 0; found = 1; all = refl; tries = refl; misses = refl; founds = refl; settled = no_class c x.settled }))
once_tried c x y slot (by_word b j got may e) =
    subst (λ (o : Option Held). TriedTimes c 1 (cond (is_none o) 1 0) x y) (sym got) (subst (λ (w : Counts). TriedTimes c 1 1 x w) (sym e)
    (record { missed = 0; found = 1; all = refl; tries = refl; misses = refl; founds = refl; settled = one_class x b c may }))

pub once : (t : Bool) (c : ℕ) (x y : Counts) (slot : Option Held) → TriesIf t c x slot y → TriedTimesIf t c 1 (cond (is_none slot) 1 0) x y
once true c x y slot tried = once_tried c x y slot tried
once false c x y slot tried = tried.1

-- none
pub no_try : (t : Bool) (c : ℕ) (x : Counts) → TriedTimesIf t c 0 0 x x
no_try true c x = record { missed = 0; found = 0; all = refl; tries = refl; misses = refl; founds = refl; settled = no_class c x.settled }
no_try false c x = refl

-- some, and then others
pub tries_on :
    (t : Bool) (c m j n k : ℕ) (x y z : Counts) → TriedTimesIf t c m j x y → TriedTimesIf t c n k y z → TriedTimesIf t c (m + n) (j + k) x z
tries_on true c m j n k x y z a b = record {
  missed = a.missed + b.missed;
  found = a.found + b.found;
  all = let e = a.all in let f = b.all in omega (arith, e, f);
  tries = b.tries ∙ (ap (times risen n) a.tries ∙ sym (times_on risen m n x.tries));
  misses = b.misses ∙ (ap (times risen b.missed) a.misses ∙ sym (times_on risen a.missed b.missed x.misses));
  founds = b.founds ∙ (ap (times one_more b.found) a.founds ∙ sym (times_on one_more a.found b.found x.founds));
  settled = classes_on c x.settled y.settled z.settled a.settled b.settled;
}
tries_on false c m j n k x y z a b = b ∙ a

-- one block more
pub one_made : (b : BlockView) (bs : List BlockView) (got : Result (Unit {0}) Null) → 1 + requests_made bs got ≡ requests_made (b ∷ bs) got
one_made b bs (Ok u) = omega arith
one_made b bs (Err e) = omega arith

pub one_without :
    (b : BlockView) (bs : List BlockView) (got : Result (Unit {0}) Null) → cond (is_none b.slot) 1 0 + served_without bs got ≡ served_without (b ∷ bs) got
one_without b bs (Ok u) = let e = sum_by-append (λ (x : BlockView). cond (is_none x.slot) 1 0) (b ∷ []) bs in omega (arith, e)
one_without b bs (Err e) = let e = sum_by-append (λ (x : BlockView). cond (is_none x.slot) 1 0) (b ∷ []) bs in omega (arith, e)

-- nano is there still, or isn't
still_nano : (m k : Option Seated) → StaysSeated m k → has_nano k ≡ has_nano m
still_nano None None st = refl
still_nano None (Some y) st = absurd st
still_nano (Some x) None st = absurd st
still_nano (Some x) (Some y) st = refl

pub still_for_nano : (v u : AtView) (z n al : ℕ) → StaysSeated v.nano u.nano → is_for_nano u z n al ≡ is_for_nano v z n al
still_for_nano v u z n al st = ap (λ t. t && (z == 0) && nat_le n 256 && (al == 16)) (still_nano v.nano u.nano st)
