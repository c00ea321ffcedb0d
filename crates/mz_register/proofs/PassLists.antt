-- Lists of passes: how many are of a caller, and one that is put in front of the others.
use Rattle.std.proofs.Common.{◌≡◌, ◌≢◌, ⊎_elim, ℕ, zero, suc, ◌+◌, ◌≤◌, ◌<◌, ◌==◌, List, [], ◌∷◌, ◌++◌, Some, length, take, drop, refl, ap, ◌∙◌, arith, eq-eqb, ne_eqb}
use Rattle.std.specs.Prelude.{slice_get}
use Rattle.std.proofs.lemmas.Bool.{cases_eq}
use Rattle.mz_events.specs.Changes.{one_for}
use Rattle.mz_register.specs.declared.pass.Pass.{Pass}
use Rattle.mz_register.specs.Merged.{count_noted}
use Rattle.mz_register.specs.HandIn.{passes_of}
use Rattle.mz_register.proofs.MergeLemmas.{some_is}

-- where there is one of a caller, it is counted; and where one is counted, it is there

pub some_of : {V : Type 0} (c : ℕ) (xs : List (Pass V)) (i : ℕ) (x : Pass V) → slice_get xs i ≡ Some x → x.seat.me.0.caller ≡ c → 1 ≤ passes_of c xs
some_of c [] i x e o = absurd (cc)
some_of {V} c (y ∷ ys) zero x e o =
    let f : one_for (y.seat.me.0.caller == c) ≡ 1 = ap one_for (eq-eqb y.seat.me.0.caller c (ap (λ (q : Pass V). q.seat.me.0.caller) (some_is y x e) ∙ o)) in
    omega arith
some_of c (y ∷ ys) (suc i) x e o = let r = some_of c ys i x e o in omega arith

pub found_of : {V : Type 0} (c : ℕ) (xs : List (Pass V)) → 1 ≤ passes_of c xs → (i : ℕ) × (x : Pass V) × (slice_get xs i ≡ Some x) × (x.seat.me.0.caller ≡ c)
found_of c [] l = absurd (omega arith)
found_of c (y ∷ ys) l = ⊎_elim
    (λ (e : y.seat.me.0.caller ≡ c). (0, y, refl, e))
    (λ (n : y.seat.me.0.caller ≡ c → ⊥).
    let f : one_for (y.seat.me.0.caller == c) ≡ 0 = ap one_for (ne_eqb y.seat.me.0.caller c n) in
    let t = found_of c ys (omega arith) in
    (suc t.0, t.1, t.2, t.3))
    (cases_eq y.seat.me.0.caller c)

-- one is put in front of the others

past : {A : Type 0} (y z : A) (xs : List A) (j : ℕ) (x : A) → slice_get (y ∷ xs) j ≡ Some x → (k : ℕ) × (slice_get (y ∷ z ∷ xs) k ≡ Some x)
past y z xs zero x e = (0, e)
past y z xs (suc j) x e = (suc (suc j), e)

pub moved_at : {A : Type 0} (front : List A) (y : A) (back : List A) (i : ℕ) (x : A) → slice_get (front ++ y ∷ back) i ≡ Some x → (j : ℕ) × (slice_get (y ∷ (front ++ back)) j ≡ Some x)
moved_at [] y back i x e = (i, e)
moved_at (z ∷ zs) y back zero x e = (1, e)
moved_at (z ∷ zs) y back (suc i) x e = let t = moved_at zs y back i x e in past y z (zs ++ back) t.0 x t.1

pub back_at : {A : Type 0} (front : List A) (y : A) (back : List A) (j : ℕ) (x : A) → slice_get (y ∷ (front ++ back)) j ≡ Some x → (i : ℕ) × (slice_get (front ++ y ∷ back) i ≡ Some x)
back_at [] y back j x e = (j, e)
back_at (z ∷ zs) y back zero x e = let t = back_at zs y back 0 x e in (suc t.0, t.1)
back_at (z ∷ zs) y back (suc zero) x e = (0, e)
back_at (z ∷ zs) y back (suc (suc j)) x e = let t = back_at zs y back (suc j) x e in (suc t.0, t.1)

pub moved_count : {V : Type 0} (c : ℕ) (front : List (Pass V)) (y : Pass V) (back : List (Pass V)) → passes_of c (front ++ y ∷ back) ≡ one_for (y.seat.me.0.caller == c) + passes_of c (front ++ back)
moved_count c [] y back = refl
moved_count c (z ∷ zs) y back = let r = moved_count c zs y back in omega arith

-- one is taken out

pub cut_at : {A : Type 0} (xs : List A) (i : ℕ) (x : A) → slice_get xs i ≡ Some x → xs ≡ take i xs ++ x ∷ drop (suc i) xs
cut_at [] i x e = absurd (cc)
cut_at (y ∷ ys) zero x e = ap (λ (z : _). z ∷ ys) (some_is y x e)
cut_at (y ∷ ys) (suc i) x e = ap (λ (zs : _). y ∷ zs) (cut_at ys i x e)

-- the first behind others
pub at_seam : {A : Type 0} (xs ys : List A) (y : A) → slice_get (xs ++ y ∷ ys) (length xs) ≡ Some y
at_seam [] ys y = refl
at_seam (x ∷ xs) ys y = at_seam xs ys y
