-- A caller's own entries.
use Rattle.std.proofs.Common.{◌≡◌, ℕ, ◌==◌, Bool, true, false, cond, List, [], ◌∷◌, ◌++◌, refl, ap, ◌∙◌, eq-eqb}
use Rattle.mz_events.specs.declared.entry.Entry.{Entry}
use Rattle.mz_events.specs.Hands.{own}

own_case : (c : ℕ) (x : Entry) (xs ys zs : List Entry) (d : Bool) → own c zs ≡ own c xs ++ ys → cond d (x ∷ own c zs) (own c zs) ≡ cond d (x ∷ own c xs) (own c xs) ++ ys
own_case c x xs ys zs true h = ap (λ es. x ∷ es) h
own_case c x xs ys zs false h = h

pub own_joined : (c : ℕ) (xs ys : List Entry) → own c (xs ++ ys) ≡ own c xs ++ own c ys
own_joined c [] ys = refl
own_joined c (x ∷ xs) ys = own_case c x xs (own c ys) (xs ++ ys) (x.caller == c) (own_joined c xs ys)

pub own_one : (c : ℕ) (e : Entry) → e.caller ≡ c → own c (e ∷ []) ≡ e ∷ []
own_one c e h = rw (eq-eqb e.caller c h) refl

pub own_more : (c : ℕ) (xs : List Entry) (e : Entry) → e.caller ≡ c → own c (xs ++ e ∷ []) ≡ own c xs ++ e ∷ []
own_more c xs e h = own_joined c xs (e ∷ []) ∙ ap (λ es. own c xs ++ es) (own_one c e h)
