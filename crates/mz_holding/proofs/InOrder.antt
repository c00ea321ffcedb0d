-- What is in a list.
use Rattle.std.proofs.Common.{◌≡◌, ◌⊎◌, Bool, true, List, [], ◌∷◌, refl, ap, sym, subst, ◌∙◌, inl, inr}
use Rattle.std.specs.List.{All, list_any}
use Rattle.std.proofs.lemmas.Bool.{false≢true, or_cases, or_left, or_right}
use Rattle.std.proofs.lemmas.List.Elements.{All-nil, All-cons, All-head, All-tail}

-- x is an element of the list
abbrev pub IsIn : {A : Type 0} → A → List A → Type 0
IsIn x [] = ⊥
IsIn x (y ∷ ys) = (x ≡ y) ⊎ IsIn x ys

pub all_in : {A : Type 0} (P : A → Type 0) (xs : List A) (x : A) → All P xs → IsIn x xs → P x
all_in P [] x all h = absurd h
all_in P (y ∷ ys) x all (inl e) = subst P (sym e) (All-head P y ys all)
all_in P (y ∷ ys) x all (inr h) = all_in P ys x (All-tail P y ys all) h

pub all_from_in : {A : Type 0} (P : A → Type 0) (xs : List A) → ((x : A) → IsIn x xs → P x) → All P xs
all_from_in P [] f = All-nil P
all_from_in P (y ∷ ys) f = All-cons P y ys (f y (inl refl)) (all_from_in P ys (λ x h. f x (inr h)))

pub any_in : {A : Type 0} (test : A → Bool) (xs : List A) → list_any test xs ≡ true → (x : A) × IsIn x xs × (test x ≡ true)
any_in test [] h = absurd (false≢true h)
any_in test (y ∷ ys) h = elim (or_cases (test y) (list_any test ys) h) [
  | inl here ↦ (y, inl refl, here)
  | inr later ↦ let rest = any_in test ys later in (rest.0, inr rest.1, rest.2)
]

pub in_any : {A : Type 0} (test : A → Bool) (xs : List A) (x : A) → IsIn x xs → test x ≡ true → list_any test xs ≡ true
in_any test [] x h t = absurd h
in_any test (y ∷ ys) x (inl e) t = or_left (test y) (list_any test ys) (ap test (sym e) ∙ t)
in_any test (y ∷ ys) x (inr h) t = or_right (test y) (list_any test ys) (in_any test ys x h t)
