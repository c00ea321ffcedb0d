-- Members, chains and hands.
use Rattle.std.proofs.Common.{◌≡◌, ℕ, ◌<◌, ◌≤◌, ◌==◌, ◌&&◌, ◌||◌, ◌⊎◌, eqb, Bool, true, false, if◌then◌else◌, List, [], ◌∷◌, length, refl, sym, ap, ◌∙◌, subst, arith, eq-eqb, eqb-true, ne_eqb, inl, inr, ⊎_elim}
use Rattle.core.specs.List.{IsDistinct, AllByRecursion, list_any}
use Rattle.std.proofs.lemmas.Map.Steps.{length-le_from_distinct_below}
use Rattle.mz_nano.specs.declared.view.Held.{Held}
use Rattle.mz_nano.specs.Lists.{In, Distinct, Chain, is_at, without}

and_both : (x y : Bool) → (x && y) ≡ true → (x ≡ true) × (y ≡ true)
and_both true y e = (refl, e)
and_both false y e = absurd (cc)

pub at_is : (b j : ℕ) (h : Held) → h.block ≡ b → h.slot ≡ j → is_at b j h ≡ true
at_is b j h p q = ap (λ (t : Bool). t && (h.slot == j)) (eq-eqb h.block b p) ∙ eq-eqb h.slot j q

pub is_at-true : (b j : ℕ) (h : Held) → is_at b j h ≡ true → (h.block ≡ b) × (h.slot ≡ j)
is_at-true b j h e = let t = and_both (h.block == b) (h.slot == j) e in (eqb-true h.block b t.0, eqb-true h.slot j t.1)

drops : (b j : ℕ) (x h : Held) (hs : List Held) (t : Bool) → is_at b j h ≡ t → (In x (without b j hs) → In x hs × ((x.block ≡ b) × (x.slot ≡ j) → ⊥))
    → In x (if t then without b j hs else h ∷ without b j hs) → In x (h ∷ hs) × ((x.block ≡ b) × (x.slot ≡ j) → ⊥)
drops b j x h hs true e ih p = let r = ih p in (inr r.0, r.1)
drops b j x h hs false e ih p = ⊎_elim
    (λ (q : x ≡ h). (inl q, λ n. let y : is_at b j h ≡ true = at_is b j h (ap (λ (z : Held). z.block) (sym q) ∙ n.0) (ap (λ (z : Held). z.slot) (sym q) ∙ n.1) in absurd (cc)))
    (λ (q : In x (without b j hs)). let r = ih q in (inr r.0, r.1))
    p

pub in_without : (b j : ℕ) (x : Held) (hs : List Held) → In x (without b j hs) → In x hs × ((x.block ≡ b) × (x.slot ≡ j) → ⊥)
in_without b j x [] p = absurd p
in_without b j x (h ∷ hs) p = drops b j x h hs (is_at b j h) refl (in_without b j x hs) p

stays : (b j : ℕ) (x h : Held) (hs : List Held) (t : Bool) → is_at b j h ≡ t → ((x.block ≡ b) × (x.slot ≡ j) → ⊥) → (In x hs → In x (without b j hs))
    → In x (h ∷ hs) → In x (if t then without b j hs else h ∷ without b j hs)
stays b j x h hs true e n ih p = ⊎_elim
    (λ (q : x ≡ h). let r = is_at-true b j h e in absurd (n (ap (λ (z : Held). z.block) q ∙ r.0, ap (λ (z : Held). z.slot) q ∙ r.1)))
    ih p
stays b j x h hs false e n ih p = ⊎_elim (λ (q : x ≡ h). inl q) (λ (q : In x hs). inr (ih q)) p

pub without_in : (b j : ℕ) (x : Held) (hs : List Held) → ((x.block ≡ b) × (x.slot ≡ j) → ⊥) → In x hs → In x (without b j hs)
without_in b j x [] n p = absurd p
without_in b j x (h ∷ hs) n p = stays b j x h hs (is_at b j h) refl n (without_in b j x hs n) p

pub chain_frame : (links links' : ℕ → ℕ) (n : ℕ) (xs : List ℕ) → ((j : ℕ) → In j xs → links j ≡ links' j) → Chain links n xs → Chain links' n xs
chain_frame links links' n [] f c = c
chain_frame links links' n (x ∷ xs) f c = (c.0, subst (λ (m : ℕ). Chain links' m xs) (f x (inl refl)) (chain_frame links links' (links x) xs (λ j i. f j (inr i)) c.1))

pub chain_next : (links : ℕ → ℕ) (n : ℕ) (xs : List ℕ) (most : ℕ) → ((j : ℕ) → In j xs → j < most) → Chain links n xs → n ≤ most
chain_next links n [] most f c = omega arith
chain_next links n (x ∷ xs) most f c = let l = f x (inl refl) in let e = c.0 in omega arith

or_either : (x y : Bool) → (x || y) ≡ true → (x ≡ true) ⊎ (y ≡ true)
or_either true y e = inl refl
or_either false y e = inr e

any_in : (q : ℕ) (xs : List ℕ) → list_any (eqb q) xs ≡ true → In q xs
any_in q [] e = absurd (cc)
any_in q (x ∷ xs) e = ⊎_elim (λ (t : eqb q x ≡ true). inl (eqb-true q x t)) (λ (t : list_any (eqb q) xs ≡ true). inr (any_in q xs t)) (or_either (eqb q x) (list_any (eqb q) xs) e)

all_apart : (x : ℕ) (xs : List ℕ) → (In x xs → ⊥) → AllByRecursion (λ y. eqb x y ≡ false) xs
all_apart x [] n = tt
all_apart x (y ∷ ys) n = (ne_eqb x y (λ e. n (inl e)), all_apart x ys (λ i. n (inr i)))

is_distinct : (xs : List ℕ) → Distinct xs → IsDistinct eqb xs
unfolding IsDistinct
is_distinct [] d = tt
is_distinct (x ∷ xs) d = (all_apart x xs d.0, is_distinct xs d.1)

-- distinct numbers below n are at most n
pub few : (xs : List ℕ) (n : ℕ) → Distinct xs → ((j : ℕ) → In j xs → j < n) → length xs ≤ n
few xs n d f = length-le_from_distinct_below xs n (is_distinct xs d) (λ q e. f q (any_in q xs e))
