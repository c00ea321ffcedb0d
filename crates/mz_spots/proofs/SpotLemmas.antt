-- What stands at a spot after values were written.
use Rattle.std.proofs.Common.{◌≡◌, Bool, true, false, cond, List, [], ◌∷◌, refl, ap, sym, subst, ◌∙◌, inl, inr}
use Rattle.std.specs.Prelude.{◌==◌}
use Rattle.std.specs.List.{list_any}
use Rattle.std.proofs.lemmas.Bool.{and_parts, eqb-true, eq-eqb, false≢true, cases_Bool}
use Rattle.mz_events.specs.declared.place.Place.{Place}
use Rattle.mz_events.specs.declared.place.Place.TheVariants.{Pages, Tiny, TinyDepot, Small, SmallDepot, Large, Nano}
use Rattle.mz_events.specs.Places.{same_place, Spot, keeper_at, nano_page, same_spot}
use Rattle.mz_events.specs.State.{Value, look_up, write}
use Rattle.mz_events.specs.Effect.{write_all}

pub same_place-true : (j k : Place) → same_place j k ≡ true → j ≡ k
same_place-true Pages Pages h = refl
same_place-true (Tiny z m) (Tiny y n) h = let parts = and_parts (z == y) (m == n) h in let a = eqb-true z y parts.0 in let b = eqb-true m n parts.1 in cc
same_place-true (TinyDepot z) (TinyDepot y) h = ap (λ x. TinyDepot x) (eqb-true z y h)
same_place-true (Small z m) (Small y n) h = let parts = and_parts (z == y) (m == n) h in let a = eqb-true z y parts.0 in let b = eqb-true m n parts.1 in cc
same_place-true (SmallDepot z) (SmallDepot y) h = ap (λ x. SmallDepot x) (eqb-true z y h)
same_place-true (Large z) (Large y) h = ap (λ x. Large x) (eqb-true z y h)
same_place-true Nano Nano h = refl
same_place-true _ _ h = absurd (false≢true h)

pub same_place-refl : (j : Place) → same_place j j ≡ true
same_place-refl Pages = refl
same_place-refl (Tiny z m) = rw (eq-eqb z z refl, eq-eqb m m refl) refl
same_place-refl (TinyDepot z) = eq-eqb z z refl
same_place-refl (Small z m) = rw (eq-eqb z z refl, eq-eqb m m refl) refl
same_place-refl (SmallDepot z) = eq-eqb z z refl
same_place-refl (Large z) = eq-eqb z z refl
same_place-refl Nano = refl

pub same_spot-true : (j k : Spot) → same_spot j k ≡ true → j ≡ k
same_spot-true (keeper_at j) (keeper_at k) h = ap (λ x. keeper_at x) (same_place-true j k h)
same_spot-true (nano_page i) (nano_page j) h = ap (λ x. nano_page x) (eqb-true i j h)
same_spot-true _ _ h = absurd (false≢true h)

pub same_spot-refl : (j : Spot) → same_spot j j ≡ true
same_spot-refl (keeper_at j) = same_place-refl j
same_spot-refl (nano_page i) = eq-eqb i i refl

cond_again : {A : Type 0} (b : Bool) (x y z : A) → cond b x z ≡ cond b x (cond b y z)
cond_again true x y z = refl
cond_again false x y z = refl

cond_same : {A : Type 0} (b : Bool) (x y : A) → x ≡ y → cond b x y ≡ x
cond_same true x y e = refl
cond_same false x y e = sym e

pub cond_swap : {A : Type 0} (b c : Bool) (x y z : A) → (b ≡ true → c ≡ true → ⊥) → cond b x (cond c y z) ≡ cond c y (cond b x z)
cond_swap true true x y z h = absurd (h refl refl)
cond_swap true false x y z h = refl
cond_swap false true x y z h = refl
cond_swap false false x y z h = refl

pub look_up-write : (values : List (Spot × Value)) (k : Spot) (v : Value) (j : Spot) → look_up (write values k v) j ≡ cond (same_spot j k) v (look_up values j)
unfolding look_up write
look_up-write [] k v j = refl
look_up-write (pair ∷ pairs) k v j =
    elim (cases_Bool (same_spot k pair.0)) [
      | inl same ↦
          let here : cond (same_spot k pair.0) ((pair.0, v) ∷ pairs) (pair ∷ write pairs k v) ≡ (pair.0, v) ∷ pairs = rw same refl in
          ap (λ vs. look_up vs j) here ∙ cond_again (same_spot j pair.0) v pair.1 (look_up pairs j)
          ∙ ap (λ i. cond (same_spot j i) v (cond (same_spot j pair.0) pair.1 (look_up pairs j))) (sym (same_spot-true k pair.0 same))
      | inr other ↦
          let here : cond (same_spot k pair.0) ((pair.0, v) ∷ pairs) (pair ∷ write pairs k v) ≡ pair ∷ write pairs k v = rw other refl in
          ap (λ vs. look_up vs j) here ∙ ap (cond (same_spot j pair.0) pair.1) (look_up-write pairs k v j)
          ∙ cond_swap (same_spot j pair.0) (same_spot j k) pair.1 v (look_up pairs j) (λ at_pair at_k.
          false≢true (sym other ∙ subst (λ i. same_spot k i ≡ true) (sym (same_spot-true j k at_k) ∙ same_spot-true j pair.0 at_pair) (same_spot-refl k)))
    ]

-- each of these spots has its new value, and each other spot its old one
pub look_up-write_all : (f : Spot → Value) (js : List Spot) (values : List (Spot × Value)) (j : Spot) → look_up (write_all f js values) j ≡ cond (list_any (same_spot j) js) (f j) (look_up values j)
unfolding write_all
look_up-write_all f [] values j = refl
look_up-write_all f (k ∷ ks) values j =
    let written = look_up-write_all f ks (write values k (f k)) j ∙ ap (cond (list_any (same_spot j) ks) (f j)) (look_up-write values k (f k) j) in
    elim (cases_Bool (same_spot j k)) [
      | inl same ↦ written ∙ rw same (cond_same (list_any (same_spot j) ks) (f j) (f k) (ap f (same_spot-true j k same)))
      | inr other ↦ written ∙ rw other refl
    ]
