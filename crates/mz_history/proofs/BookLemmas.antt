-- Values by the slots that have them.
use Rattle.std.proofs.Common.{◌≡◌, ℕ, Bool, false, List, [], ◌∷◌, map, refl, sym, ap, ◌∙◌, subst, inl, inr}
use Rattle.std.specs.List.{list_all}
use Rattle.std.specs.Prelude.{◌&&◌, Option, Some, None}
use Rattle.std.proofs.lemmas.Bool.{cases_Bool, cond-true, cond-false, true≢false}
use Rattle.mz_history.proofs.SpotLemmas.{same_spot-true}
use Rattle.mz_events.specs.declared.place.Place.{Place}
use Rattle.mz_events.specs.declared.place.Place.TheVariants.{Pages, Tiny, TinyDepot, Small, SmallDepot, Large, Nano}
use Rattle.mz_events.specs.Places.{Spot, same_spot, keeper_at, spot_of, is_nano}
use Rattle.mz_events.specs.State.{Value, blank, look_up, opening}
use Rattle.mz_spots.specs.SlotLists.{found_at}
use Rattle.mz_history.specs.Booked.{IsReached, IsBooked}
use Rattle.mz_history.specs.BookedStates.{state_with}
use Rattle.mz_base.specs.Limits.{IsWithinLimits}
use Rattle.mz_base.specs.declared.profile.Profile.{Profile}
use Rattle.mz_events.specs.History.{AreLawful, after_all}

-- what stands at a spot, where a slot is found there and where none is
pub none_found : (values : List (Spot × Value)) (j : Spot) → None ≡ found_at values j → look_up values j ≡ blank
unfolding look_up
none_found [] j e = refl
none_found (pair ∷ values) j e = elim (cases_Bool (same_spot j pair.0)) [
  | inl yes_ ↦ let clash : ◌≡◌ {A = Option (Spot × Value)} None (Some pair) = e ∙ cond-true (same_spot j pair.0) (Some pair) (found_at values j) yes_ in cc
  | inr no_ ↦ cond-false (same_spot j pair.0) pair.1 (look_up values j) no_ ∙ none_found values j (e ∙ cond-false (same_spot j pair.0) (Some pair) (found_at values j) no_)
]

some_same : {A : Type 0} {x y : A} → Some x ≡ Some y → x ≡ y
some_same e = cc

pub value_found : (values : List (Spot × Value)) (j : Spot) (pair : Spot × Value) → Some pair ≡ found_at values j → look_up values j ≡ pair.1
unfolding look_up
value_found [] j pair e = let clash : ◌≡◌ {A = Option (Spot × Value)} (Some pair) None = e in cc
value_found (q ∷ values) j pair e = elim (cases_Bool (same_spot j q.0)) [
  | inl yes_ ↦ cond-true (same_spot j q.0) q.1 (look_up values j) yes_ ∙ ap (λ (x : Spot × Value). x.1) (sym (some_same (e ∙ cond-true (same_spot j q.0) (Some q) (found_at values j) yes_)))
  | inr no_ ↦ cond-false (same_spot j q.0) q.1 (look_up values j) no_ ∙ value_found values j pair (e ∙ cond-false (same_spot j q.0) (Some q) (found_at values j) no_)
]

pub spot_found : (values : List (Spot × Value)) (j : Spot) (pair : Spot × Value) → Some pair ≡ found_at values j → pair.0 ≡ j
spot_found [] j pair e = let clash : ◌≡◌ {A = Option (Spot × Value)} (Some pair) None = e in cc
spot_found (q ∷ values) j pair e = elim (cases_Bool (same_spot j q.0)) [
  | inl yes_ ↦ ap (λ (x : Spot × Value). x.0) (some_same (e ∙ cond-true (same_spot j q.0) (Some q) (found_at values j) yes_)) ∙ sym (same_spot-true j q.0 yes_)
  | inr no_ ↦ spot_found values j pair (e ∙ cond-false (same_spot j q.0) (Some q) (found_at values j) no_)
]

-- the spot of a place that isn't nano
pub keeper_spot : (k : Place) → is_nano k ≡ false → spot_of k ≡ keeper_at k
keeper_spot Pages h = refl
keeper_spot (Tiny z m) h = refl
keeper_spot (TinyDepot z) h = refl
keeper_spot (Small z m) h = refl
keeper_spot (SmallDepot z) h = refl
keeper_spot (Large z) h = refl
keeper_spot Nano h = absurd (true≢false h)

-- a test of each of some spots, over the names that code has of them
pub all_mapped : {A B : Type 0} (test : B → Bool) (f : A → B) (xs : List A) → list_all (λ x. test (f x)) xs ≡ list_all test (map f xs)
all_mapped test f [] = refl
all_mapped test f (x ∷ xs) = ap (λ b. test (f x) && b) (all_mapped test f xs)

-- the opening state is reached, by no entry
pub reached_opening : (p : Profile) → IsReached p opening
unfolding AreLawful after_all
reached_opening p = ([], tt, refl)

pub opening_booked : (p : Profile) (values : List (Spot × Value)) (zones : List ℕ) → IsWithinLimits p → values ≡ [] → zones ≡ 0 ∷ [] → IsBooked p (state_with values zones 0 0)
opening_booked p values zones limits none one =
    let at : IsBooked p opening = record { limits = limits; reached = reached_opening p; sound = refl } in
    subst (λ (vs : List (Spot × Value)). IsBooked p (state_with vs zones 0 0)) (sym none)
    (subst (λ (zs : List ℕ). IsBooked p (state_with [] zs 0 0)) (sym one) at)
