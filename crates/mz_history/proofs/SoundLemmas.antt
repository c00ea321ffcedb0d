-- What each spot's duty and last entry say, as entries come.
use Rattle.std.proofs.Common.{◌≡◌, ℕ, ◌≤◌, Bool, true, false, cond, List, [], ◌∷◌, refl, sym, ap, ◌∙◌, subst, inl, inr}
use Rattle.std.specs.Prelude.{◌==◌, ◌&&◌, nat_le, find, Option, Some, None}
use Rattle.std.specs.List.{list_any, list_all}
use Rattle.std.specs.Option.{option_map}
use Rattle.std.proofs.lemmas.Bool.{cases_Bool, cond-true, cond-false, and_parts, and_from, or_left, or_right, eq-eqb, leb-true, le-leb}
use Rattle.mz_base.specs.declared.profile.Profile.{Profile}
use Rattle.mz_base.specs.Space.{Run}
use Rattle.mz_events.specs.declared.place.Place.{Place}
use Rattle.mz_events.specs.declared.event.Event.{Event}
use Rattle.mz_events.specs.declared.event.Event.TheVariants.{Take, Back, Move, New, End, Size, Full, Dry, No, Open, Shut}
use Rattle.mz_events.specs.Places.{Spot, same_spot, spot_of, is_magazine, is_depot, is_large, depot_of}
use Rattle.mz_events.specs.State.{Kept, Deed, Value, State, blank, look_up, write}
use Rattle.mz_events.specs.Duties.{recirculation, empty_depot_region, back_of_oldest, death_row, duty_of_end, duty_after, is_in_excess, is_sparse, is_unused}
use Rattle.mz_events.specs.Effect.{write_all, value_after, kept_after}
use Rattle.mz_events.specs.Rules.{Fits, claim_of}
use Rattle.mz_events.specs.Fitting.{FitsByEvent}
use Rattle.mz_history.specs.Booked.{is_good_claim, is_good_duty, is_sound}

-- ---- lists of sound values

module _ (test : Value → Bool) where
  Each : List (Spot × Value) → Type 0
  Each values = list_all (λ pair. test pair.1) values ≡ true

  pub each_there : (values : List (Spot × Value)) (j : Spot) → test blank ≡ true → list_all (λ pair. test pair.1) values ≡ true → test (look_up values j) ≡ true
  unfolding look_up
  each_there [] j none all = none
  each_there (x ∷ xs) j none all =
      let parts = and_parts (test x.1) (list_all (λ pair. test pair.1) xs) all in
      elim (cases_Bool (same_spot j x.0)) [
        | inl here ↦ ap test (cond-true (same_spot j x.0) x.1 (look_up xs j) here) ∙ parts.0
        | inr other ↦ ap test (cond-false (same_spot j x.0) x.1 (look_up xs j) other) ∙ each_there xs j none parts.1
      ]

  each_write : (values : List (Spot × Value)) (k : Spot) (v : Value) → test v ≡ true → list_all (λ pair. test pair.1) values ≡ true → list_all (λ pair. test pair.1) (write values k v) ≡ true
  unfolding write
  each_write [] k v good all = and_from (test v) true good refl
  each_write (x ∷ xs) k v good all =
      let parts = and_parts (test x.1) (list_all (λ pair. test pair.1) xs) all in
      elim (cases_Bool (same_spot k x.0)) [
        | inl here ↦ ap (list_all (λ (pair : Spot × Value). test pair.1)) (cond-true (same_spot k x.0) ((x.0, v) ∷ xs) (x ∷ write xs k v) here) ∙ and_from (test v) (list_all (λ pair. test pair.1) xs) good parts.1
        | inr other ↦ ap (list_all (λ (pair : Spot × Value). test pair.1)) (cond-false (same_spot k x.0) ((x.0, v) ∷ xs) (x ∷ write xs k v) other) ∙ and_from (test x.1) (list_all (λ pair. test pair.1) (write xs k v)) parts.0 (each_write xs k v good parts.1)
      ]

  pub each_written : (f : Spot → Value) (js : List Spot) (values : List (Spot × Value)) → ((j : Spot) → test (f j) ≡ true) → list_all (λ pair. test pair.1) values ≡ true → list_all (λ pair. test pair.1) (write_all f js values) ≡ true
  unfolding write_all
  each_written f [] values good all = all
  each_written f (j ∷ js) values good all = each_written f js (write values j (f j)) good (each_write values j (f j) (good j) all)

-- ---- the duties that events leave

found_there : (test : Run → Bool) (rs : List Run) (f : Run → Event) → ((r : Run) → list_any (λ t. t.first == r.first) rs ≡ true → is_good_duty (Some (f r)) rs ≡ true) → is_good_duty (option_map f (find test rs)) rs ≡ true
found_there test rs f good = found test rs (λ r h. h)
  where
    found : (test : Run → Bool) (ts : List Run) → ((r : Run) → list_any (λ t. t.first == r.first) ts ≡ true → list_any (λ t. t.first == r.first) rs ≡ true) → is_good_duty (option_map f (find test ts)) rs ≡ true
    found test [] there = refl
    found test (t ∷ ts) there = elim (cases_Bool (test t)) [
      | inl yes_ ↦ ap (λ (o : Option Run). is_good_duty (option_map f o) rs) (cond-true (test t) (Some t) (find test ts) yes_) ∙ good t (there t (or_left (t.first == t.first) (list_any (λ u. u.first == t.first) ts) (eq-eqb t.first t.first refl)))
      | inr no_ ↦ ap (λ (o : Option Run). is_good_duty (option_map f o) rs) (cond-false (test t) (Some t) (find test ts) no_) ∙ found test ts (λ r h. there r (or_right (t.first == r.first) (list_any (λ u. u.first == r.first) ts) h))
    ]

any_good : (o : Option Event) (rs : List Run) (b : Bool) → is_good_duty o rs ≡ true → is_good_duty (cond b o None) rs ≡ true
any_good o rs true h = h
any_good o rs false h = refl

move_good : (m : Place) (k : Kept) → is_good_duty (recirculation m k) k.runs ≡ true
move_good m k = any_good (option_map (λ r. Move r.first m (depot_of m)) (find (is_sparse k.live) k.runs)) k.runs (is_in_excess k) (found_there (is_sparse k.live) k.runs (λ r. Move r.first m (depot_of m)) (λ r h. h))

back_good : (d : Place) (k : Kept) → is_good_duty (empty_depot_region d k) k.runs ≡ true
back_good d k = found_there (is_unused k.live) k.runs (λ r. Back d r.first r.pages) (λ r h. refl)

oldest_good : (l : Place) (cached rs : List Run) → is_good_duty (back_of_oldest l cached) rs ≡ true
oldest_good l [] rs = refl
oldest_good l (r ∷ cached) rs = refl

either_good : (o q : Option Event) (rs : List Run) (b : Bool) → is_good_duty o rs ≡ true → is_good_duty q rs ≡ true → is_good_duty (cond b o q) rs ≡ true
either_good o q rs true h g = h
either_good o q rs false h g = g

end_good : (k : Place) (kept : Kept) → is_good_duty (duty_of_end k kept) kept.runs ≡ true
end_good k kept =
    either_good (recirculation k kept) _ kept.runs (is_magazine k) (move_good k kept)
    (either_good (empty_depot_region k kept) _ kept.runs (is_depot k) (back_good k kept)
    (either_good (death_row k kept) None kept.runs (is_large k) (either_good (back_of_oldest k kept.cached) None kept.runs _ (oldest_good k kept.cached kept.runs) refl) refl))

duty_good : (s : State) (e : Event) (j : Spot) (kept : Kept) → is_good_duty (duty_after s e j kept) kept.runs ≡ true
duty_good s (Take k f w) j kept = refl
duty_good s (Back k f w) j kept = refl
duty_good s (Move f from to) j kept =
    let out = is_depot from && same_spot j (spot_of from) in
    either_good (empty_depot_region to kept) (cond out (empty_depot_region from kept) None) kept.runs (is_depot to && same_spot j (spot_of to)) (back_good to kept) (either_good (empty_depot_region from kept) None kept.runs out (back_good from kept) refl)
duty_good s (New k a n al) j kept = refl
duty_good s (End k a n) j kept = end_good k kept
duty_good s (Size k a n m) j kept = refl
duty_good s (Full k n al) j kept = refl
duty_good s (Dry z w al) j kept = oldest_good _ _ kept.runs
duty_good s (No k z a n) j kept = refl
duty_good s (Open z) j kept = refl
duty_good s (Shut z) j kept = refl

claim_good : (p : Profile) (s : State) (c : ℕ) (e : Event) → FitsByEvent p s c → Fits p s c e → is_good_claim (Some (record { caller = c; event = e })) ≡ true
claim_good p s c (Take k f w) law h = refl
claim_good p s c (Back k f w) law h = refl
claim_good p s c (Move f from to) law h = refl
claim_good p s c (New k a n al) law h = refl
claim_good p s c (End k a n) law h = refl
claim_good p s c (Size k a n m) law h = refl
claim_good p s c (Full k n al) law h = let may = (law.full k n al).0 h in and_from (nat_le 1 n) (nat_le 1 al) (le-leb 1 n may.some) (le-leb 1 al may.some_alignment)
claim_good p s c (Dry z w al) law h = refl
claim_good p s c (No k z a n) law h = refl
claim_good p s c (Open z) law h = refl
claim_good p s c (Shut z) law h = refl

-- what an event that fits leaves is sound
pub sound_after : (p : Profile) (s : State) (c : ℕ) (e : Event) (j : Spot) → FitsByEvent p s c → Fits p s c e → is_sound (value_after s c e j) ≡ true
sound_after p s c e j law h = and_from (is_good_claim (Some (record { caller = c; event = e }))) (is_good_duty (duty_after s e j (kept_after s e j)) (kept_after s e j).runs) (claim_good p s c e law h) (duty_good s e j (kept_after s e j))

-- ---- what is read off

pub sound_there : (values : List (Spot × Value)) (j : Spot) → list_all (λ pair. is_sound pair.1) values ≡ true → is_sound (look_up values j) ≡ true
sound_there values j all = each_there is_sound values j refl all

-- a full that is the last entry asks for something at some alignment
pub claim_some : (c : ℕ) (last : Option Deed) (claim : ℕ × ℕ) → is_good_claim last ≡ true → claim_of c last ≡ Some claim → (1 ≤ claim.0) × (1 ≤ claim.1)
claim_some c None claim good e = let clash : ◌≡◌ {A = Option (ℕ × ℕ)} None (Some claim) = e in cc
claim_some c (Some d) claim good e = of_event d.caller d.event good e
  where
    some_same : {A : Type 0} {x y : A} → Some x ≡ Some y → x ≡ y
    some_same h = cc

    none : (d : ℕ) (e : Event) → claim_of c (Some (record { caller = d; event = e })) ≡ Some claim → claim_of c (Some (record { caller = d; event = e })) ≡ None → (1 ≤ claim.0) × (1 ≤ claim.1)
    none d e h is = let clash : ◌≡◌ {A = Option (ℕ × ℕ)} None (Some claim) = sym is ∙ h in cc

    of_event : (d : ℕ) (e : Event) → is_good_claim (Some (record { caller = d; event = e })) ≡ true → claim_of c (Some (record { caller = d; event = e })) ≡ Some claim → (1 ≤ claim.0) × (1 ≤ claim.1)
    of_event d (Full k n al) good h =
        let parts = and_parts (nat_le 1 n) (nat_le 1 al) good in
        let more : 1 ≤ n = leb-true 1 n parts.0 in
        let least : 1 ≤ al = leb-true 1 al parts.1 in
        elim (cases_Bool (d == c)) [
          | inl yes_ ↦
              let is : (n, al) ≡ claim = some_same (sym (cond-true (d == c) (Some (n, al)) None yes_) ∙ h) in
              subst (λ (q : ℕ × ℕ). (1 ≤ q.0) × (1 ≤ q.1)) is (more, least)
          | inr no_ ↦ let clash : ◌≡◌ {A = Option (ℕ × ℕ)} None (Some claim) = sym (cond-false (d == c) (Some (n, al)) None no_) ∙ h in cc
        ]
    of_event d (Take k f w) good h = let clash : ◌≡◌ {A = Option (ℕ × ℕ)} None (Some claim) = h in cc
    of_event d (Back k f w) good h = let clash : ◌≡◌ {A = Option (ℕ × ℕ)} None (Some claim) = h in cc
    of_event d (Move f i k) good h = let clash : ◌≡◌ {A = Option (ℕ × ℕ)} None (Some claim) = h in cc
    of_event d (New k a n al) good h = let clash : ◌≡◌ {A = Option (ℕ × ℕ)} None (Some claim) = h in cc
    of_event d (End k a n) good h = let clash : ◌≡◌ {A = Option (ℕ × ℕ)} None (Some claim) = h in cc
    of_event d (Size k a n m) good h = let clash : ◌≡◌ {A = Option (ℕ × ℕ)} None (Some claim) = h in cc
    of_event d (Dry z w al) good h = let clash : ◌≡◌ {A = Option (ℕ × ℕ)} None (Some claim) = h in cc
    of_event d (No k z a n) good h = let clash : ◌≡◌ {A = Option (ℕ × ℕ)} None (Some claim) = h in cc
    of_event d (Open z) good h = let clash : ◌≡◌ {A = Option (ℕ × ℕ)} None (Some claim) = h in cc
    of_event d (Shut z) good h = let clash : ◌≡◌ {A = Option (ℕ × ℕ)} None (Some claim) = h in cc
