-- Where a spot stands in a list of slots, and what is written there.
use Rattle.std.proofs.Common.{◌≡◌, ℕ, ◌+◌, ◌<◌, ◌≤◌, Bool, true, false, List, [], ◌∷◌, ◌++◌, length, take, drop, get_or, suc, zero, refl, sym, ap, ◌∙◌, subst, inl, inr, arith, length-append}
use Rattle.std.specs.Prelude.{slice_set, ◌||◌, Option, Result, Ok, Err, IfOk}
use Rattle.std.proofs.lemmas.Bool.{cases_Bool, cond-true, cond-false, false≢true}
use Rattle.mz_events.specs.declared.place.Place.{Place}
use Rattle.mz_events.specs.declared.place.Place.TheVariants.{Pages, Tiny, TinyDepot, Small, SmallDepot, Large, Nano}
use Rattle.mz_events.specs.Places.{Spot, same_spot, keeper_at, spot_at, is_pages}
use Rattle.mz_events.specs.declared.event.Event.{Event}
use Rattle.mz_events.specs.State.{Kept, Value, blank, look_up, write}
use Rattle.mz_events.specs.Leaving.{left_by}
use Rattle.mz_events.specs.Effect.{write_all}
use Rattle.mz_events.specs.Sameness.{has_spot}
use Rattle.std.proofs.lemmas.List.{at_drop_more, drop_all}
use Rattle.mz_spots.specs.declared.key.Key.{Key}
use Rattle.mz_spots.specs.Keys.{spot_of_key, spots_of}
use Rattle.mz_spots.specs.SlotLists.{IsSlotFor}
use Rattle.mz_spots.proofs.SpotLemmas.{same_spot-true, look_up-write}

-- neither of two tests holds
parts_false : (a b : Bool) → (a || b) ≡ false → (a ≡ false) × (b ≡ false)
parts_false true b h = absurd (false≢true (sym h))
parts_false false b h = (refl, h)

module _ (j : Spot) where
  found_here : (values : List (Spot × Value)) (i : ℕ) (d e : Spot × Value) → i < length values → same_spot j (get_or values i d).0 ≡ true → has_spot (take i values) j ≡ false → get_or values i e ≡ (j, look_up values j)
  unfolding look_up
  found_here [] i d e below same none = absurd (omega arith)
  found_here (x ∷ xs) zero d e below same none =
      ap (λ (k : Spot). (k, x.1)) (sym (same_spot-true j x.0 same)) ∙ ap (λ (v : Value). (j, v)) (sym (cond-true (same_spot j x.0) x.1 (look_up xs j) same))
  found_here (x ∷ xs) (suc i) d e below same none =
      let parts = parts_false (same_spot j x.0) (has_spot (take i xs) j) none in
      found_here xs i d e (omega arith) same parts.1 ∙ ap (λ (v : Value). (j, v)) (sym (cond-false (same_spot j x.0) x.1 (look_up xs j) parts.0))

  set_here : (values : List (Spot × Value)) (i : ℕ) (d : Spot × Value) (v : Value) → i < length values → same_spot j (get_or values i d).0 ≡ true → has_spot (take i values) j ≡ false → slice_set values i (j, v) ≡ write values j v
  unfolding write
  set_here [] i d v below same none = absurd (omega arith)
  set_here (x ∷ xs) zero d v below same none =
      ap (λ (k : Spot). (k, v) ∷ xs) (same_spot-true j x.0 same) ∙ sym (cond-true (same_spot j x.0) ((x.0, v) ∷ xs) (x ∷ write xs j v) same)
  set_here (x ∷ xs) (suc i) d v below same none =
      let parts = parts_false (same_spot j x.0) (has_spot (take i xs) j) none in
      ap (λ l. x ∷ l) (set_here xs i d v (omega arith) same parts.1) ∙ sym (cond-false (same_spot j x.0) ((x.0, v) ∷ xs) (x ∷ write xs j v) parts.0)

  -- the first slot that has the spot
  pub slot_found : (values : List (Spot × Value)) (i : ℕ) (d : Spot × Value) → i < length values → same_spot j (get_or values i d).0 ≡ true → has_spot (take i values) j ≡ false → IsSlotFor values values i j
  slot_found values i d below same none = record {
    within = below;
    here = λ e. found_here values i d e below same none;
    writes = λ v. set_here values i d v below same none;
  }

  -- a blank slot behind slots of other spots
  blank_there : (values : List (Spot × Value)) → has_spot values j ≡ false → look_up values j ≡ blank
  unfolding look_up
  blank_there [] none = refl
  blank_there (x ∷ xs) none =
      let parts = parts_false (same_spot j x.0) (has_spot xs j) none in
      cond-false (same_spot j x.0) x.1 (look_up xs j) parts.0 ∙ blank_there xs parts.1

  last_is : (values : List (Spot × Value)) (y d : Spot × Value) → get_or (values ++ y ∷ []) (length values) d ≡ y
  last_is [] y d = refl
  last_is (x ∷ xs) y d = last_is xs y d

  last_set : (values : List (Spot × Value)) (y : Spot × Value) (v : Value) → has_spot values j ≡ false → slice_set (values ++ y ∷ []) (length values) (j, v) ≡ write values j v
  unfolding write
  last_set [] y v none = refl
  last_set (x ∷ xs) y v none =
      let parts = parts_false (same_spot j x.0) (has_spot xs j) none in
      ap (λ l. x ∷ l) (last_set xs y v parts.1) ∙ sym (cond-false (same_spot j x.0) ((x.0, v) ∷ xs) (x ∷ write xs j v) parts.0)

  pub slot_made : (old new : List (Spot × Value)) (i : ℕ) → i ≡ length old → new ≡ old ++ (j, blank) ∷ [] → has_spot old j ≡ false → IsSlotFor old new i j
  slot_made old new i at is none =
      let one : IsSlotFor old (old ++ (j, blank) ∷ []) (length old) j = record {
        within = omega (arith, length-append {A = Spot × Value});
        here = λ d. last_is old (j, blank) d ∙ ap (λ (v : Value). (j, v)) (sym (blank_there old none));
        writes = λ v. last_set old (j, blank) v none;
      } in
      subst (λ (n : ℕ). IsSlotFor old new n j) (sym at) (subst (λ (l : List (Spot × Value)). IsSlotFor old l (length old) j) (sym is) one)

-- ---- what stands in the slot, and what is written there

if_ok_so : {A E : Type 0} (r : Result A E) (P Q : A → Type 0) → ((x : A) → P x → Q x) → IfOk r P → IfOk r Q
if_ok_so (Ok x) P Q so h = so x h
if_ok_so (Err e) P Q so h = h

-- the slot of the spot k, which is j, is taken out of old, and rest is left
module _ (old rest : List (Spot × Value)) (j k : Spot) (h : Spot × Value) (named : j ≡ k) (read : h ≡ (j, look_up old j)) where
  pub slot_is : h ≡ (k, look_up old k)
  slot_is = read ∙ ap (λ (q : Spot). (q, look_up old q)) named

  pub slot_has : (P : Spot × Value → Type 0) → P (k, look_up old k) → P h
  slot_has P holds = subst P (sym slot_is) holds

  -- and put back with another value
  module _ (left : (v : Value) → write rest j v ≡ write old j v) (g : Spot × Value) (f : Value → Value) (is : g ≡ (h.0, f h.1)) where
    pub slot_put : (s : List (Spot × Value)) → s ≡ write rest g.0 g.1 → s ≡ write old k (f (look_up old k))
    slot_put s put =
        let now : g ≡ (j, f (look_up old j)) = is ∙ ap (λ (x : Spot × Value). (x.0, f x.1)) read in
        put ∙ ap (λ (x : Spot × Value). write rest x.0 x.1) now ∙ left (f (look_up old j)) ∙ ap (λ (q : Spot). write old q (f (look_up old q))) named

    pub slot_written : {E : Type 0} (r : Result (List (Spot × Value)) E) → IfOk r (λ s. s ≡ write rest g.0 g.1) → IfOk r (λ s. s ≡ write old k (f (look_up old k)))
    slot_written r put = if_ok_so r (λ s. s ≡ write rest g.0 g.1) (λ s. s ≡ write old k (f (look_up old k))) slot_put put

pub not_pages : (k : Place) (a : ℕ) → is_pages k ≡ false → spot_at k a ≡ keeper_at Pages → ⊥
not_pages Pages a h e = false≢true (sym h)
not_pages (Tiny z m) a h e = cc
not_pages (TinyDepot z) a h e = cc
not_pages (Small z m) a h e = cc
not_pages (SmallDepot z) a h e = cc
not_pages (Large z) a h e = cc
not_pages Nano a h e = cc

-- ---- one of a list of spots after another

pub kept_noted : (values : List (Spot × Value)) (k : Spot) (v : Value) (j : Spot) → v.kept ≡ (look_up values k).kept → (look_up (write values k v) j).kept ≡ (look_up values j).kept
kept_noted values k v j same = elim (cases_Bool (same_spot j k)) [
  | inl here ↦ ap (λ (x : Value). x.kept) (look_up-write values k v j ∙ cond-true (same_spot j k) v (look_up values j) here) ∙ same ∙ ap (λ (q : Spot). (look_up values q).kept) (sym (same_spot-true j k here))
  | inr other ↦ ap (λ (x : Value). x.kept) (look_up-write values k v j ∙ cond-false (same_spot j k) v (look_up values j) other)
]

-- what is written at the first of some spots, and then at the others
pub written_on : (f : Spot → Value) (keys : List Key) (values more : List (Spot × Value)) (i : ℕ) (d : Key) → i < length keys → more ≡ write values (spot_of_key (get_or keys i d)) (f (spot_of_key (get_or keys i d))) → write_all f (spots_of (drop i keys)) values ≡ write_all f (spots_of (drop (i + 1) keys)) more
unfolding write_all
written_on f keys values more i d below wrote =
    at_drop_more (λ ks. write_all f (spots_of ks) values) keys i d below
    ∙ ap (write_all f (spots_of (drop (i + 1) keys))) (sym wrote)

pub all_written : (f : Spot → Value) (keys : List Key) (values : List (Spot × Value)) (i : ℕ) → length keys ≤ i → write_all f (spots_of (drop i keys)) values ≡ values
unfolding write_all
all_written f keys values i over = ap (λ ks. write_all f (spots_of ks) values) (drop_all i keys over)

-- one spot of a list is noted
pub noted_on : (c : ℕ) (e : Event) (duty : Option Event) (keys : List Key) (old values more : List (Spot × Value)) (i : ℕ) (d : Key) → i < length keys
    → ((j : Spot) → (look_up values j).kept ≡ (look_up old j).kept) → more ≡ write values (spot_of_key (get_or keys i d)) (left_by c e (look_up values (spot_of_key (get_or keys i d))).kept duty)
    → ((j : Spot) → (look_up more j).kept ≡ (look_up old j).kept) × (write_all (λ j. left_by c e (look_up old j).kept duty) (spots_of (drop i keys)) values ≡ write_all (λ j. left_by c e (look_up old j).kept duty) (spots_of (drop (i + 1) keys)) more)
noted_on c e duty keys old values more i d below kept wrote =
    let f = λ (j : Spot). left_by c e (look_up old j).kept duty in
    let k = spot_of_key (get_or keys i d) in
    let same : more ≡ write values k (f k) = wrote ∙ ap (λ (q : Kept). write values k (left_by c e q duty)) (kept k) in (
      (λ j. ap (λ (vs : List (Spot × Value)). (look_up vs j).kept) wrote ∙ kept_noted values k (left_by c e (look_up values k).kept duty) j refl ∙ kept j),
      written_on f keys values more i d below same,
    )
