-- A large place without duty has at most sixteen cached runs.
use Rattle.std.proofs.Common.{◌≡◌, ℕ, ◌≤◌, ◌==◌, Bool, true, false, cond, not, List, [], ◌∷◌, length, length-append, refl, ap, sym, subst, ◌∙◌, arith, inl, inr, ◌⊎◌, ⊎_elim, suc, Option, Some, None, eq-eqb}
use Rattle.std.specs.Prelude.{◌&&◌, ◌||◌, nat_lt, filter}
use Rattle.std.specs.List.{list_any, list_all}
use Rattle.std.proofs.lemmas.Bool.{cond-false, false≢true, cases_Bool, and_parts, and_from, eqb-true}
use Rattle.std.proofs.lemmas.Bool.Decides.{nat_tests}
use Rattle.mz_base.specs.declared.profile.Profile.{Profile}
use Rattle.mz_base.specs.Space.{Run, run_at, same_run, block_at, bytes_of, same_block}
use Rattle.mz_events.specs.declared.place.Place.{Place}
use Rattle.mz_events.specs.declared.place.Place.TheVariants.{Pages, Tiny, TinyDepot, Small, SmallDepot, Large, Nano}
use Rattle.mz_events.specs.declared.event.Event.{Event}
use Rattle.mz_events.specs.declared.event.Event.TheVariants.{Take, Back, Move, New, End, Size, Full, Dry, No, Open, Shut}
use Rattle.mz_events.specs.declared.entry.Entry.{Entry}
use Rattle.mz_events.specs.Places.{same_place, zone_of, are_pair, Spot, same_spot, spot_of, place_of}
use Rattle.mz_events.specs.State.{Kept, Value, State, value_at, look_up, opening}
use Rattle.mz_events.specs.Duties.{is_that, allows, back_of_oldest, death_row}
use Rattle.mz_base.specs.Lists.{drop_run}
use Rattle.mz_events.specs.Changes.{run_of}
use Rattle.mz_events.specs.Effect.{touched, touches, value_after, kept_after, after}
use Rattle.mz_events.specs.Rules.{stands, duty_first, existing, keeps, Fits}
use Rattle.mz_events.specs.History.{AreLawful, after_all, after_entry}
use Rattle.mz_events.proofs.SpotLemmas.{same_spot-true}
use Rattle.mz_events.proofs.LocalityLemmas.{value_at-untouched, value_at-touched}

filter_few : {A : Type 0} (test : A → Bool) (xs : List A) → length (filter test xs) ≤ length xs
filter_few test [] = omega arith
filter_few test (x ∷ xs) = let r = filter_few test xs in elim (test x) as (λ b. length (cond b (x ∷ filter test xs) (filter test xs)) ≤ suc (length xs)) [ true ↦ omega arith | false ↦ omega arith ]

-- no duty stands and at most 16 are cached, or at most 17 are and the oldest is owed
abbrev IsFew : ℕ → Value → Type 0
IsFew z v = ((v.duty ≡ None) × (length v.kept.cached ≤ 16)) ⊎ ((v.duty ≡ back_of_oldest (Large z) v.kept.cached) × (length v.kept.cached ≤ 17))

abbrev pub is_duty : Event → Bool
is_duty (Move f j k) = true
is_duty (Back k f w) = true
is_duty _ = false

not_that : (d e : Event) → is_duty e ≡ false → is_that d e ≡ false
not_that (Move f j k) (Move g x y) h = absurd (false≢true (sym h))
not_that (Move f j k) _ h = refl
not_that (Back k f w) (Back j g v) h = absurd (false≢true (sym h))
not_that (Back k f w) _ h = refl
not_that _ e h = refl

pub calm_before : (d : Option Event) (e : Event) → is_duty e ≡ false → allows d e ≡ true → d ≡ None
calm_before None e h a = refl
calm_before (Some d) e h a = absurd (false≢true (sym (not_that d e h) ∙ a))

none_cached : (z : ℕ) (cached : List Run) → back_of_oldest (Large z) cached ≡ None → length cached ≤ 16
none_cached z [] h = omega arith
none_cached z (r ∷ rs) h = absurd (cc)

few_calm : (z : ℕ) (v : Value) → v.duty ≡ None → IsFew z v → length v.kept.cached ≤ 16
few_calm z v n (inl x) = x.1
few_calm z v n (inr x) = none_cached z v.kept.cached (sym x.0 ∙ n)

-- what rule 2 says of a touched spot
module _ (s : State) (e : Event) (j : Spot) where
  each_allows : (js : List Spot) → list_all (λ i. allows (value_at s i).duty e) js ≡ true → list_any (same_spot j) js ≡ true → allows (value_at s j).duty e ≡ true
  each_allows [] h t = absurd (false≢true t)
  each_allows (i ∷ js) h t =
      let a = and_parts (allows (value_at s i).duty e) (list_all (λ x. allows (value_at s x).duty e) js) h in
      elim (cases_Bool (same_spot j i)) [
        | inl y ↦ ap (λ x. allows (value_at s x).duty e) (same_spot-true j i y) ∙ a.0
        | inr n ↦ each_allows js a.1 (sym (ap (λ b. b || list_any (same_spot j) js) n) ∙ t)
      ]

pub allowed_at : (p : Profile) (s : State) (c : ℕ) (e : Event) (j : Spot) → Fits p s c e → touches p e j ≡ true → allows (value_at s j).duty e ≡ true
unfolding keeps
allowed_at p s c e j f t = each_allows s e j (touched p e) (f duty_first) t

dropped_less : (z : ℕ) (cached : List Run) (k : Place) (f w : ℕ) → allows (back_of_oldest (Large z) cached) (Back k f w) ≡ true → length cached ≤ 17 → length (drop_run (run_at f w) cached) ≤ 16
dropped_less z [] k f w h l = omega arith
dropped_less z (r ∷ rs) k f w h l =
    let parts = and_parts (same_place (Large z) k && (r.first == f)) (r.pages == w) h in
    let first : f ≡ r.first = sym (eqb-true r.first f (and_parts (same_place (Large z) k) (r.first == f) parts.0).1) in
    let pages : w ≡ r.pages = sym (eqb-true r.pages w parts.1) in
    let same : same_run (run_at f w) r ≡ true = and_from (f == r.first) (w == r.pages) (eq-eqb f r.first first) (eq-eqb w r.pages pages) in
    let rest : length (drop_run (run_at f w) (r ∷ rs)) ≡ length (filter (λ x. not (same_run (run_at f w) x)) rs) = ap length (cond-false (not (same_run (run_at f w) r)) (r ∷ filter (λ x. not (same_run (run_at f w) x)) rs) (filter (λ x. not (same_run (run_at f w) x)) rs) (ap not same)) in
    let few = filter_few (λ (x : Run). not (same_run (run_at f w) x)) rs in
    omega arith

pair_not_large : (j k : Place) (z : ℕ) → are_pair j k ≡ true → list_any (same_spot (spot_of (Large z))) (spot_of j ∷ spot_of k ∷ []) ≡ true → ⊥
pair_not_large (Large y) Pages z h t = false≢true h
pair_not_large (Large y) (Tiny x m) z h t = false≢true h
pair_not_large (Large y) (TinyDepot x) z h t = false≢true h
pair_not_large (Large y) (Small x m) z h t = false≢true h
pair_not_large (Large y) (SmallDepot x) z h t = false≢true h
pair_not_large (Large y) (Large x) z h t = false≢true h
pair_not_large (Large y) Nano z h t = false≢true h
pair_not_large Pages (Large y) z h t = false≢true h
pair_not_large (Tiny x m) (Large y) z h t = false≢true h
pair_not_large (TinyDepot x) (Large y) z h t = false≢true h
pair_not_large (Small x m) (Large y) z h t = false≢true h
pair_not_large (SmallDepot x) (Large y) z h t = false≢true h
pair_not_large Nano (Large y) z h t = false≢true h
pair_not_large _ _ z h t = false≢true t

death : (z : ℕ) (k : Kept) → length k.cached ≤ 17 → IsFew z (record { kept = k; duty = death_row (Large z) k; last = None })
death z k l = elim (cases_Bool (nat_lt 16 (length k.cached))) [
  | inl y ↦ inr (ap (λ b. cond b (back_of_oldest (Large z) k.cached) None) y, l)
  | inr n ↦ inl (ap (λ b. cond b (back_of_oldest (Large z) k.cached) None) n, grind (arith, nat_tests))
]

same_zone : (z y : ℕ) → (same_spot (spot_of (Large z)) (spot_of (Large y)) || false) ≡ true → z ≡ y
same_zone z y t = elim (cases_Bool (same_spot (spot_of (Large z)) (spot_of (Large y)))) [
  | inl h ↦ ap (λ j. zone_of (place_of j)) (same_spot-true (spot_of (Large z)) (spot_of (Large y)) h)
  | inr n ↦ absurd (false≢true (sym (ap (λ b. b || false) n) ∙ t))
]

module _ (p : Profile) (s : State) (c z : ℕ) where
  abbrev at : Spot
  at = spot_of (Large z)

  calm : (e : Event) → Fits p s c e → touches p e at ≡ true → is_duty e ≡ false → (value_at s at).duty ≡ None
  calm e f t d = calm_before (value_at s at).duty e d (allowed_at p s c e at f t)

  few : (e : Event) → Fits p s c e → touches p e at ≡ true → is_duty e ≡ false → IsFew z (value_at s at) → length (value_at s at).kept.cached ≤ 16
  few e f t d h = few_calm z (value_at s at) (calm e f t d) h

  few_touched : (e : Event) → Fits p s c e → touches p e at ≡ true → IsFew z (value_at s at) → IsFew z (value_after s c e at)
  unfolding keeps
  few_touched (Take k f w) g t h = inl (refl, few (Take k f w) g t refl h)
  few_touched (Back k f w) g t h =
      let m = filter_few (λ x. not (same_run (run_at f w) x)) (value_at s at).kept.cached in
      let a = allowed_at p s c (Back k f w) at g t in
      inl (refl, ⊎_elim (λ (x : ((value_at s at).duty ≡ None) × (length (value_at s at).kept.cached ≤ 16)). omega (arith, x.1)) (λ (x : ((value_at s at).duty ≡ back_of_oldest (Large z) (value_at s at).kept.cached) × (length (value_at s at).kept.cached ≤ 17)). dropped_less z (value_at s at).kept.cached k f w (subst (λ d. allows d (Back k f w) ≡ true) x.0 a) x.1) h)
  few_touched (Move f j k) g t h = absurd (pair_not_large j k z (and_parts _ _ (and_parts _ _ (and_parts _ _ (g existing)).1).0).0 t)
  few_touched (New k a n al) g t h =
      let l = few (New k a n al) g t refl h in
      let m = filter_few (λ r. not (same_block (block_at a n) (bytes_of r))) (value_at s at).kept.cached in
      inl (refl, omega arith)
  few_touched (End (Large y) a n) g t h =
      let l = few (End (Large y) a n) g t refl h in
      let m = length-append (value_at s at).kept.cached (run_of (block_at a n) ∷ []) in
      let e : z ≡ y = same_zone z y t in
      subst (λ x. IsFew z (record { kept = kept_after s (End (Large y) a n) at; duty = death_row (Large x) (kept_after s (End (Large y) a n) at); last = None })) e (death z (kept_after s (End (Large y) a n) at) (omega arith))
  few_touched (End Pages a n) g t h = absurd (false≢true t)
  few_touched (End (Tiny y i) a n) g t h = absurd (false≢true t)
  few_touched (End (TinyDepot y) a n) g t h = absurd (false≢true t)
  few_touched (End (Small y i) a n) g t h = absurd (false≢true t)
  few_touched (End (SmallDepot y) a n) g t h = absurd (false≢true t)
  few_touched (End Nano a n) g t h = absurd (false≢true t)
  few_touched (Size (Large y) a n m) g t h = absurd (false≢true (and_parts false (stands p s (Large y)) (and_parts (nat_lt c p.callers) (false && stands p s (Large y)) (g existing)).1).0)
  few_touched (Size Pages a n m) g t h = absurd (false≢true t)
  few_touched (Size (Tiny y i) a n m) g t h = absurd (false≢true t)
  few_touched (Size (TinyDepot y) a n m) g t h = absurd (false≢true t)
  few_touched (Size (Small y i) a n m) g t h = absurd (false≢true t)
  few_touched (Size (SmallDepot y) a n m) g t h = absurd (false≢true t)
  few_touched (Size Nano a n m) g t h = absurd (false≢true t)
  few_touched (Full k n al) g t h = inl (refl, few (Full k n al) g t refl h)
  few_touched (Dry y w al) g t h =
      let l = few (Dry y w al) g t refl h in
      let e : y ≡ z = sym (same_zone z y t) in
      inr (ap (λ x. back_of_oldest (Large x) (value_at s (spot_of (Large x))).kept.cached) e, omega arith)
  few_touched (No k y a n) g t h = inl (refl, few (No k y a n) g t refl h)
  few_touched (Open y) g t h = inl (refl, few (Open y) g t refl h)
  few_touched (Shut y) g t h = inl (refl, few (Shut y) g t refl h)

  few_after : (e : Event) → Fits p s c e → IsFew z (value_at s at) → IsFew z (value_at (after p s c e) at)
  few_after e g h = elim (cases_Bool (touches p e at)) [
    | inl t ↦ subst (IsFew z) (sym (value_at-touched p s c e at t)) (few_touched e g t h)
    | inr n ↦ subst (IsFew z) (sym (value_at-untouched p s c e at n)) h
  ]

few_all : (p : Profile) (z : ℕ) (s : State) (es : List Entry) → AreLawful p s es → IsFew z (value_at s (spot_of (Large z))) → IsFew z (value_at (after_all p s es) (spot_of (Large z)))
unfolding AreLawful after_all
few_all p z s [] l h = h
few_all p z s (e ∷ es) l h = few_all p z (after_entry p s e) es l.1 (few_after p s e.caller z e.event l.0.fits h)

few_at_first : (z : ℕ) → IsFew z (value_at opening (spot_of (Large z)))
unfolding look_up
few_at_first z = inl (refl, omega arith)

pub few_cached : (p : Profile) (es : List Entry) (z : ℕ) → AreLawful p opening es → (value_at (after_all p opening es) (spot_of (Large z))).duty ≡ None → length (value_at (after_all p opening es) (spot_of (Large z))).kept.cached ≤ 16
few_cached p es z l n = few_calm z (value_at (after_all p opening es) (spot_of (Large z))) n (few_all p z opening es l (few_at_first z))

-- and at most 17 in any case
few_ever : (z : ℕ) (v : Value) → IsFew z v → length v.kept.cached ≤ 17
few_ever z v (inl x) = let few = x.1 in omega arith
few_ever z v (inr x) = x.1

pub ever_cached : (p : Profile) (es : List Entry) (z : ℕ) → AreLawful p opening es → length (value_at (after_all p opening es) (spot_of (Large z))).kept.cached ≤ 17
ever_cached p es z l = few_ever z (value_at (after_all p opening es) (spot_of (Large z))) (few_all p z opening es l (few_at_first z))
