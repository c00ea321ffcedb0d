-- The values that an event leaves, spot by spot.
use Rattle.std.proofs.Common.{◌≡◌, ℕ, ◌+◌, Bool, true, false, cond, List, [], ◌∷◌, ◌++◌, refl, sym, ap, ◌∙◌, subst, inl, inr, max}
use Rattle.std.specs.Prelude.{◌&&◌, find, not, Option, Some, None, Result, Ok, Err, IfOk, IsTrue}
use Rattle.std.proofs.lemmas.Bool.{cases_Bool, cond-true, cond-false, false≢true, true≢false}
use Rattle.mz_base.specs.declared.profile.Profile.{Profile}
use Rattle.mz_base.specs.Space.{Block, Run, block_at, run_at}
use Rattle.mz_base.specs.Lists.{blocks_in}
use Rattle.mz_events.specs.declared.place.Place.{Place}
use Rattle.mz_events.specs.declared.place.Place.TheVariants.{Pages, Tiny, TinyDepot, Small, SmallDepot, Large, Nano}
use Rattle.mz_events.specs.declared.entry.Entry.{Entry}
use Rattle.mz_events.specs.declared.event.Event.{Event}
use Rattle.mz_events.specs.declared.event.Event.TheVariants.{Take, Back, Move, New, End, Size, Full, Dry, No, Open, Shut}
use Rattle.mz_events.specs.Places.{Spot, keeper_at, nano_page, same_spot, spot_at, spot_of, is_pages, is_depot}
use Rattle.mz_events.specs.State.{Kept, Value, State, opening, look_up, write, kept_at, live_size}
use Rattle.mz_events.specs.Changes.{with_block, without_block, resized, with_run, without_run, with_region, region_at, pages_without, pages_with}
use Rattle.mz_events.specs.Duties.{duty_of_end, empty_depot_region, back_of_oldest}
use Rattle.mz_events.specs.Effect.{touched, value_after, write_all, values_after, zones_after, after}
use Rattle.mz_events.specs.Leaving.{left_by, LeavesByEvent}
use Rattle.mz_events.specs.Rules.{Rule, in_turn, duty_first, existing, takes_lowest, takes_claimed, backs_unused, backs_allowed, moves_in_by_duty, moves_out_claimed, fits_apart, placed, live_there, no_room, zone_changes, keeps, Fits, first_broken}
use Rattle.mz_events.specs.Fitting.{FitsByEvent}
use Rattle.mz_events.specs.History.{IsLawful, AreLawful, after_all, after_entry}
use Rattle.mz_spots.specs.SlotKinds.{IsOfRuns, duty_of_region}
use Rattle.mz_history.specs.Booked.{IsReached, IsBooked, is_sound}
use Rattle.mz_history.specs.BookedStates.{state_with}
use Rattle.mz_history.proofs.SpotLemmas.{look_up-write, same_spot-true, same_spot-refl}
use Rattle.mz_history.proofs.SoundLemmas.{each_written, sound_after}

if_ok : {A E : Type 0} (r : Result A E) (P Q : A → Type 0) → ((a : A) → P a → Q a) → IfOk r P → IfOk r Q
if_ok (Ok a) P Q f h = f a h
if_ok (Err e) P Q f h = tt

-- ---- one spot, and two

module _ (p : Profile) (s : State) (c : ℕ) (e : Event) where
  pub one_written : (j : Spot) (f : Value → Value) (old new : List (Spot × Value)) → touched p e ≡ j ∷ [] → value_after s c e j ≡ f (look_up s.values j) → s.values ≡ old → new ≡ write old j (f (look_up old j)) → new ≡ values_after p s c e
  unfolding write_all
  one_written j f old new spots is same wrote =
      wrote ∙ ap (λ (vs : List (Spot × Value)). write vs j (f (look_up vs j))) (sym same) ∙ ap (write s.values j) (sym is)
      ∙ sym (ap (λ (js : List Spot). write_all (value_after s c e) js s.values) spots)

  pub two_written : (j k : Spot) (f g : Value → Value) (old mid new : List (Spot × Value)) → touched p e ≡ j ∷ k ∷ [] → same_spot k j ≡ false → value_after s c e j ≡ f (look_up s.values j) → value_after s c e k ≡ g (look_up s.values k) → s.values ≡ old → mid ≡ write old j (f (look_up old j)) → new ≡ write mid k (g (look_up mid k)) → new ≡ values_after p s c e
  unfolding write_all
  two_written j k f g old mid new spots differ is also same wrote more =
      let first : mid ≡ write s.values j (value_after s c e j) = wrote ∙ ap (λ (vs : List (Spot × Value)). write vs j (f (look_up vs j))) (sym same) ∙ ap (write s.values j) (sym is) in
      let stays : look_up mid k ≡ look_up s.values k = ap (λ (vs : List (Spot × Value)). look_up vs k) first ∙ look_up-write s.values j (value_after s c e j) k ∙ cond-false (same_spot k j) (value_after s c e j) (look_up s.values k) differ in
      more ∙ ap (λ (v : Value). write mid k (g v)) stays ∙ ap (write mid k) (sym also) ∙ ap (λ (vs : List (Spot × Value)). write vs k (value_after s c e k)) first
      ∙ sym (ap (λ (js : List Spot). write_all (value_after s c e) js s.values) spots)

  -- the same values at each of the spots
  same_written : (f : Spot → Value) (js : List Spot) (values : List (Spot × Value)) → ((j : Spot) → value_after s c e j ≡ f j) → write_all f js values ≡ write_all (value_after s c e) js values
  unfolding write_all
  same_written f [] values is = refl
  same_written f (j ∷ js) values is = ap (λ (v : Value). write_all f js (write values j v)) (sym (is j)) ∙ same_written f js (write values j (value_after s c e j)) is

  pub all_written : (f : List (Spot × Value) → Spot → Value) (js : List Spot) (old new : List (Spot × Value)) → js ≡ touched p e → ((j : Spot) → value_after s c e j ≡ f s.values j) → s.values ≡ old → new ≡ write_all (f old) js old → new ≡ values_after p s c e
  all_written f js old new spots is same wrote =
      wrote ∙ ap (λ (vs : List (Spot × Value)). write_all (f vs) js vs) (sym same) ∙ same_written (f s.values) js s.values is
      ∙ ap (λ (ks : List Spot). write_all (value_after s c e) ks s.values) spots

-- ---- event by event

module _ (p : Profile) (s : State) (c : ℕ) (law : LeavesByEvent s c) (old new : List (Spot × Value)) (same : s.values ≡ old) where
  pub after_new : (k : Place) (a n al : ℕ) → new ≡ write old (spot_at k a) (left_by c (New k a n al) (with_block (block_at a n) (look_up old (spot_at k a)).kept) None) → new ≡ values_after p s c (New k a n al)
  after_new k a n al wrote = one_written p s c (New k a n al) (spot_at k a) (λ v. left_by c (New k a n al) (with_block (block_at a n) v.kept) None) old new refl (law.make k a n al) same wrote

  pub after_end : (k : Place) (a n : ℕ) → new ≡ write old (spot_at k a) (left_by c (End k a n) (without_block k (block_at a n) (look_up old (spot_at k a)).kept) (duty_of_end k (without_block k (block_at a n) (look_up old (spot_at k a)).kept))) → new ≡ values_after p s c (End k a n)
  after_end k a n wrote = one_written p s c (End k a n) (spot_at k a) (λ v. left_by c (End k a n) (without_block k (block_at a n) v.kept) (duty_of_end k (without_block k (block_at a n) v.kept))) old new refl (law.ends k a n) same wrote

  pub after_size : (k : Place) (a n m : ℕ) → new ≡ write old (spot_at k a) (left_by c (Size k a n m) (resized (block_at a n) (block_at a m) (look_up old (spot_at k a)).kept) None) → new ≡ values_after p s c (Size k a n m)
  after_size k a n m wrote = one_written p s c (Size k a n m) (spot_at k a) (λ v. left_by c (Size k a n m) (resized (block_at a n) (block_at a m) v.kept) None) old new refl (law.resize k a n m) same wrote

  pub after_full : (k : Place) (n al : ℕ) → new ≡ write old (spot_of k) (left_by c (Full k n al) (look_up old (spot_of k)).kept None) → new ≡ values_after p s c (Full k n al)
  after_full k n al wrote = one_written p s c (Full k n al) (spot_of k) (λ v. left_by c (Full k n al) v.kept None) old new refl (law.full k n al) same wrote

  pub after_no : (k : Place) (z a n : ℕ) (j : Spot) → j ≡ spot_at k a → new ≡ write old j (left_by c (No k z a n) (look_up old j).kept None) → new ≡ values_after p s c (No k z a n)
  after_no k z a n j at wrote = one_written p s c (No k z a n) (spot_at k a) (λ v. left_by c (No k z a n) v.kept None) old new refl (law.deny k z a n) same (wrote ∙ ap (λ (i : Spot). write old i (left_by c (No k z a n) (look_up old i).kept None)) at)

  pub after_dry : (z w al : ℕ) (js : List Spot) (duty : Option Event) → js ≡ touched p (Dry z w al) → duty ≡ back_of_oldest (Large z) (look_up old (spot_of (Large z))).kept.cached → new ≡ write_all (λ j. left_by c (Dry z w al) (look_up old j).kept duty) js old → new ≡ values_after p s c (Dry z w al)
  after_dry z w al js duty spots is wrote =
      all_written p s c (Dry z w al) (λ vs j. left_by c (Dry z w al) (look_up vs j).kept (back_of_oldest (Large z) (look_up vs (spot_of (Large z))).kept.cached)) js old new spots (law.dry z w al) same
      (wrote ∙ ap (λ (d : Option Event). write_all (λ j. left_by c (Dry z w al) (look_up old j).kept d) js old) is)

  pub after_open : (z : ℕ) (js : List Spot) → js ≡ touched p (Open z) → new ≡ write_all (λ j. left_by c (Open z) (look_up old j).kept None) js old → new ≡ values_after p s c (Open z)
  after_open z js spots wrote = all_written p s c (Open z) (λ vs j. left_by c (Open z) (look_up vs j).kept None) js old new spots (law.opens z) same wrote

  pub after_shut : (z : ℕ) (js : List Spot) → js ≡ touched p (Shut z) → new ≡ write_all (λ j. left_by c (Shut z) (look_up old j).kept None) js old → new ≡ values_after p s c (Shut z)
  after_shut z js spots wrote = all_written p s c (Shut z) (λ vs j. left_by c (Shut z) (look_up vs j).kept None) js old new spots (law.shuts z) same wrote

  pub after_take : (k : Place) (f w : ℕ) (mid : List (Spot × Value)) → is_pages k ≡ false → same_spot (keeper_at Pages) (spot_of k) ≡ false
      → mid ≡ write old (spot_of k) (left_by c (Take k f w) (with_run (run_at f w) (look_up old (spot_of k)).kept) None)
      → new ≡ write mid (keeper_at Pages) (left_by c (Take k f w) (pages_without k (run_at f w) (look_up mid (keeper_at Pages)).kept) None) → new ≡ values_after p s c (Take k f w)
  after_take k f w mid kind differ wrote more =
      two_written p s c (Take k f w) (spot_of k) (keeper_at Pages) (λ v. left_by c (Take k f w) (with_run (run_at f w) v.kept) None) (λ v. left_by c (Take k f w) (pages_without k (run_at f w) v.kept) None)
      old mid new refl differ (law.take k f w kind) (law.take_pages k f w) same wrote more

  pub after_back : (k : Place) (f w : ℕ) (mid : List (Spot × Value)) → is_pages k ≡ false → same_spot (keeper_at Pages) (spot_of k) ≡ false
      → mid ≡ write old (spot_of k) (left_by c (Back k f w) (without_run (run_at f w) (look_up old (spot_of k)).kept) None)
      → new ≡ write mid (keeper_at Pages) (left_by c (Back k f w) (pages_with k (run_at f w) (look_up mid (keeper_at Pages)).kept) None) → new ≡ values_after p s c (Back k f w)
  after_back k f w mid kind differ wrote more =
      two_written p s c (Back k f w) (spot_of k) (keeper_at Pages) (λ v. left_by c (Back k f w) (without_run (run_at f w) v.kept) None) (λ v. left_by c (Back k f w) (pages_with k (run_at f w) v.kept) None)
      old mid new refl differ (law.give_back k f w kind) (law.give_back_pages k f w) same wrote more

-- ---- an event that breaks no rule fits

none_found : (test : Rule → Bool) (r : Rule) (rs : List Rule) → find test (r ∷ rs) ≡ None → (test r ≡ false) × (find test rs ≡ None)
none_found test r rs h = elim (cases_Bool (test r)) [
  | inl yes_ ↦ let clash : ◌≡◌ {A = Option Rule} (Some r) None = sym (cond-true (test r) (Some r) (find test rs) yes_) ∙ h in cc
  | inr no_ ↦ (no_, sym (cond-false (test r) (Some r) (find test rs) no_) ∙ h)
]

kept_rule : (b : Bool) → not b ≡ false → b ≡ true
kept_rule true h = refl
kept_rule false h = absurd (true≢false h)

pub fits_unbroken : (p : Profile) (s : State) (c : ℕ) (e : Event) → first_broken p s c e ≡ None → Fits p s c e
unfolding keeps
fits_unbroken p s c e h =
    let test = λ (r : Rule). not (keeps r p s c e) in
    let a = none_found test duty_first (existing ∷ takes_lowest ∷ takes_claimed ∷ backs_unused ∷ backs_allowed ∷ moves_in_by_duty ∷ moves_out_claimed ∷ fits_apart ∷ placed ∷ live_there ∷ no_room ∷ zone_changes ∷ []) h in
    let b = none_found test existing (takes_lowest ∷ takes_claimed ∷ backs_unused ∷ backs_allowed ∷ moves_in_by_duty ∷ moves_out_claimed ∷ fits_apart ∷ placed ∷ live_there ∷ no_room ∷ zone_changes ∷ []) a.1 in
    let d = none_found test takes_lowest (takes_claimed ∷ backs_unused ∷ backs_allowed ∷ moves_in_by_duty ∷ moves_out_claimed ∷ fits_apart ∷ placed ∷ live_there ∷ no_room ∷ zone_changes ∷ []) b.1 in
    let f = none_found test takes_claimed (backs_unused ∷ backs_allowed ∷ moves_in_by_duty ∷ moves_out_claimed ∷ fits_apart ∷ placed ∷ live_there ∷ no_room ∷ zone_changes ∷ []) d.1 in
    let g = none_found test backs_unused (backs_allowed ∷ moves_in_by_duty ∷ moves_out_claimed ∷ fits_apart ∷ placed ∷ live_there ∷ no_room ∷ zone_changes ∷ []) f.1 in
    let i = none_found test backs_allowed (moves_in_by_duty ∷ moves_out_claimed ∷ fits_apart ∷ placed ∷ live_there ∷ no_room ∷ zone_changes ∷ []) g.1 in
    let j = none_found test moves_in_by_duty (moves_out_claimed ∷ fits_apart ∷ placed ∷ live_there ∷ no_room ∷ zone_changes ∷ []) i.1 in
    let k = none_found test moves_out_claimed (fits_apart ∷ placed ∷ live_there ∷ no_room ∷ zone_changes ∷ []) j.1 in
    let l = none_found test fits_apart (placed ∷ live_there ∷ no_room ∷ zone_changes ∷ []) k.1 in
    let m = none_found test placed (live_there ∷ no_room ∷ zone_changes ∷ []) l.1 in
    let n = none_found test live_there (no_room ∷ zone_changes ∷ []) m.1 in
    let o = none_found test no_room (zone_changes ∷ []) n.1 in
    let q = none_found test zone_changes ([]) o.1 in
    λ r. elim r as (λ r. IsTrue (keeps r p s c e)) [
      | in_turn ↦ refl
      | duty_first ↦ kept_rule (keeps duty_first p s c e) a.0
      | existing ↦ kept_rule (keeps existing p s c e) b.0
      | takes_lowest ↦ kept_rule (keeps takes_lowest p s c e) d.0
      | takes_claimed ↦ kept_rule (keeps takes_claimed p s c e) f.0
      | backs_unused ↦ kept_rule (keeps backs_unused p s c e) g.0
      | backs_allowed ↦ kept_rule (keeps backs_allowed p s c e) i.0
      | moves_in_by_duty ↦ kept_rule (keeps moves_in_by_duty p s c e) j.0
      | moves_out_claimed ↦ kept_rule (keeps moves_out_claimed p s c e) k.0
      | fits_apart ↦ kept_rule (keeps fits_apart p s c e) l.0
      | placed ↦ kept_rule (keeps placed p s c e) m.0
      | live_there ↦ kept_rule (keeps live_there p s c e) n.0
      | no_room ↦ kept_rule (keeps no_room p s c e) o.0
      | zone_changes ↦ kept_rule (keeps zone_changes p s c e) q.0
    ]

-- ---- the state after an event

pub state_is : (p : Profile) (s : State) (c : ℕ) (e : Event) (slots : List (Spot × Value)) (zones : List ℕ) (entries greatest : ℕ) → slots ≡ values_after p s c e → zones ≡ zones_after s.open_zones e → entries ≡ s.entries + 1 → greatest ≡ max s.greatest (live_size slots) → state_with slots zones entries greatest ≡ after p s c e
unfolding after
state_is p s c e slots zones entries greatest a b d f =
    ap (λ (vs : List (Spot × Value)). state_with vs zones entries greatest) a
    ∙ ap (λ (zs : List ℕ). state_with (values_after p s c e) zs entries greatest) b
    ∙ ap (λ (n : ℕ). state_with (values_after p s c e) (zones_after s.open_zones e) n greatest) d
    ∙ ap (λ (n : ℕ). state_with (values_after p s c e) (zones_after s.open_zones e) (s.entries + 1) n) (f ∙ ap (λ (vs : List (Spot × Value)). max s.greatest (live_size vs)) a)

abbrev pub LawfulJoined : Type 0
LawfulJoined = (p : Profile) (s : State) (xs ys : List Entry) → (AreLawful p s xs × AreLawful p (after_all p s xs) ys) → AreLawful p s (xs ++ ys)

abbrev pub LawfulOne : Type 0
LawfulOne = (p : Profile) (s : State) (e : Entry) → IsLawful p s e → AreLawful p s (e ∷ [])

abbrev pub StatesJoined : Type 0
StatesJoined = (p : Profile) (s : State) (xs ys : List Entry) → after_all p s (xs ++ ys) ≡ after_all p (after_all p s xs) ys

abbrev pub StatesOne : Type 0
StatesOne = (p : Profile) (s : State) (e : Entry) → after_all p s (e ∷ []) ≡ after_entry p s e

reached_after : LawfulJoined → LawfulOne → StatesJoined → StatesOne → (p : Profile) (s : State) (c : ℕ) (e : Event) → IsReached p s → Fits p s c e → IsReached p (after p s c e)
reached_after joined one states state p s c e reached fits =
    let es = reached.0 in
    let t = after_all p opening es in
    subst (λ (u : State). Fits p u c e → IsReached p (after p u c e)) (sym reached.2)
    (λ (h : Fits p t c e).
    let entry : Entry = record { ticket = t.entries; caller = c; event = e } in (
      es ++ entry ∷ [],
      joined p opening es (entry ∷ []) (reached.1, one p t entry (record { in_turn = refl; fits = h })),
      sym (states p opening es (entry ∷ []) ∙ state p t entry),
    ))
    fits

pub booked_after : LawfulJoined → LawfulOne → StatesJoined → StatesOne → (p : Profile) (s : State) (c : ℕ) (e : Event) → FitsByEvent p s c → IsBooked p s → Fits p s c e → IsBooked p (after p s c e)
unfolding after
booked_after joined one states state p s c e law booked fits = record {
  limits = booked.limits;
  reached = reached_after joined one states state p s c e booked.reached fits;
  sound = each_written is_sound (value_after s c e) (touched p e) s.values (λ j. sound_after p s c e j law fits) booked.sound;
}

-- ---- runs that go between two spots

of_it : (P : Event → Type 0) (e d : Event) → e ≡ d → P d → P e
of_it P e d is h = subst P (sym is) h

-- a spot that can have runs isn't that of the free pages
pub kind_apart : (k : Place) → IsOfRuns (spot_of k) → (is_pages k ≡ false) × (same_spot (keeper_at Pages) (spot_of k) ≡ false)
kind_apart Pages h = absurd (false≢true (sym h.2 ∙ ap pages_at (sym h.1)))
  where
    pages_at : Spot → Bool
    pages_at (keeper_at k) = is_pages k
    pages_at (nano_page i) = false
kind_apart (Tiny z m) h = (refl, refl)
kind_apart (TinyDepot z) h = (refl, refl)
kind_apart (Small z m) h = (refl, refl)
kind_apart (SmallDepot z) h = (refl, refl)
kind_apart (Large z) h = (refl, refl)
kind_apart Nano h = (refl, refl)

-- what is written at one spot leaves another as it was
pub stays_there : (old mid : List (Spot × Value)) (j k : Spot) (v : Value) → same_spot k j ≡ false → mid ≡ write old j v → look_up mid k ≡ look_up old k
stays_there old mid j k v differ wrote = ap (λ (vs : List (Spot × Value)). look_up vs k) wrote ∙ look_up-write old j v k ∙ cond-false (same_spot k j) v (look_up old k) differ

other_way : (i j : Spot) → same_spot j i ≡ false → same_spot i j ≡ false
other_way i j differ = elim (cases_Bool (same_spot i j)) [
  | inl yes_ ↦ absurd (false≢true (sym differ ∙ ap (λ (k : Spot). same_spot j k) (same_spot-true i j yes_) ∙ same_spot-refl j))
  | inr no_ ↦ no_
]

duty_behind : (a b : Bool) (o q : Option Event) → cond (a && false) o (cond (b && true) q None) ≡ cond b q None
duty_behind true true o q = refl
duty_behind true false o q = refl
duty_behind false true o q = refl
duty_behind false false o q = refl

duty_ahead : (a b : Bool) (o q : Option Event) → cond (a && true) o (cond (b && false) q None) ≡ cond a o None
duty_ahead true true o q = refl
duty_ahead true false o q = refl
duty_ahead false true o q = refl
duty_ahead false false o q = refl

module _ (s : State) (c f : ℕ) (j k : Place) where
  moved : Kept → Kept → Bool → Bool → Value
  moved a b here there = left_by c (Move f j k) (cond here a b) (cond (is_depot k && there) (empty_depot_region k (cond here a b)) (cond (is_depot j && here) (empty_depot_region j (cond here a b)) None))

  region : Run
  region = region_at (kept_at s (spot_of j)).runs f

  moved_at : Spot → Value
  moved_at i = moved (without_run region (kept_at s i)) (with_region region (blocks_in (kept_at s (spot_of j)).live region) (kept_at s i)) (same_spot i (spot_of j)) (same_spot i (spot_of k))

  -- what the region leaves behind
  pub left_behind : same_spot (spot_of k) (spot_of j) ≡ false → value_after s c (Move f j k) (spot_of j) ≡ left_by c (Move f j k) (without_run (region_at (kept_at s (spot_of j)).runs f) (kept_at s (spot_of j))) (duty_of_region j (without_run (region_at (kept_at s (spot_of j)).runs f) (kept_at s (spot_of j))))
  unfolding moved region moved_at
  left_behind differ =
      let i = spot_of j in
      let r = region_at (kept_at s (spot_of j)).runs f in
      let a = without_run r (kept_at s i) in
      let b = with_region r (blocks_in (kept_at s (spot_of j)).live r) (kept_at s i) in
      let one : value_after s c (Move f j k) i ≡ moved a b (same_spot i i) (same_spot i (spot_of k)) = refl in
      one ∙ ap (λ (x : Bool). moved a b x (same_spot i (spot_of k))) (same_spot-refl i) ∙ ap (λ (x : Bool). moved a b true x) (other_way i (spot_of k) differ)
      ∙ ap (λ (o : Option Event). left_by c (Move f j k) a o) (duty_behind (is_depot k) (is_depot j) (empty_depot_region k a) (empty_depot_region j a))

  -- and what it brings
  pub brought : (r : Run) (live : List Block) → same_spot (spot_of k) (spot_of j) ≡ false → r ≡ region_at (kept_at s (spot_of j)).runs f → live ≡ blocks_in (kept_at s (spot_of j)).live (region_at (kept_at s (spot_of j)).runs f)
      → value_after s c (Move f j k) (spot_of k) ≡ left_by c (Move f j k) (with_region r live (kept_at s (spot_of k))) (duty_of_region k (with_region r live (kept_at s (spot_of k))))
  unfolding moved region moved_at
  brought r live differ run blocks =
      let i = spot_of k in
      let q = region_at (kept_at s (spot_of j)).runs f in
      let bs = blocks_in (kept_at s (spot_of j)).live q in
      let a = without_run q (kept_at s i) in
      let b = with_region q bs (kept_at s i) in
      let one : value_after s c (Move f j k) i ≡ moved a b (same_spot i (spot_of j)) (same_spot i i) = refl in
      one ∙ ap (λ (x : Bool). moved a b x (same_spot i i)) differ ∙ ap (λ (x : Bool). moved a b false x) (same_spot-refl i)
      ∙ ap (λ (o : Option Event). left_by c (Move f j k) b o) (duty_ahead (is_depot k) (is_depot j) (empty_depot_region k b) (empty_depot_region j b))
      ∙ ap (λ (x : Run). left_by c (Move f j k) (with_region x bs (kept_at s i)) (duty_of_region k (with_region x bs (kept_at s i)))) (sym run)
      ∙ ap (λ (x : List Block). left_by c (Move f j k) (with_region r x (kept_at s i)) (duty_of_region k (with_region r x (kept_at s i)))) (sym blocks)

module _ (p : Profile) (s : State) (c : ℕ) (law : LeavesByEvent s c) (old mid new : List (Spot × Value)) (same : s.values ≡ old) (e : Event) where
  pub take_after : (k : Place) (f w : ℕ) → e ≡ Take k f w → IsOfRuns (spot_of k)
      → mid ≡ write old (spot_of k) (left_by c e (with_run (run_at f w) (look_up old (spot_of k)).kept) None)
      → new ≡ write mid (keeper_at Pages) (left_by c e (pages_without k (run_at f w) (look_up mid (keeper_at Pages)).kept) None) → new ≡ values_after p s c e
  take_after k f w is kind wrote more =
      of_it (λ d. mid ≡ write old (spot_of k) (left_by c d (with_run (run_at f w) (look_up old (spot_of k)).kept) None) → new ≡ write mid (keeper_at Pages) (left_by c d (pages_without k (run_at f w) (look_up mid (keeper_at Pages)).kept) None) → new ≡ values_after p s c d) e (Take k f w) is
      (λ a b. after_take p s c law old new same k f w mid (kind_apart k kind).0 (kind_apart k kind).1 a b) wrote more

  pub back_after : (k : Place) (f w : ℕ) → e ≡ Back k f w → IsOfRuns (spot_of k) → region_at (look_up old (spot_of k)).kept.runs f ≡ run_at f w
      → mid ≡ write old (spot_of k) (left_by c e (without_run (region_at (look_up old (spot_of k)).kept.runs f) (look_up old (spot_of k)).kept) None)
      → new ≡ write mid (keeper_at Pages) (left_by c e (pages_with k (run_at f w) (look_up mid (keeper_at Pages)).kept) None) → new ≡ values_after p s c e
  back_after k f w is kind run wrote more =
      of_it (λ d. mid ≡ write old (spot_of k) (left_by c d (without_run (run_at f w) (look_up old (spot_of k)).kept) None) → new ≡ write mid (keeper_at Pages) (left_by c d (pages_with k (run_at f w) (look_up mid (keeper_at Pages)).kept) None) → new ≡ values_after p s c d) e (Back k f w) is
      (λ a b. after_back p s c law old new same k f w mid (kind_apart k kind).0 (kind_apart k kind).1 a b)
      (wrote ∙ ap (λ (r : Run). write old (spot_of k) (left_by c e (without_run r (look_up old (spot_of k)).kept) None)) run) more

  -- a region with its live blocks, from one place to the other
  pub move_after : (f : ℕ) (j k : Place) (r : Run) (live : List Block) → e ≡ Move f j k → same_spot (spot_of k) (spot_of j) ≡ false
      → r ≡ region_at (look_up old (spot_of j)).kept.runs f → live ≡ blocks_in (look_up old (spot_of j)).kept.live (region_at (look_up old (spot_of j)).kept.runs f)
      → mid ≡ write old (spot_of j) (left_by c e (without_run (region_at (look_up old (spot_of j)).kept.runs f) (look_up old (spot_of j)).kept) (duty_of_region j (without_run (region_at (look_up old (spot_of j)).kept.runs f) (look_up old (spot_of j)).kept)))
      → new ≡ write mid (spot_of k) (left_by c e (with_region r live (look_up mid (spot_of k)).kept) (duty_of_region k (with_region r live (look_up mid (spot_of k)).kept)))
      → new ≡ values_after p s c e
  move_after f j k r live is differ run blocks wrote more =
      of_it (λ d. mid ≡ write old (spot_of j) (left_by c d (without_run (region_at (look_up old (spot_of j)).kept.runs f) (look_up old (spot_of j)).kept) (duty_of_region j (without_run (region_at (look_up old (spot_of j)).kept.runs f) (look_up old (spot_of j)).kept)))
      → new ≡ write mid (spot_of k) (left_by c d (with_region r live (look_up mid (spot_of k)).kept) (duty_of_region k (with_region r live (look_up mid (spot_of k)).kept))) → new ≡ values_after p s c d) e (Move f j k) is
      (λ a b. two_written p s c (Move f j k) (spot_of j) (spot_of k)
      (λ v. left_by c (Move f j k) (without_run (region_at v.kept.runs f) v.kept) (duty_of_region j (without_run (region_at v.kept.runs f) v.kept)))
      (λ v. left_by c (Move f j k) (with_region r live v.kept) (duty_of_region k (with_region r live v.kept)))
      old mid new refl differ (left_behind s c f j k differ) (brought s c f j k r live differ (run ∙ ap (λ (vs : List (Spot × Value)). region_at (look_up vs (spot_of j)).kept.runs f) (sym same)) (blocks ∙ ap (λ (vs : List (Spot × Value)). blocks_in (look_up vs (spot_of j)).kept.live (region_at (look_up vs (spot_of j)).kept.runs f)) (sym same))) same a b) wrote more

-- ---- answers that pass through

abbrev pub LawOfLeaving : Type 0
LawOfLeaving = (s : State) (c : ℕ) → LeavesByEvent s c

-- the values are those that the event leaves
abbrev pub Leaves : Profile → ℕ → Event → List (Spot × Value) → List (Spot × Value) → Type 0
Leaves p c e old new = (s : State) → s.values ≡ old → new ≡ values_after p s c e

module _ {E : Type 0} (p : Profile) (c : ℕ) (e : Event) (law : LawOfLeaving) (old : List (Spot × Value)) (r : Result (List (Spot × Value)) E) where
  pub new_ok : (k : Place) (a n al : ℕ) → e ≡ New k a n al → IfOk r (λ new. new ≡ write old (spot_at k a) (left_by c e (with_block (block_at a n) (look_up old (spot_at k a)).kept) None)) → IfOk r (Leaves p c e old)
  new_ok k a n al is wrote = if_ok r (λ new. new ≡ write old (spot_at k a) (left_by c e (with_block (block_at a n) (look_up old (spot_at k a)).kept) None)) (Leaves p c e old)
      (λ new was s same. of_it (λ d. new ≡ write old (spot_at k a) (left_by c d (with_block (block_at a n) (look_up old (spot_at k a)).kept) None) → new ≡ values_after p s c d) e (New k a n al) is (λ v. after_new p s c (law s c) old new same k a n al v) was) wrote

  pub end_ok : (k : Place) (a n : ℕ) → e ≡ End k a n → IfOk r (λ new. new ≡ write old (spot_at k a) (left_by c e (without_block k (block_at a n) (look_up old (spot_at k a)).kept) (duty_of_end k (without_block k (block_at a n) (look_up old (spot_at k a)).kept)))) → IfOk r (Leaves p c e old)
  end_ok k a n is wrote = if_ok r (λ new. new ≡ write old (spot_at k a) (left_by c e (without_block k (block_at a n) (look_up old (spot_at k a)).kept) (duty_of_end k (without_block k (block_at a n) (look_up old (spot_at k a)).kept)))) (Leaves p c e old)
      (λ new was s same. of_it (λ d. new ≡ write old (spot_at k a) (left_by c d (without_block k (block_at a n) (look_up old (spot_at k a)).kept) (duty_of_end k (without_block k (block_at a n) (look_up old (spot_at k a)).kept))) → new ≡ values_after p s c d) e (End k a n) is (λ v. after_end p s c (law s c) old new same k a n v) was) wrote

  pub size_ok : (k : Place) (a n m : ℕ) → e ≡ Size k a n m → IfOk r (λ new. new ≡ write old (spot_at k a) (left_by c e (resized (block_at a n) (block_at a m) (look_up old (spot_at k a)).kept) None)) → IfOk r (Leaves p c e old)
  size_ok k a n m is wrote = if_ok r (λ new. new ≡ write old (spot_at k a) (left_by c e (resized (block_at a n) (block_at a m) (look_up old (spot_at k a)).kept) None)) (Leaves p c e old)
      (λ new was s same. of_it (λ d. new ≡ write old (spot_at k a) (left_by c d (resized (block_at a n) (block_at a m) (look_up old (spot_at k a)).kept) None) → new ≡ values_after p s c d) e (Size k a n m) is (λ v. after_size p s c (law s c) old new same k a n m v) was) wrote

  pub full_ok : (k : Place) (n al : ℕ) → e ≡ Full k n al → IfOk r (λ new. new ≡ write old (spot_of k) (left_by c e (look_up old (spot_of k)).kept None)) → IfOk r (Leaves p c e old)
  full_ok k n al is wrote = if_ok r (λ new. new ≡ write old (spot_of k) (left_by c e (look_up old (spot_of k)).kept None)) (Leaves p c e old)
      (λ new was s same. of_it (λ d. new ≡ write old (spot_of k) (left_by c d (look_up old (spot_of k)).kept None) → new ≡ values_after p s c d) e (Full k n al) is (λ v. after_full p s c (law s c) old new same k n al v) was) wrote

  pub no_ok : (k : Place) (z a n : ℕ) (j : Spot) → e ≡ No k z a n → j ≡ spot_at k a → IfOk r (λ new. new ≡ write old j (left_by c e (look_up old j).kept None)) → IfOk r (Leaves p c e old)
  no_ok k z a n j is h0 wrote = if_ok r (λ new. new ≡ write old j (left_by c e (look_up old j).kept None)) (Leaves p c e old)
      (λ new was s same. of_it (λ d. j ≡ spot_at k a → new ≡ write old j (left_by c d (look_up old j).kept None) → new ≡ values_after p s c d) e (No k z a n) is (λ g0 v. after_no p s c (law s c) old new same k z a n j g0 v) h0 was) wrote

  pub dry_ok : (z w al : ℕ) (js : List Spot) (duty : Option Event) → e ≡ Dry z w al → js ≡ touched p e → duty ≡ back_of_oldest (Large z) (look_up old (spot_of (Large z))).kept.cached → IfOk r (λ new. new ≡ write_all (λ j. left_by c e (look_up old j).kept duty) js old) → IfOk r (Leaves p c e old)
  dry_ok z w al js duty is h0 h1 wrote = if_ok r (λ new. new ≡ write_all (λ j. left_by c e (look_up old j).kept duty) js old) (Leaves p c e old)
      (λ new was s same. of_it (λ d. js ≡ touched p d → duty ≡ back_of_oldest (Large z) (look_up old (spot_of (Large z))).kept.cached → new ≡ write_all (λ j. left_by c d (look_up old j).kept duty) js old → new ≡ values_after p s c d) e (Dry z w al) is (λ g0 g1 v. after_dry p s c (law s c) old new same z w al js duty g0 g1 v) h0 h1 was) wrote

  pub open_ok : (z : ℕ) (js : List Spot) → e ≡ Open z → js ≡ touched p e → IfOk r (λ new. new ≡ write_all (λ j. left_by c e (look_up old j).kept None) js old) → IfOk r (Leaves p c e old)
  open_ok z js is h0 wrote = if_ok r (λ new. new ≡ write_all (λ j. left_by c e (look_up old j).kept None) js old) (Leaves p c e old)
      (λ new was s same. of_it (λ d. js ≡ touched p d → new ≡ write_all (λ j. left_by c d (look_up old j).kept None) js old → new ≡ values_after p s c d) e (Open z) is (λ g0 v. after_open p s c (law s c) old new same z js g0 v) h0 was) wrote

  pub shut_ok : (z : ℕ) (js : List Spot) → e ≡ Shut z → js ≡ touched p e → IfOk r (λ new. new ≡ write_all (λ j. left_by c e (look_up old j).kept None) js old) → IfOk r (Leaves p c e old)
  shut_ok z js is h0 wrote = if_ok r (λ new. new ≡ write_all (λ j. left_by c e (look_up old j).kept None) js old) (Leaves p c e old)
      (λ new was s same. of_it (λ d. js ≡ touched p d → new ≡ write_all (λ j. left_by c d (look_up old j).kept None) js old → new ≡ values_after p s c d) e (Shut z) is (λ g0 v. after_shut p s c (law s c) old new same z js g0 v) h0 was) wrote
