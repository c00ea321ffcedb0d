-- A duty changes no block: it gives back a run or moves a region.
use Rattle.std.proofs.Common.{◌≡◌, ℕ, suc, true, false, Bool, List, [], ◌∷◌, Option, Some, None, map, length, ap, sym, refl, subst, arith}
use Rattle.std.specs.Prelude.{find, nat_lt, ◌&&◌, Contains, if◌then◌else◌}
use Rattle.std.specs.Option.{option_map}
use Rattle.mz_base.specs.declared.profile.Profile.{Profile}
use Rattle.mz_base.specs.Space.{Run}
use Rattle.mz_events.specs.declared.place.Place.{Place}
use Rattle.mz_events.specs.declared.place.Place.TheVariants.{Large}
use Rattle.mz_events.specs.declared.event.Event.{Event}
use Rattle.mz_events.specs.declared.event.Event.TheVariants.{Take, Back, Move, New, End, Size, Full, Dry, No, Open, Shut}
use Rattle.mz_events.specs.declared.entry.Entry.{Entry}
use Rattle.mz_events.specs.Places.{Spot, is_magazine, is_depot, is_large, depot_of, spot_of, same_spot}
use Rattle.mz_events.specs.State.{State, Kept, kept_at, value_at}
use Rattle.mz_events.specs.Duties.{is_in_excess, is_sparse, is_unused, recirculation, empty_depot_region, back_of_oldest, death_row, duty_of_end, duty_after}
use Rattle.mz_events.specs.Effect.{touched, touches, value_after, kept_after, after}
use Rattle.mz_record.specs.Moments.{state_before, first_some, duty_left}

-- an event that neither makes nor ends a block, nor changes its size
abbrev pub changes_no_block : Event → Bool
changes_no_block (New k a n al) = false
changes_no_block (End k a n) = false
changes_no_block (Size k a n m) = false
changes_no_block (Take k f w) = true
changes_no_block (Back k f w) = true
changes_no_block (Move f from to) = true
changes_no_block (Full k n al) = true
changes_no_block (Dry z w al) = true
changes_no_block (No k z a n) = true
changes_no_block (Open z) = true
changes_no_block (Shut z) = true

-- an event that isn't there, or changes no block
abbrev pub is_harmless : Option Event → Bool
is_harmless None = true
is_harmless (Some d) = changes_no_block d

harmless_map : (f : Run → Event) → ((r : Run) → changes_no_block (f r) ≡ true) → (o : Option Run) → is_harmless (option_map f o) ≡ true
harmless_map f harmless None = refl
harmless_map f harmless (Some r) = harmless r

harmless_if : (b : Bool) (x y : Option Event) → is_harmless x ≡ true → is_harmless y ≡ true → is_harmless (if b then x else y) ≡ true
harmless_if true x y first second = first
harmless_if false x y first second = second

harmless_oldest : (l : Place) (rs : List Run) → is_harmless (back_of_oldest l rs) ≡ true
harmless_oldest l [] = refl
harmless_oldest l (r ∷ rs) = refl

harmless_depot : (d : Place) (k : Kept) → is_harmless (empty_depot_region d k) ≡ true
harmless_depot d k = harmless_map (λ r. Back d r.first r.pages) (λ r. refl) (find (is_unused k.live) k.runs)

harmless_end : (k : Place) (kept : Kept) → is_harmless (duty_of_end k kept) ≡ true
harmless_end k kept =
    harmless_if (is_magazine k) (recirculation k kept) _
    (harmless_if (is_in_excess kept) (option_map (λ r. Move r.first k (depot_of k)) (find (is_sparse kept.live) kept.runs)) None
    (harmless_map (λ r. Move r.first k (depot_of k)) (λ r. refl) (find (is_sparse kept.live) kept.runs)) refl)
    (harmless_if (is_depot k) (empty_depot_region k kept) _ (harmless_depot k kept)
    (harmless_if (is_large k) (death_row k kept) None (harmless_if (nat_lt 16 (length kept.cached)) (back_of_oldest k kept.cached) None (harmless_oldest k kept.cached) refl) refl))

-- a duty changes no block
harmless_duty : (s : State) (e : Event) (j : Spot) (kept : Kept) → is_harmless (duty_after s e j kept) ≡ true
harmless_duty s (End k a n) j kept = harmless_end k kept
harmless_duty s (Move f from to) j kept =
    harmless_if (is_depot to && same_spot j (spot_of to)) (empty_depot_region to kept) (if is_depot from && same_spot j (spot_of from) then empty_depot_region from kept else None)
    (harmless_depot to kept) (harmless_if (is_depot from && same_spot j (spot_of from)) (empty_depot_region from kept) None (harmless_depot from kept) refl)
harmless_duty s (Dry z w al) j kept = harmless_oldest (Large z) (kept_at s (spot_of (Large z))).cached
harmless_duty s (Take k f w) j kept = refl
harmless_duty s (Back k f w) j kept = refl
harmless_duty s (New k a n al) j kept = refl
harmless_duty s (Size k a n m) j kept = refl
harmless_duty s (Full k n al) j kept = refl
harmless_duty s (No k z a n) j kept = refl
harmless_duty s (Open z) j kept = refl
harmless_duty s (Shut z) j kept = refl

harmless_first : (f : Spot → Option Event) (js : List Spot) → ((j : Spot) → Contains js j → is_harmless (f j) ≡ true) → is_harmless (first_some (map f js)) ≡ true
harmless_first f [] harmless = refl
harmless_first f (j ∷ js) harmless =
    let here : is_harmless (f j) ≡ true = harmless j (0, omega arith, refl) in
    let later : is_harmless (first_some (map f js)) ≡ true = harmless_first f js (λ k at. harmless k (suc at.0, (let low = at.1 in omega (arith, low)), at.2)) in
    first_of (f j) (map f js) here later
  where
    first_of : (o : Option Event) (os : List (Option Event)) → is_harmless o ≡ true → is_harmless (first_some os) ≡ true → is_harmless (first_some (o ∷ os)) ≡ true
    first_of None os here later = later
    first_of (Some d) os here later = here

-- What an event leaves at each spot that it touches, and that these are the spots of its list.
pub record LeavesThere : Type 0 where
  pub leaves : (p : Profile) (s : State) (c : ℕ) (e : Event) (j : Spot) → touches p e j ≡ true → value_at (after p s c e) j ≡ value_after s c e j
  pub listed : (p : Profile) (e : Event) (j : Spot) → Contains (touched p e) j → touches p e j ≡ true

module _ (laws : LeavesThere) (p : Profile) (h : List Entry) where
  left_is_harmless : (e : Entry) → is_harmless (duty_left p h e) ≡ true
  left_is_harmless e =
      let s : State = state_before p h e.ticket in
      harmless_first (λ j. (value_at (after p s e.caller e.event) j).duty) (touched p e.event)
      (λ j at. subst (λ (o : Option Event). is_harmless o ≡ true) (sym (ap (λ v. v.duty) (laws.leaves p s e.caller e.event j (laws.listed p e.event j at)))) (harmless_duty s e.event j (kept_after s e.event j)))

  -- an entry that meets a duty changes none
  pub meets_and_changes_none : (e d : Entry) → duty_left p h e ≡ Some d.event → changes_no_block d.event ≡ true
  meets_and_changes_none e d due = subst (λ (o : Option Event). is_harmless o ≡ true) due (left_is_harmless e)
