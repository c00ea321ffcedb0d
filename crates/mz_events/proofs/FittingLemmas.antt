-- An event fits exactly where its record holds.
use Rattle.std.proofs.Common.{◌≡◌, ℕ, ◌+◌, ◌-◌, ◌<◌, ◌==◌, ◌%◌, Bool, true, false, cond, not, List, [], ◌∷◌, length, Option, Some, None, refl, ap, sym, ◌∙◌, inl, inr, ◌⊎◌, arith}
use Rattle.std.specs.Prelude.{◌&&◌, ◌||◌, nat_lt, nat_le, map, IsTrue}
use Rattle.std.specs.List.{list_all, All}
use Rattle.std.proofs.lemmas.Bool.{and_parts, and_from, or_left, or_right, false≢true, cases_Bool, eqb-true, eq-eqb, ne_eqb, ltb-true, lt-ltb, leb-true, le-leb, not-true, not_from_false, cond-true, cond-false}
use Rattle.std.proofs.lemmas.List.Elements.{All-nil, All-cons, All-head, All-tail}
use Rattle.mz_base.specs.declared.range.TheConstants.{PAGE}
use Rattle.mz_base.specs.declared.profile.Profile.{Profile}
use Rattle.mz_base.specs.Space.{Block, Run, page_of, block_at, run_at, blocks_apart, bytes_of}
use Rattle.mz_base.specs.Lists.{has_run, has_block}
use Rattle.mz_base.specs.Room.{any_has_room, has_free, is_lowest_free}
use Rattle.mz_events.specs.declared.place.Place.{Place}
use Rattle.mz_events.specs.declared.place.Place.TheVariants.{Pages, Tiny, TinyDepot, Small, SmallDepot, Large, Nano}
use Rattle.mz_events.specs.declared.event.Event.{Event}
use Rattle.mz_events.specs.declared.event.Event.TheVariants.{Take, Back, Move, New, End, Size, Full, Dry, No, Open, Shut}
use Rattle.mz_events.specs.Places.{is_magazine, is_depot, is_large, is_pages, is_nano, zone_of, depot_of, is_size_of, is_length_of, nano_start, exists_in, places_of, same_place, are_pair, nano_page, spot_at, spot_of}
use Rattle.mz_events.specs.State.{State, value_at, kept_at, is_open}
use Rattle.mz_events.specs.Room.{wide, any_fits}
use Rattle.mz_events.specs.Placement.{lies_in_place, live_near, is_placed, is_placed_in_magazine, is_placed_in_large, is_placed_in_nano}
use Rattle.mz_events.specs.Duties.{is_that, allows, is_owed}
use Rattle.mz_events.specs.Rules.{duty_first, existing, takes_lowest, takes_claimed, backs_unused, backs_allowed, moves_in_by_duty, moves_out_claimed, fits_apart, placed, live_there, no_room, zone_changes, keeps, Fits, claim_of, same_claim, is_lowest_with_room, has_no_runs, has_no_blocks, stands, zone_stands}
use Rattle.mz_events.specs.Fitting.{IsStanding, IsCalm, MayTakeRegion, MayTakeRun, MayGiveBack, MayPutAside, MayTakeOut, MayMake, MayEnd, MayResize, MayBeFull, MayBeDry, MayDeny, MayOpen, MayShut}
use Rattle.mz_events.proofs.SpotLemmas.{same_place-true, same_place-refl}
use Rattle.mz_events.proofs.LocalityLemmas.{ends_in_page, at_least_one, nat_le-true}
use Rattle.std.proofs.lemmas.List.Folds.{list_all-append}

-- only a move or a back is ever owed

abbrev can_be_owed : Event → Bool
can_be_owed (Move f j k) = true
can_be_owed (Back k f w) = true
can_be_owed _ = false

never_owed : (d e : Event) → can_be_owed e ≡ false → is_that d e ≡ false
never_owed (Move f j k) (Move g x y) h = absurd (false≢true (sym h))
never_owed (Back k f w) (Back j g v) h = absurd (false≢true (sym h))
never_owed (Move f j k) _ h = refl
never_owed (Back k f w) _ h = refl
never_owed _ _ h = refl

that_is : (d e : Event) → is_that d e ≡ true → d ≡ e
that_is (Move f j k) (Move g x y) h =
    let outer = and_parts ((f == g) && same_place j x) (same_place k y) h in
    let inner = and_parts (f == g) (same_place j x) outer.0 in
    let a = eqb-true f g inner.0 in let b = same_place-true j x inner.1 in let c = same_place-true k y outer.1 in cc
that_is (Back k f w) (Back j g v) h =
    let outer = and_parts (same_place k j && (f == g)) (w == v) h in
    let inner = and_parts (same_place k j) (f == g) outer.0 in
    let a = same_place-true k j inner.0 in let b = eqb-true f g inner.1 in let c = eqb-true w v outer.1 in cc
that_is (Move f j k) _ h = absurd (false≢true h)
that_is (Back k f w) _ h = absurd (false≢true h)
that_is _ _ h = absurd (false≢true h)

that_refl : (e : Event) → can_be_owed e ≡ true → is_that e e ≡ true
that_refl (Move f j k) h = rw (eq-eqb f f refl, same_place-refl j, same_place-refl k) refl
that_refl (Back k f w) h = rw (same_place-refl k, eq-eqb f f refl, eq-eqb w w refl) refl
that_refl _ h = absurd (false≢true h)

calm_from : (o : Option Event) (e : Event) → can_be_owed e ≡ false → allows o e ≡ true → o ≡ None
calm_from None e h y = refl
calm_from (Some d) e h y = absurd (false≢true (sym (never_owed d e h) ∙ y))

calm_to : (o : Option Event) (e : Event) → o ≡ None → allows o e ≡ true
calm_to o e h = ap (λ x. allows x e) h

allowed_from : (o : Option Event) (e : Event) → allows o e ≡ true → (o ≡ None) ⊎ (o ≡ Some e)
allowed_from None e y = inl refl
allowed_from (Some d) e y = inr (ap {B = Option Event} Some (that_is d e y))

allowed_to : (o : Option Event) (e : Event) → can_be_owed e ≡ true → (o ≡ None) ⊎ (o ≡ Some e) → allows o e ≡ true
allowed_to o e h (inl y) = calm_to o e y
allowed_to o e h (inr y) = ap (λ x. allows x e) y ∙ that_refl e h

owed_from : (o : Option Event) (e : Event) → is_owed o e ≡ true → o ≡ Some e
owed_from None e y = absurd (false≢true y)
owed_from (Some d) e y = ap {B = Option Event} Some (that_is d e y)

owed_to : (o : Option Event) (e : Event) → can_be_owed e ≡ true → o ≡ Some e → is_owed o e ≡ true
owed_to o e h y = ap (λ x. is_owed x e) y ∙ that_refl e h

-- the kinds of places

magazine_not_large : (k : Place) → is_magazine k ≡ true → is_large k ≡ false
magazine_not_large (Tiny z m) h = refl
magazine_not_large (Small z m) h = refl
magazine_not_large _ h = absurd (false≢true h)

magazine_not_depot : (k : Place) → is_magazine k ≡ true → is_depot k ≡ false
magazine_not_depot (Tiny z m) h = refl
magazine_not_depot (Small z m) h = refl
magazine_not_depot _ h = absurd (false≢true h)

depot_is_depot : (k : Place) → is_magazine k ≡ true → is_depot (depot_of k) ≡ true
depot_is_depot (Tiny z m) h = refl
depot_is_depot (Small z m) h = refl
depot_is_depot _ h = absurd (false≢true h)

depot_exists : (p : Profile) (k : Place) → is_magazine k ≡ true → exists_in p k ≡ true → exists_in p (depot_of k) ≡ true
depot_exists p (Tiny z m) h e = (and_parts (nat_lt z p.zones) (nat_lt m p.magazines) e).0
depot_exists p (Small z m) h e = (and_parts (nat_lt z p.zones) (nat_lt m p.magazines) e).0
depot_exists p _ h e = absurd (false≢true h)

zone_of-depot : (k : Place) → zone_of (depot_of k) ≡ zone_of k
zone_of-depot Pages = refl
zone_of-depot (Tiny z m) = refl
zone_of-depot (TinyDepot z) = refl
zone_of-depot (Small z m) = refl
zone_of-depot (SmallDepot z) = refl
zone_of-depot (Large z) = refl
zone_of-depot Nano = refl

pair_in : (k : Place) → is_magazine k ≡ true → are_pair k (depot_of k) ≡ true
pair_in k h = rw (h, same_place-refl (depot_of k)) refl

pair_out : (k : Place) → is_magazine k ≡ true → are_pair (depot_of k) k ≡ true
pair_out k h = or_right (is_magazine (depot_of k) && same_place (depot_of (depot_of k)) k) (is_magazine k && same_place (depot_of k) (depot_of k)) (rw (h, same_place-refl (depot_of k)) refl)

module _ (p : Profile) (s : State) (c : ℕ) where
  standing_from : (k : Place) → nat_lt c p.callers ≡ true → stands p s k ≡ true → IsStanding p s c k
  standing_from k caller there =
      let parts = and_parts (exists_in p k) (is_open s (zone_of k)) there in
      record { caller = ltb-true c p.callers caller; exists = parts.0; zone_open = parts.1 }

  caller_to : c < p.callers → nat_lt c p.callers ≡ true
  caller_to h = lt-ltb c p.callers h

  there_to : (k : Place) → IsStanding p s c k → stands p s k ≡ true
  there_to k st = and_from (exists_in p k) (is_open s (zone_of k)) st.exists st.zone_open

  -- End

  pub end_gives : (k : Place) (a n : ℕ) → Fits p s c (End k a n) → MayEnd p s c k a n
  unfolding keeps
  end_gives k a n fits =
      let who = and_parts (nat_lt c p.callers) (not (is_pages k) && stands p s k) (fits existing) in
      let where' = and_parts (not (is_pages k)) (stands p s k) who.1 in
      record {
        standing = standing_from k who.0 where'.1;
        kind = not-true (is_pages k) where'.0;
        calm = calm_from (value_at s (spot_at k a)).duty (End k a n) refl (and_parts (allows (value_at s (spot_at k a)).duty (End k a n)) true (fits duty_first)).0;
        live = fits live_there;
      }

  pub end_fits : (k : Place) (a n : ℕ) → MayEnd p s c k a n → Fits p s c (End k a n)
  unfolding keeps
  end_fits k a n m duty_first = and_from (allows (value_at s (spot_at k a)).duty (End k a n)) true (calm_to _ _ m.calm) refl
  end_fits k a n m existing = and_from (nat_lt c p.callers) _ (caller_to m.standing.caller) (and_from (not (is_pages k)) _ (not_from_false (is_pages k) m.kind) (there_to k m.standing))
  end_fits k a n m live_there = m.live
  end_fits k a n m _ = refl

  -- Size

  pub size_gives : (k : Place) (a n m : ℕ) → Fits p s c (Size k a n m) → MayResize p s c k a n m
  unfolding keeps
  size_gives k a n m fits =
      let who = and_parts (nat_lt c p.callers) ((is_magazine k || is_depot k) && stands p s k) (fits existing) in
      let there = and_parts (is_magazine k || is_depot k) (stands p s k) who.1 in
      let b = block_at a m in
      let kept = kept_at s (spot_at k a) in
      let all = and_parts (is_size_of k m && lies_in_place p k kept.runs b) (list_all (λ x. (x.first == a) || blocks_apart x b) kept.live) (fits fits_apart) in
      let both = and_parts (is_size_of k m) (lies_in_place p k kept.runs b) all.0 in
      record {
        standing = standing_from k who.0 there.1;
        kind = there.0;
        calm = calm_from (value_at s (spot_at k a)).duty (Size k a n m) refl (and_parts (allows (value_at s (spot_at k a)).duty (Size k a n m)) true (fits duty_first)).0;
        live = fits live_there;
        size = both.0;
        lies = both.1;
        apart = all.1;
      }

  pub size_fits : (k : Place) (a n m : ℕ) → MayResize p s c k a n m → Fits p s c (Size k a n m)
  unfolding keeps
  size_fits k a n m may duty_first = and_from (allows (value_at s (spot_at k a)).duty (Size k a n m)) true (calm_to _ _ may.calm) refl
  size_fits k a n m may existing = and_from (nat_lt c p.callers) _ (caller_to may.standing.caller) (and_from (is_magazine k || is_depot k) _ may.kind (there_to k may.standing))
  size_fits k a n m may fits_apart = and_from _ _ (and_from _ _ may.size may.lies) may.apart
  size_fits k a n m may live_there = may.live
  size_fits k a n m may _ = refl

  -- No

  pub no_gives : (k : Place) (z a n : ℕ) → Fits p s c (No k z a n) → MayDeny p s c k z a n
  unfolding keeps
  no_gives k z a n fits =
      let who = and_parts (nat_lt c p.callers) (not (is_pages k) && stands p s k && zone_stands p s z) (fits existing) in
      let all = and_parts (not (is_pages k) && stands p s k) (zone_stands p s z) who.1 in
      let there = and_parts (not (is_pages k)) (stands p s k) all.0 in
      let zone = and_parts (nat_lt z p.zones) (is_open s z) all.1 in
      let live = and_parts (has_block (kept_at s (spot_at k a)).live (block_at a n)) (not (zone_of k == z)) (fits live_there) in
      record {
        standing = standing_from k who.0 there.1;
        kind = not-true (is_pages k) there.0;
        zone = ltb-true z p.zones zone.0;
        zone_open = zone.1;
        calm = calm_from (value_at s (spot_at k a)).duty (No k z a n) refl (and_parts (allows (value_at s (spot_at k a)).duty (No k z a n)) true (fits duty_first)).0;
        live = live.0;
        of_another = λ same. false≢true (sym (not-true (zone_of k == z) live.1) ∙ eq-eqb (zone_of k) z same);
      }

  pub no_fits : (k : Place) (z a n : ℕ) → MayDeny p s c k z a n → Fits p s c (No k z a n)
  unfolding keeps
  no_fits k z a n may duty_first = and_from (allows (value_at s (spot_at k a)).duty (No k z a n)) true (calm_to _ _ may.calm) refl
  no_fits k z a n may existing =
      and_from (nat_lt c p.callers) _ (caller_to may.standing.caller)
      (and_from _ _ (and_from (not (is_pages k)) _ (not_from_false (is_pages k) may.kind) (there_to k may.standing)) (and_from (nat_lt z p.zones) _ (lt-ltb z p.zones may.zone) may.zone_open))
  no_fits k z a n may live_there = and_from _ _ may.live (not_from_false (zone_of k == z) (ne_eqb (zone_of k) z may.of_another))
  no_fits k z a n may _ = refl

  -- Full

  pub full_gives : (k : Place) (n al : ℕ) → Fits p s c (Full k n al) → MayBeFull p s c k n al
  unfolding keeps
  full_gives k n al fits =
      let who = and_parts (nat_lt c p.callers) ((is_magazine k || is_depot k || is_large k) && stands p s k) (fits existing) in
      let there = and_parts (is_magazine k || is_depot k || is_large k) (stands p s k) who.1 in
      let kept = kept_at s (spot_of k) in
      let test = cond (is_large k) (any_fits kept.cached n) (any_has_room kept.runs (wide kept) n al) in
      let all = and_parts (nat_le 1 n && nat_le 1 al) (not test) (fits no_room) in
      let both = and_parts (nat_le 1 n) (nat_le 1 al) all.0 in
      let none : test ≡ false = not-true test all.1 in
      record {
        standing = standing_from k who.0 there.1;
        kind = there.0;
        calm = calm_from (value_at s (spot_of k)).duty (Full k n al) refl (and_parts (allows (value_at s (spot_of k)).duty (Full k n al)) true (fits duty_first)).0;
        some = leb-true 1 n both.0;
        some_alignment = leb-true 1 al both.1;
        no_room = λ h. sym (cond-false (is_large k) (any_fits kept.cached n) (any_has_room kept.runs (wide kept) n al) h) ∙ none;
        none_fits = λ h. sym (cond-true (is_large k) (any_fits kept.cached n) (any_has_room kept.runs (wide kept) n al) h) ∙ none;
      }

  full_test : (k : Place) (n al : ℕ) → MayBeFull p s c k n al → cond (is_large k) (any_fits (kept_at s (spot_of k)).cached n) (any_has_room (kept_at s (spot_of k)).runs (wide (kept_at s (spot_of k))) n al) ≡ false
  full_test k n al may = elim (cases_Bool (is_large k)) [
    | inl y ↦ cond-true (is_large k) _ _ y ∙ may.none_fits y
    | inr n' ↦ cond-false (is_large k) _ _ n' ∙ may.no_room n'
  ]

  pub full_fits : (k : Place) (n al : ℕ) → MayBeFull p s c k n al → Fits p s c (Full k n al)
  unfolding keeps
  full_fits k n al may duty_first = and_from (allows (value_at s (spot_of k)).duty (Full k n al)) true (calm_to _ _ may.calm) refl
  full_fits k n al may existing = and_from (nat_lt c p.callers) _ (caller_to may.standing.caller) (and_from (is_magazine k || is_depot k || is_large k) _ may.kind (there_to k may.standing))
  full_fits k n al may no_room = and_from _ _ (and_from (nat_le 1 n) (nat_le 1 al) (le-leb 1 n may.some) (le-leb 1 al may.some_alignment)) (not_from_false _ (full_test k n al may))
  full_fits k n al may _ = refl

  -- Dry

  pub dry_gives : (z w al : ℕ) → Fits p s c (Dry z w al) → MayBeDry p s c z w al
  unfolding keeps
  dry_gives z w al fits =
      let who = and_parts (nat_lt c p.callers) (zone_stands p s z) (fits existing) in
      let zone = and_parts (nat_lt z p.zones) (is_open s z) who.1 in
      let calm = and_parts (allows (value_at s (spot_of Pages)).duty (Dry z w al)) (allows (value_at s (spot_of (Large z))).duty (Dry z w al) && true) (fits duty_first) in
      let large = and_parts (allows (value_at s (spot_of (Large z))).duty (Dry z w al)) true calm.1 in
      let test = has_free (nano_start p) (kept_at s (spot_of Pages)).taken w al in
      let all = and_parts (nat_le 1 w && nat_le 1 al) (not test) (fits no_room) in
      let both = and_parts (nat_le 1 w) (nat_le 1 al) all.0 in
      record {
        caller = ltb-true c p.callers who.0;
        zone = ltb-true z p.zones zone.0;
        zone_open = zone.1;
        calm = calm_from (value_at s (spot_of Pages)).duty (Dry z w al) refl calm.0;
        large_calm = calm_from (value_at s (spot_of (Large z))).duty (Dry z w al) refl large.0;
        some = leb-true 1 w both.0;
        some_alignment = leb-true 1 al both.1;
        none_free = not-true test all.1;
      }

  pub dry_fits : (z w al : ℕ) → MayBeDry p s c z w al → Fits p s c (Dry z w al)
  unfolding keeps
  dry_fits z w al may duty_first = and_from (allows (value_at s (spot_of Pages)).duty (Dry z w al)) _ (calm_to _ _ may.calm) (and_from (allows (value_at s (spot_of (Large z))).duty (Dry z w al)) true (calm_to _ _ may.large_calm) refl)
  dry_fits z w al may existing = and_from (nat_lt c p.callers) _ (caller_to may.caller) (and_from (nat_lt z p.zones) _ (lt-ltb z p.zones may.zone) may.zone_open)
  dry_fits z w al may no_room = and_from _ _ (and_from (nat_le 1 w) (nat_le 1 al) (le-leb 1 w may.some) (le-leb 1 al may.some_alignment)) (not_from_false _ may.none_free)
  dry_fits z w al may _ = refl

  -- Open and Shut

  all_calm_from : (e : Event) (ks : List Place) → can_be_owed e ≡ false → list_all (λ j. allows (value_at s j).duty e) (map spot_of ks) ≡ true → All (λ k. IsCalm s (spot_of k)) ks
  all_calm_from e [] never h = All-nil (λ k. IsCalm s (spot_of k))
  all_calm_from e (k ∷ ks) never h =
      let parts = and_parts (allows (value_at s (spot_of k)).duty e) (list_all (λ j. allows (value_at s j).duty e) (map spot_of ks)) h in
      All-cons (λ x. IsCalm s (spot_of x)) k ks (calm_from (value_at s (spot_of k)).duty e never parts.0) (all_calm_from e ks never parts.1)

  all_calm_to : (e : Event) (ks : List Place) → All (λ k. IsCalm s (spot_of k)) ks → list_all (λ j. allows (value_at s j).duty e) (map spot_of ks) ≡ true
  all_calm_to e [] h = refl
  all_calm_to e (k ∷ ks) h =
      and_from (allows (value_at s (spot_of k)).duty e) _ (calm_to (value_at s (spot_of k)).duty e (All-head (λ x. IsCalm s (spot_of x)) k ks h)) (all_calm_to e ks (All-tail (λ x. IsCalm s (spot_of x)) k ks h))

  none_from : {A : Type 0} (xs : List A) → (length xs == 0) ≡ true → xs ≡ []
  none_from [] h = refl
  none_from (x ∷ xs) h = absurd (omega (arith, eqb-true (length (x ∷ xs)) 0 h))

  none_to : {A : Type 0} (xs : List A) → xs ≡ [] → (length xs == 0) ≡ true
  none_to xs h = ap (λ ys. length ys == 0) h

  all_none_from : {A : Type 0} (of : Place → List A) (ks : List Place) → list_all (λ k. length (of k) == 0) ks ≡ true → All (λ k. of k ≡ []) ks
  all_none_from of [] h = All-nil (λ k. of k ≡ [])
  all_none_from of (k ∷ ks) h =
      let parts = and_parts (length (of k) == 0) (list_all (λ x. length (of x) == 0) ks) h in
      All-cons (λ x. of x ≡ []) k ks (none_from (of k) parts.0) (all_none_from of ks parts.1)

  all_none_to : {A : Type 0} (of : Place → List A) (ks : List Place) → All (λ k. of k ≡ []) ks → list_all (λ k. length (of k) == 0) ks ≡ true
  all_none_to of [] h = refl
  all_none_to of (k ∷ ks) h = and_from (length (of k) == 0) _ (none_to (of k) (All-head (λ x. of x ≡ []) k ks h)) (all_none_to of ks (All-tail (λ x. of x ≡ []) k ks h))

  pub open_gives : (z : ℕ) → Fits p s c (Open z) → MayOpen p s c z
  unfolding keeps
  open_gives z fits =
      let who = and_parts (nat_lt c p.callers) (nat_lt z p.zones) (fits existing) in
      let change = and_parts (not (is_open s z)) (has_no_runs p s z) (fits zone_changes) in
      record {
        caller = ltb-true c p.callers who.0;
        zone = ltb-true z p.zones who.1;
        calm = all_calm_from (Open z) (places_of p z) refl (fits duty_first);
        shut = not-true (is_open s z) change.0;
        no_runs = all_none_from (λ k. (kept_at s (spot_of k)).runs) (places_of p z) change.1;
      }

  pub open_fits : (z : ℕ) → MayOpen p s c z → Fits p s c (Open z)
  unfolding keeps
  open_fits z may duty_first = all_calm_to (Open z) (places_of p z) may.calm
  open_fits z may existing = and_from (nat_lt c p.callers) _ (caller_to may.caller) (lt-ltb z p.zones may.zone)
  open_fits z may zone_changes = and_from (not (is_open s z)) _ (not_from_false (is_open s z) may.shut) (all_none_to (λ k. (kept_at s (spot_of k)).runs) (places_of p z) may.no_runs)
  open_fits z may _ = refl

  pub shut_gives : (z : ℕ) → Fits p s c (Shut z) → MayShut p s c z
  unfolding keeps
  shut_gives z fits =
      let who = and_parts (nat_lt c p.callers) (nat_lt z p.zones) (fits existing) in
      let change = and_parts (not (z == 0) && is_open s z) (has_no_blocks p s z) (fits zone_changes) in
      let both = and_parts (not (z == 0)) (is_open s z) change.0 in
      record {
        caller = ltb-true c p.callers who.0;
        zone = ltb-true z p.zones who.1;
        calm = all_calm_from (Shut z) (places_of p z) refl (fits duty_first);
        not_first = λ first. false≢true (sym (not-true (z == 0) both.0) ∙ eq-eqb z 0 first);
        zone_open = both.1;
        no_blocks = all_none_from (λ k. (kept_at s (spot_of k)).live) (places_of p z) change.1;
      }

  pub shut_fits : (z : ℕ) → MayShut p s c z → Fits p s c (Shut z)
  unfolding keeps
  shut_fits z may duty_first = all_calm_to (Shut z) (places_of p z) may.calm
  shut_fits z may existing = and_from (nat_lt c p.callers) _ (caller_to may.caller) (lt-ltb z p.zones may.zone)
  shut_fits z may zone_changes = and_from _ _ (and_from (not (z == 0)) _ (not_from_false (z == 0) (ne_eqb z 0 may.not_first)) may.zone_open) (all_none_to (λ k. (kept_at s (spot_of k)).live) (places_of p z) may.no_blocks)
  shut_fits z may _ = refl

  -- Take

  same_claim_from : (x y : Option (ℕ × ℕ)) → same_claim x y ≡ true → (r : ℕ × ℕ) × (x ≡ Some r) × (y ≡ Some r)
  same_claim_from None y h = absurd (false≢true h)
  same_claim_from (Some a) None h = absurd (false≢true h)
  same_claim_from (Some a) (Some b) h =
      let parts = and_parts (a.0 == b.0) (a.1 == b.1) h in
      let first = eqb-true a.0 b.0 parts.0 in
      let second = eqb-true a.1 b.1 parts.1 in
      let same : ◌≡◌ {A = ℕ × ℕ} b a = sym (ap (λ x. (x, a.1)) first ∙ ap (λ x. (b.0, x)) second) in
      (a, refl, ap {B = Option (ℕ × ℕ)} Some same)

  same_claim_to : (x y : Option (ℕ × ℕ)) (r : ℕ × ℕ) → x ≡ Some r → y ≡ Some r → same_claim x y ≡ true
  same_claim_to x y r h g =
      let each : same_claim (Some r) (Some r) ≡ true = and_from (r.0 == r.0) (r.1 == r.1) (eq-eqb r.0 r.0 refl) (eq-eqb r.1 r.1 refl) in
      ap (λ o. same_claim o y) h ∙ (ap (same_claim (Some r)) g ∙ each)

  abbrev lowest_at : Run → ℕ → Bool
  lowest_at r al = is_lowest_free (nano_start p) (kept_at s (spot_of Pages)).taken r al

  pub take_region_gives : (k : Place) (f w : ℕ) → is_magazine k ≡ true → Fits p s c (Take k f w) → MayTakeRegion p s c k f w
  unfolding keeps
  take_region_gives k f w hm fits =
      let not_large = magazine_not_large k hm in
      let who = and_parts (nat_lt c p.callers) ((is_magazine k || is_large k) && stands p s k) (fits existing) in
      let there = and_parts (is_magazine k || is_large k) (stands p s k) who.1 in
      let calm = and_parts (allows (value_at s (spot_of k)).duty (Take k f w)) (allows (value_at s (spot_of Pages)).duty (Take k f w) && true) (fits duty_first) in
      let pages = and_parts (allows (value_at s (spot_of Pages)).duty (Take k f w)) true calm.1 in
      let taken = and_parts (is_length_of k w) (lowest_at (run_at f w) (cond (is_large k) 1 w)) (fits takes_lowest) in
      let at = claim_of c (value_at s (spot_of k)).last in
      let depot = claim_of c (value_at s (spot_of (depot_of k))).last in
      let claimed : same_claim at depot ≡ true = sym (cond-false (is_large k) (not (any_fits (kept_at s (spot_of k)).cached w)) (same_claim at depot) not_large) ∙ fits takes_claimed in
      let request = same_claim_from at depot claimed in
      record {
        standing = standing_from k who.0 there.1;
        calm = calm_from (value_at s (spot_of k)).duty (Take k f w) refl calm.0;
        pages_calm = calm_from (value_at s (spot_of Pages)).duty (Take k f w) refl pages.0;
        length = taken.0;
        lowest = sym (ap (lowest_at (run_at f w)) (cond-false (is_large k) 1 w not_large)) ∙ taken.1;
        request = request.0;
        full = request.1;
        depot_full = request.2;
      }

  pub take_region_fits : (k : Place) (f w : ℕ) → is_magazine k ≡ true → MayTakeRegion p s c k f w → Fits p s c (Take k f w)
  unfolding keeps
  take_region_fits k f w hm may duty_first = and_from (allows (value_at s (spot_of k)).duty (Take k f w)) _ (calm_to _ _ may.calm) (and_from (allows (value_at s (spot_of Pages)).duty (Take k f w)) true (calm_to _ _ may.pages_calm) refl)
  take_region_fits k f w hm may existing = and_from (nat_lt c p.callers) _ (caller_to may.standing.caller) (and_from (is_magazine k || is_large k) _ (or_left (is_magazine k) (is_large k) hm) (there_to k may.standing))
  take_region_fits k f w hm may takes_lowest = and_from (is_length_of k w) _ may.length (ap (lowest_at (run_at f w)) (cond-false (is_large k) 1 w (magazine_not_large k hm)) ∙ may.lowest)
  take_region_fits k f w hm may takes_claimed = cond-false (is_large k) _ _ (magazine_not_large k hm) ∙ same_claim_to _ _ may.request may.full may.depot_full
  take_region_fits k f w hm may _ = refl

  pub take_run_gives : (z f w : ℕ) → Fits p s c (Take (Large z) f w) → MayTakeRun p s c z f w
  unfolding keeps
  take_run_gives z f w fits =
      let k = Large z in
      let who = and_parts (nat_lt c p.callers) (stands p s k) (fits existing) in
      let calm = and_parts (allows (value_at s (spot_of k)).duty (Take k f w)) (allows (value_at s (spot_of Pages)).duty (Take k f w) && true) (fits duty_first) in
      let pages = and_parts (allows (value_at s (spot_of Pages)).duty (Take k f w)) true calm.1 in
      let taken = and_parts (is_length_of k w) (lowest_at (run_at f w) 1) (fits takes_lowest) in
      record {
        standing = standing_from k who.0 who.1;
        calm = calm_from (value_at s (spot_of k)).duty (Take k f w) refl calm.0;
        pages_calm = calm_from (value_at s (spot_of Pages)).duty (Take k f w) refl pages.0;
        length = taken.0;
        lowest = taken.1;
        none_fits = not-true (any_fits (kept_at s (spot_of k)).cached w) (fits takes_claimed);
      }

  pub take_run_fits : (z f w : ℕ) → MayTakeRun p s c z f w → Fits p s c (Take (Large z) f w)
  unfolding keeps
  take_run_fits z f w may duty_first = and_from (allows (value_at s (spot_of (Large z))).duty (Take (Large z) f w)) _ (calm_to _ _ may.calm) (and_from (allows (value_at s (spot_of Pages)).duty (Take (Large z) f w)) true (calm_to _ _ may.pages_calm) refl)
  take_run_fits z f w may existing = and_from (nat_lt c p.callers) _ (caller_to may.standing.caller) (there_to (Large z) may.standing)
  take_run_fits z f w may takes_lowest = and_from (is_length_of (Large z) w) _ may.length may.lowest
  take_run_fits z f w may takes_claimed = not_from_false (any_fits (kept_at s (spot_of (Large z))).cached w) may.none_fits
  take_run_fits z f w may _ = refl

  -- Back

  allowed_back : (o m l w : Bool) → cond (not o) true (cond m false (cond l w true)) ≡ true → (o ≡ true → m ≡ false) × (o ≡ true → l ≡ true → w ≡ true)
  allowed_back false m l w h = ((λ y. absurd (false≢true y)), (λ y. absurd (false≢true y)))
  allowed_back true true l w h = absurd (false≢true h)
  allowed_back true false true w h = ((λ y. refl), (λ y z. h))
  allowed_back true false false w h = ((λ y. refl), (λ y z. absurd (false≢true z)))

  may_go_back : (o m l w : Bool) → (o ≡ true → m ≡ false) → (o ≡ true → l ≡ true → w ≡ true) → cond (not o) true (cond m false (cond l w true)) ≡ true
  may_go_back false m l w h g = refl
  may_go_back true true l w h g = absurd (false≢true (sym (h refl)))
  may_go_back true false true w h g = g refl refl
  may_go_back true false false w h g = refl

  pub back_gives : (k : Place) (f w : ℕ) → Fits p s c (Back k f w) → MayGiveBack p s c k f w
  unfolding keeps
  back_gives k f w fits =
      let e = Back k f w in
      let who = and_parts (nat_lt c p.callers) ((is_magazine k || is_depot k || is_large k) && exists_in p k) (fits existing) in
      let there = and_parts (is_magazine k || is_depot k || is_large k) (exists_in p k) who.1 in
      let due = and_parts (allows (value_at s (spot_of k)).duty e) (allows (value_at s (spot_of Pages)).duty e && true) (fits duty_first) in
      let pages = and_parts (allows (value_at s (spot_of Pages)).duty e) true due.1 in
      let unused = and_parts (has_run (kept_at s (spot_of k)).runs (run_at f w)) (list_all (λ b. blocks_apart b (bytes_of (run_at f w))) (kept_at s (spot_of k)).live) (fits backs_unused) in
      let leave = allowed_back (is_open s (zone_of k)) (is_magazine k) (is_large k) (is_owed (value_at s (spot_of k)).duty e) (fits backs_allowed) in
      record {
        caller = ltb-true c p.callers who.0;
        kind = there.0;
        exists = there.1;
        allowed = allowed_from (value_at s (spot_of k)).duty e due.0;
        pages_allowed = allowed_from (value_at s (spot_of Pages)).duty e pages.0;
        here = unused.0;
        unused = unused.1;
        no_magazine = leave.0;
        owed = λ o l. owed_from (value_at s (spot_of k)).duty e (leave.1 o l);
      }

  pub back_fits : (k : Place) (f w : ℕ) → MayGiveBack p s c k f w → Fits p s c (Back k f w)
  unfolding keeps
  back_fits k f w may duty_first =
      and_from (allows (value_at s (spot_of k)).duty (Back k f w)) _ (allowed_to (value_at s (spot_of k)).duty (Back k f w) refl may.allowed)
      (and_from (allows (value_at s (spot_of Pages)).duty (Back k f w)) true (allowed_to (value_at s (spot_of Pages)).duty (Back k f w) refl may.pages_allowed) refl)
  back_fits k f w may existing = and_from (nat_lt c p.callers) _ (caller_to may.caller) (and_from (is_magazine k || is_depot k || is_large k) _ may.kind may.exists)
  back_fits k f w may backs_unused = and_from _ _ may.here may.unused
  back_fits k f w may backs_allowed =
      may_go_back (is_open s (zone_of k)) (is_magazine k) (is_large k) (is_owed (value_at s (spot_of k)).duty (Back k f w)) may.no_magazine
      (λ o l. owed_to (value_at s (spot_of k)).duty (Back k f w) refl (may.owed o l))
  back_fits k f w may _ = refl

  -- Move

  depot_there : (k : Place) → is_magazine k ≡ true → IsStanding p s c k → stands p s (depot_of k) ≡ true
  depot_there k hm st = and_from (exists_in p (depot_of k)) _ (depot_exists p k hm st.exists) (ap (is_open s) (zone_of-depot k) ∙ st.zone_open)

  pub put_aside_gives : (k : Place) (f : ℕ) → is_magazine k ≡ true → Fits p s c (Move f k (depot_of k)) → MayPutAside p s c k f
  unfolding keeps
  put_aside_gives k f hm fits =
      let e = Move f k (depot_of k) in
      let who = and_parts (nat_lt c p.callers) (are_pair k (depot_of k) && stands p s k && stands p s (depot_of k)) (fits existing) in
      let all = and_parts (are_pair k (depot_of k) && stands p s k) (stands p s (depot_of k)) who.1 in
      let there = and_parts (are_pair k (depot_of k)) (stands p s k) all.0 in
      let due = and_parts (allows (value_at s (spot_of k)).duty e) (allows (value_at s (spot_of (depot_of k))).duty e && true) (fits duty_first) in
      let depot = and_parts (allows (value_at s (spot_of (depot_of k))).duty e) true due.1 in
      let owed : is_owed (value_at s (spot_of k)).duty e ≡ true = sym (cond-true (is_depot (depot_of k)) (is_owed (value_at s (spot_of k)).duty e) true (depot_is_depot k hm)) ∙ fits moves_in_by_duty in
      record {
        standing = standing_from k who.0 there.1;
        owed = owed_from (value_at s (spot_of k)).duty e owed;
        depot_allowed = allowed_from (value_at s (spot_of (depot_of k))).duty e depot.0;
      }

  pub put_aside_fits : (k : Place) (f : ℕ) → is_magazine k ≡ true → MayPutAside p s c k f → Fits p s c (Move f k (depot_of k))
  unfolding keeps
  put_aside_fits k f hm may duty_first =
      and_from (allows (value_at s (spot_of k)).duty (Move f k (depot_of k))) _ (allowed_to (value_at s (spot_of k)).duty (Move f k (depot_of k)) refl (inr may.owed))
      (and_from (allows (value_at s (spot_of (depot_of k))).duty (Move f k (depot_of k))) true (allowed_to (value_at s (spot_of (depot_of k))).duty (Move f k (depot_of k)) refl may.depot_allowed) refl)
  put_aside_fits k f hm may existing = and_from (nat_lt c p.callers) _ (caller_to may.standing.caller) (and_from _ _ (and_from (are_pair k (depot_of k)) _ (pair_in k hm) (there_to k may.standing)) (depot_there k hm may.standing))
  put_aside_fits k f hm may moves_in_by_duty = cond-true (is_depot (depot_of k)) _ true (depot_is_depot k hm) ∙ owed_to (value_at s (spot_of k)).duty (Move f k (depot_of k)) refl may.owed
  put_aside_fits k f hm may moves_out_claimed = cond-true (is_depot (depot_of k)) true _ (depot_is_depot k hm)
  put_aside_fits k f hm may _ = refl

  abbrev is_claimed_out : Place → ℕ → Option (ℕ × ℕ) → Bool
  is_claimed_out k f o = elim o [ Some request ↦ is_lowest_with_room (kept_at s (spot_of (depot_of k))) f request | None ↦ false ]

  claimed_out : (k : Place) (f : ℕ) (o : Option (ℕ × ℕ)) → is_claimed_out k f o ≡ true → (r : ℕ × ℕ) × (o ≡ Some r) × (is_lowest_with_room (kept_at s (spot_of (depot_of k))) f r ≡ true)
  claimed_out k f None h = absurd (false≢true h)
  claimed_out k f (Some r) h = (r, refl, h)

  pub take_out_gives : (k : Place) (f : ℕ) → is_magazine k ≡ true → Fits p s c (Move f (depot_of k) k) → MayTakeOut p s c k f
  unfolding keeps
  take_out_gives k f hm fits =
      let e = Move f (depot_of k) k in
      let who = and_parts (nat_lt c p.callers) (are_pair (depot_of k) k && stands p s (depot_of k) && stands p s k) (fits existing) in
      let all = and_parts (are_pair (depot_of k) k && stands p s (depot_of k)) (stands p s k) who.1 in
      let due = and_parts (allows (value_at s (spot_of (depot_of k))).duty e) (allows (value_at s (spot_of k)).duty e && true) (fits duty_first) in
      let own = and_parts (allows (value_at s (spot_of k)).duty e) true due.1 in
      let claimed : is_claimed_out k f (claim_of c (value_at s (spot_of k)).last) ≡ true = sym (cond-false (is_depot k) true (is_claimed_out k f (claim_of c (value_at s (spot_of k)).last)) (magazine_not_depot k hm)) ∙ fits moves_out_claimed in
      let request = claimed_out k f (claim_of c (value_at s (spot_of k)).last) claimed in
      record {
        standing = standing_from k who.0 all.1;
        allowed = allowed_from (value_at s (spot_of k)).duty e own.0;
        depot_allowed = allowed_from (value_at s (spot_of (depot_of k))).duty e due.0;
        request = request.0;
        full = request.1;
        lowest = request.2;
      }

  pub take_out_fits : (k : Place) (f : ℕ) → is_magazine k ≡ true → MayTakeOut p s c k f → Fits p s c (Move f (depot_of k) k)
  unfolding keeps
  take_out_fits k f hm may duty_first =
      and_from (allows (value_at s (spot_of (depot_of k))).duty (Move f (depot_of k) k)) _ (allowed_to (value_at s (spot_of (depot_of k))).duty (Move f (depot_of k) k) refl may.depot_allowed)
      (and_from (allows (value_at s (spot_of k)).duty (Move f (depot_of k) k)) true (allowed_to (value_at s (spot_of k)).duty (Move f (depot_of k) k) refl may.allowed) refl)
  take_out_fits k f hm may existing = and_from (nat_lt c p.callers) _ (caller_to may.standing.caller) (and_from _ _ (and_from (are_pair (depot_of k) k) _ (pair_out k hm) (depot_there k hm may.standing)) (there_to k may.standing))
  take_out_fits k f hm may moves_in_by_duty = cond-false (is_depot k) _ true (magazine_not_depot k hm)
  take_out_fits k f hm may moves_out_claimed = cond-false (is_depot k) true _ (magazine_not_depot k hm) ∙ (ap (is_claimed_out k f) may.full ∙ may.lowest)
  take_out_fits k f hm may _ = refl

  -- New

  abbrev all_apart : Block → List Block → Bool
  all_apart b bs = list_all (λ x. blocks_apart x b) bs

  near_gives : (k : Place) (a n : ℕ) → all_apart (block_at a n) (live_near s k (block_at a n)) ≡ true → all_apart (block_at a n) (kept_at s (spot_at k a)).live ≡ true
  near_gives Nano a n h =
      let first = (kept_at s (spot_at Nano a)).live in
      let last = (kept_at s (spot_at Nano (a + n - 1))).live in
      (and_parts (all_apart (block_at a n) first) (all_apart (block_at a n) last) (sym (list_all-append (λ x. blocks_apart x (block_at a n)) first last) ∙ h)).0
  near_gives _ a n h = h

  near_to : (k : Place) (a n : ℕ) → (is_nano k ≡ true → page_of (a + n - 1) ≡ page_of a) → all_apart (block_at a n) (kept_at s (spot_at k a)).live ≡ true → all_apart (block_at a n) (live_near s k (block_at a n)) ≡ true
  near_to Nano a n one h =
      let first = (kept_at s (spot_at Nano a)).live in
      let last = (kept_at s (spot_at Nano (a + n - 1))).live in
      let same : last ≡ first = ap (λ i. (kept_at s (nano_page i)).live) (one refl) in
      list_all-append (λ x. blocks_apart x (block_at a n)) first last ∙ and_from (all_apart (block_at a n) first) (all_apart (block_at a n) last) h (ap (all_apart (block_at a n)) same ∙ h)
  near_to _ a n one h = h

  in_one_page : (a n al : ℕ) → MayMake p s c Nano a n al → page_of (a + n - 1) ≡ page_of a
  in_one_page a n al may =
      let size = may.size in
      let least : nat_le 16 n ≡ true = (and_parts _ _ (and_parts _ _ size).0).1 in
      let placed = may.in_nano refl in
      let within : nat_le (a % PAGE + n) PAGE ≡ true = (and_parts _ _ (and_parts _ _ placed).0).1 in
      ends_in_page a n (at_least_one n least) (nat_le-true (a % PAGE + n) PAGE within)

  one_page : (k : Place) (a n al : ℕ) → MayMake p s c k a n al → is_nano k ≡ true → page_of (a + n - 1) ≡ page_of a
  one_page Nano a n al may h = in_one_page a n al may
  one_page _ a n al may h = absurd (false≢true h)

  record ArePlaced (k : Place) (a n al : ℕ) : Type 0 where
    in_magazine : IsTrue (is_magazine k) → IsTrue (is_placed_in_magazine (kept_at s (spot_at k a)) (block_at a n) al)
    in_large : IsTrue (is_large k) → IsTrue (is_placed_in_large (kept_at s (spot_at k a)) (block_at a n))
    in_nano : IsTrue (is_nano k) → IsTrue (is_placed_in_nano (kept_at s (spot_at k a)) (block_at a n))

  placed_gives : (k : Place) (a n al : ℕ) → is_placed s (New k a n al) ≡ true → ArePlaced k a n al
  placed_gives Pages a n al h = record { in_magazine = λ y. absurd (false≢true y); in_large = λ y. absurd (false≢true y); in_nano = λ y. absurd (false≢true y) }
  placed_gives (Tiny z m) a n al h = record { in_magazine = λ y. h; in_large = λ y. absurd (false≢true y); in_nano = λ y. absurd (false≢true y) }
  placed_gives (TinyDepot z) a n al h = record { in_magazine = λ y. absurd (false≢true y); in_large = λ y. absurd (false≢true y); in_nano = λ y. absurd (false≢true y) }
  placed_gives (Small z m) a n al h = record { in_magazine = λ y. h; in_large = λ y. absurd (false≢true y); in_nano = λ y. absurd (false≢true y) }
  placed_gives (SmallDepot z) a n al h = record { in_magazine = λ y. absurd (false≢true y); in_large = λ y. absurd (false≢true y); in_nano = λ y. absurd (false≢true y) }
  placed_gives (Large z) a n al h = record { in_magazine = λ y. absurd (false≢true y); in_large = λ y. h; in_nano = λ y. absurd (false≢true y) }
  placed_gives Nano a n al h = record { in_magazine = λ y. absurd (false≢true y); in_large = λ y. absurd (false≢true y); in_nano = λ y. h }

  placed_to : (k : Place) (a n al : ℕ) → (is_magazine k || is_large k || is_nano k) ≡ true → MayMake p s c k a n al → is_placed s (New k a n al) ≡ true
  placed_to (Tiny z m) a n al h may = may.in_magazine refl
  placed_to (Small z m) a n al h may = may.in_magazine refl
  placed_to (Large z) a n al h may = may.in_large refl
  placed_to Nano a n al h may = may.in_nano refl
  placed_to _ a n al h may = absurd (false≢true h)

  pub new_gives : (k : Place) (a n al : ℕ) → Fits p s c (New k a n al) → MayMake p s c k a n al
  unfolding keeps
  new_gives k a n al fits =
      let b = block_at a n in
      let kept = kept_at s (spot_at k a) in
      let who = and_parts (nat_lt c p.callers) ((is_magazine k || is_large k || is_nano k) && stands p s k) (fits existing) in
      let there = and_parts (is_magazine k || is_large k || is_nano k) (stands p s k) who.1 in
      let all = and_parts (is_size_of k n && nat_le 1 al && (a % al == 0) && lies_in_place p k kept.runs b) (all_apart b (live_near s k b)) (fits fits_apart) in
      let lies = and_parts (is_size_of k n && nat_le 1 al && (a % al == 0)) (lies_in_place p k kept.runs b) all.0 in
      let aligned = and_parts (is_size_of k n && nat_le 1 al) (a % al == 0) lies.0 in
      let size = and_parts (is_size_of k n) (nat_le 1 al) aligned.0 in
      let put : ArePlaced k a n al = placed_gives k a n al (fits placed) in
      record {
        standing = standing_from k who.0 there.1;
        kind = there.0;
        calm = calm_from (value_at s (spot_at k a)).duty (New k a n al) refl (and_parts (allows (value_at s (spot_at k a)).duty (New k a n al)) true (fits duty_first)).0;
        size = size.0;
        some = leb-true 1 al size.1;
        aligned = eqb-true (a % al) 0 aligned.1;
        lies = lies.1;
        apart = near_gives k a n all.1;
        in_magazine = put.in_magazine;
        in_large = put.in_large;
        in_nano = put.in_nano;
      }

  pub new_fits : (k : Place) (a n al : ℕ) → MayMake p s c k a n al → Fits p s c (New k a n al)
  unfolding keeps
  new_fits k a n al may duty_first = and_from (allows (value_at s (spot_at k a)).duty (New k a n al)) true (calm_to _ _ may.calm) refl
  new_fits k a n al may existing = and_from (nat_lt c p.callers) _ (caller_to may.standing.caller) (and_from (is_magazine k || is_large k || is_nano k) _ may.kind (there_to k may.standing))
  new_fits k a n al may fits_apart =
      and_from _ _ (and_from _ _ (and_from _ _ (and_from (is_size_of k n) (nat_le 1 al) may.size (le-leb 1 al may.some)) (eq-eqb (a % al) 0 may.aligned)) may.lies) (near_to k a n (one_page k a n al may) may.apart)
  new_fits k a n al may placed = placed_to k a n al may.kind may
  new_fits k a n al may _ = refl
