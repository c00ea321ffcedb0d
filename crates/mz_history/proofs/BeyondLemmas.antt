-- Zones beyond the profile's keep nothing in large, and what a list that is made for each zone has at one of them.
use Rattle.std.proofs.Common.{◌≡◌, ℕ, ◌+◌, ◌<◌, ◌≤◌, Bool, true, false, List, [], ◌∷◌, ◌++◌, map, length, get_or, Option, Some, None, refl, sym, ap, ◌∙◌, inl, inr, arith}
use Rattle.std.specs.Prelude.{◌==◌, ◌||◌, nat_lt}
use Rattle.std.specs.List.{list_any, range_with_len}
use Rattle.std.proofs.lemmas.Bool.{cases_Bool, and_parts, ltb-true, eqb-true, false≢true}
use Rattle.std.proofs.lemmas.List.{length-map, get_or-map, map-append}
use Rattle.std.proofs.lemmas.List.FromFn.{length-map-range_with_len, get_or-map-range_with_len, map-range_with_len_more}
use Rattle.mz_base.specs.declared.profile.Profile.{Profile}
use Rattle.mz_base.specs.Space.{Block, Run}
use Rattle.mz_events.specs.declared.place.Place.{Place}
use Rattle.mz_events.specs.declared.place.Place.TheVariants.{Pages, Tiny, TinyDepot, Small, SmallDepot, Large, Nano}
use Rattle.mz_events.specs.declared.entry.Entry.{Entry}
use Rattle.mz_events.specs.declared.event.Event.{Event}
use Rattle.mz_events.specs.declared.event.Event.TheVariants.{Take, Back, Move, New, End, Size, Full, Dry, No, Open, Shut}
use Rattle.mz_events.specs.Places.{Spot, keeper_at, same_spot, spot_at, spot_of, place_of, places_of, exists_in, is_magazine}
use Rattle.mz_events.specs.State.{Value, State, value_at, kept_at, opening, look_up, blank}
use Rattle.mz_events.specs.Effect.{touches}
use Rattle.mz_events.specs.Rules.{existing, keeps, places_exist, Fits}
use Rattle.mz_events.specs.History.{AreLawful, after_all, after_entry}
use Rattle.mz_events.specs.Locality.{IsLocal}
use Rattle.mz_events.specs.Separation.{IsFreedThere}
use Rattle.mz_history.specs.Booked.{IsReached}
use Rattle.mz_history.specs.Listed.{cached_pages}

-- a zone of the profile is another than one beyond
other_zone : (p : Profile) (z y : ℕ) → p.zones ≤ z → nat_lt y p.zones ≡ true → (z == y) ≡ false
other_zone p z y up there =
    elim (cases_Bool (z == y)) [
      | inl same ↦ let is = eqb-true z y same in let below = ltb-true y p.zones there in absurd (omega arith)
      | inr differ ↦ differ
    ]

-- a place that exists has another spot than large of a zone beyond
not_there : (p : Profile) (z a : ℕ) (k : Place) → p.zones ≤ z → exists_in p k ≡ true → same_spot (keeper_at (Large z)) (spot_at k a) ≡ false
not_there p z a Pages up h = refl
not_there p z a (Tiny y m) up h = refl
not_there p z a (TinyDepot y) up h = refl
not_there p z a (Small y m) up h = refl
not_there p z a (SmallDepot y) up h = refl
not_there p z a (Large y) up h = other_zone p z y up h
not_there p z a Nano up h = refl

or_joined : (a b c : Bool) → (a || (b || c)) ≡ ((a || b) || c)
or_joined true b c = refl
or_joined false b c = refl

any_append : (q : Spot → Bool) (xs ys : List Place) → list_any q (map spot_of (xs ++ ys)) ≡ (list_any q (map spot_of xs) || list_any q (map spot_of ys))
any_append q [] ys = refl
any_append q (x ∷ xs) ys = ap (λ b. q (spot_of x) || b) (any_append q xs ys) ∙ or_joined (q (spot_of x)) (list_any q (map spot_of xs)) (list_any q (map spot_of ys))

no_tiny : (z y : ℕ) (ms : List ℕ) → list_any (same_spot (keeper_at (Large z))) (map spot_of (map (λ m. Tiny y m) ms)) ≡ false
no_tiny z y [] = refl
no_tiny z y (m ∷ ms) = no_tiny z y ms

no_small : (z y : ℕ) (ms : List ℕ) → list_any (same_spot (keeper_at (Large z))) (map spot_of (map (λ m. Small y m) ms)) ≡ false
no_small z y [] = refl
no_small z y (m ∷ ms) = no_small z y ms

not_in_zone : (p : Profile) (z y : ℕ) → p.zones ≤ z → nat_lt y p.zones ≡ true → list_any (same_spot (keeper_at (Large z))) (map spot_of (places_of p y)) ≡ false
not_in_zone p z y up there =
    let q = same_spot (keeper_at (Large z)) in
    let tiny = map (λ m. Tiny y m) (range_with_len 0 p.magazines) in
    let small = map (λ m. Small y m) (range_with_len 0 p.magazines) in
    let rest = SmallDepot y ∷ Large y ∷ [] in
    any_append q (tiny ++ (TinyDepot y ∷ small)) rest
    ∙ ap (λ b. b || list_any q (map spot_of rest)) (any_append q tiny (TinyDepot y ∷ small) ∙ ap (λ b. b || list_any q (map spot_of (TinyDepot y ∷ small))) (no_tiny z y (range_with_len 0 p.magazines)) ∙ no_small z y (range_with_len 0 p.magazines))
    ∙ ap (λ b. b || false) (other_zone p z y up there)

or_both : (a b : Bool) → a ≡ false → b ≡ false → (a || (b || false)) ≡ false
or_both a b l r = ap (λ x. x || (b || false)) l ∙ ap (λ x. x || false) r

or_one : (a : Bool) → a ≡ false → (a || false) ≡ false
or_one a l = ap (λ x. x || false) l

untouched : (p : Profile) (s : State) (e : Event) (z : ℕ) → p.zones ≤ z → places_exist p s e ≡ true → touches p e (keeper_at (Large z)) ≡ false
untouched p s (Take k f w) z up h = or_both _ _ (not_there p z 0 k up (and_parts (exists_in p k) _ (and_parts _ _ h).1).0) refl
untouched p s (Back k f w) z up h = or_both _ _ (not_there p z 0 k up (and_parts _ (exists_in p k) h).1) refl
untouched p s (Move f j k) z up h =
    let parts = and_parts _ _ h in
    or_both _ _ (not_there p z 0 j up (and_parts (exists_in p j) _ (and_parts _ _ parts.0).1).0) (not_there p z 0 k up (and_parts (exists_in p k) _ parts.1).0)
untouched p s (New k a n al) z up h = or_one _ (not_there p z a k up (and_parts (exists_in p k) _ (and_parts _ _ h).1).0)
untouched p s (End k a n) z up h = or_one _ (not_there p z a k up (and_parts (exists_in p k) _ (and_parts _ _ h).1).0)
untouched p s (Size k a n m) z up h = or_one _ (not_there p z a k up (and_parts (exists_in p k) _ (and_parts _ _ h).1).0)
untouched p s (Full k n al) z up h = or_one _ (not_there p z 0 k up (and_parts (exists_in p k) _ (and_parts _ _ h).1).0)
untouched p s (Dry y w al) z up h = or_both _ _ refl (other_zone p z y up (and_parts (nat_lt y p.zones) _ h).0)
untouched p s (No k y a n) z up h = or_one _ (not_there p z a k up (and_parts (exists_in p k) _ (and_parts _ _ (and_parts _ _ h).0).1).0)
untouched p s (Open y) z up h = not_in_zone p z y up h
untouched p s (Shut y) z up h = not_in_zone p z y up h

places_of_fits : (p : Profile) (s : State) (c : ℕ) (e : Event) → Fits p s c e → places_exist p s e ≡ true
unfolding keeps
places_of_fits p s c e fits = (and_parts (nat_lt c p.callers) (places_exist p s e) (fits existing)).1

-- large of a zone beyond keeps what it kept at first
pub beyond : (p : Profile) (z : ℕ) (s : State) (es : List Entry) → ((e : Event) → IsLocal p e) → p.zones ≤ z → AreLawful p s es → value_at (after_all p s es) (keeper_at (Large z)) ≡ value_at s (keeper_at (Large z))
unfolding after_all AreLawful
beyond p z s [] local up lawful = refl
beyond p z s (e ∷ es) local up lawful =
    beyond p z (after_entry p s e) es local up lawful.1
    ∙ (local e.event).elsewhere s e.caller (keeper_at (Large z)) (untouched p s e.event z up (places_of_fits p s e.caller e.event lawful.0.fits))

-- a place other than a magazine has no last freed block
pub none_freed : (p : Profile) (s : State) (j : Spot)
    → ((entries : List Entry) (f : Block) → AreLawful p opening entries → (kept_at (after_all p opening entries) j).last_freed ≡ Some f → IsFreedThere (after_all p opening entries) j f)
    → is_magazine (place_of j) ≡ false → IsReached p s → (kept_at s j).last_freed ≡ None
none_freed p s j law other reached = go (kept_at s j).last_freed refl
  where
    go : (o : Option Block) → (kept_at s j).last_freed ≡ o → (kept_at s j).last_freed ≡ None
    go None is = is
    go (Some f) is =
        let there = law reached.0 f reached.1 (ap (λ (t : State). (kept_at t j).last_freed) (sym reached.2) ∙ is) in
        absurd (false≢true (sym other ∙ there.magazine))

blank_there : (z : ℕ) → value_at opening (keeper_at (Large z)) ≡ blank
unfolding look_up
blank_there z = refl

-- large of a zone beyond the profile's has no cached run
pub none_cached : (p : Profile) (s : State) (z : ℕ) → ((e : Event) → IsLocal p e) → p.zones ≤ z → IsReached p s → cached_pages s z ≡ []
none_cached p s z local up reached =
    ap (λ (t : State). cached_pages t z) reached.2 ∙ ap (λ (v : Value). map (λ (r : Run). r.first) v.kept.cached) (beyond p z opening reached.0 local up reached.1 ∙ blank_there z)

-- a list that is made for each number below n has so many elements, and at a number what was made for it
pub count_lists : {A : Type 0} (g : A → List ℕ) (f : ℕ → List ℕ) (xs : List A) (a n : ℕ) → map g xs ≡ map f (range_with_len a n) → length xs ≡ n
count_lists g f xs a n is = sym (length-map xs g) ∙ ap length is ∙ length-map-range_with_len f a n

pub list_at : {A : Type 0} (g : A → List ℕ) (f : ℕ → List ℕ) (xs : List A) (n i : ℕ) (d : A) → i < n → map g xs ≡ map f (range_with_len 0 n) → g (get_or xs i d) ≡ f i
list_at g f xs n i d below is =
    let many = count_lists g f xs 0 n is in
    sym (get_or-map g xs i d [] (omega arith)) ∙ ap (λ l. get_or l i []) is ∙ get_or-map-range_with_len f 0 n i i [] below (omega arith)

pub more_lists : {A : Type 0} (g : A → List ℕ) (f : ℕ → List ℕ) (xs ys : List A) (x : A) (n : ℕ) → map g xs ≡ map f (range_with_len 0 n) → ys ≡ xs ++ x ∷ [] → g x ≡ f n → map g ys ≡ map f (range_with_len 0 (n + 1))
more_lists g f xs ys x n is pushed same =
    ap (map g) pushed ∙ map-append g xs (x ∷ []) ∙ ap (λ l. l ++ g x ∷ []) is ∙ ap (λ y. map f (range_with_len 0 n) ++ y ∷ []) same
    ∙ sym (map-range_with_len_more f 0 n n (omega arith))
