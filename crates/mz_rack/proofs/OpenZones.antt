-- Live blocks of a state that lawful entries leave are in places of open zones.
use Rattle.std.proofs.Common.{◌≡◌, ℕ, zero, suc, ◌+◌, ◌<◌, ◌≤◌, ◌==◌, Bool, true, false, cond, not, List, [], ◌∷◌, ◌++◌, filter, map, arith, refl, ap, sym, subst, ◌∙◌, inl, inr, eqb-true, eq-eqb}
use Rattle.std.specs.Prelude.{◌≢◌, ◌&&◌, ◌||◌, nat_lt, ◌↔◌}
use Rattle.std.specs.List.{All, list_any, range_with_len}
use Rattle.std.proofs.lemmas.Bool.{cases_Bool, and_parts, false≢true, or_left, or_right}
use Rattle.std.proofs.lemmas.Bool.Decides.{nat_tests}
use Rattle.mz_base.specs.declared.profile.Profile.{Profile}
use Rattle.mz_base.specs.Space.{Block, same_block, run_at, blocks_apart, bytes_of}
use Rattle.mz_base.specs.Lists.{has_block}
use Rattle.mz_events.specs.declared.place.Place.{Place}
use Rattle.mz_events.specs.declared.place.Place.TheVariants.{Pages, Tiny, TinyDepot, Small, SmallDepot, Large, Nano}
use Rattle.mz_events.specs.declared.entry.Entry.{Entry}
use Rattle.mz_events.specs.declared.event.Event.{Event}
use Rattle.mz_events.specs.declared.event.Event.TheVariants.{Take, Back, Move, New, End, Size, Full, Dry, No, Open, Shut}
use Rattle.mz_events.specs.Places.{is_magazine, depot_of, exists_in, zone_of, places_of, same_place, Spot, keeper_at, nano_page, same_spot, spot_at, spot_of, place_of}
use Rattle.mz_events.specs.State.{State, opening, look_up, value_at, kept_at, is_open}
use Rattle.mz_events.specs.Effect.{touches, value_after, kept_after, after}
use Rattle.mz_events.specs.Rules.{Fits}
use Rattle.mz_events.specs.Fitting.{FitsByEvent, IsStanding}
use Rattle.mz_events.specs.Holding.{changes_zones}
use Rattle.mz_events.specs.History.{AreLawful, after_entry, after_all}
use Rattle.mz_rack.proofs.Steps.{or_elim}

-- the laws on which this rests
pub record ZoneLaws : Type 0 where
  pub fits : (p : Profile) (s : State) (c : ℕ) → FitsByEvent p s c
  pub touched : (p : Profile) (s : State) (c : ℕ) (e : Event) (j : Spot) → touches p e j ≡ true → value_at (after p s c e) j ≡ value_after s c e j
  pub untouched : (p : Profile) (s : State) (c : ℕ) (e : Event) (j : Spot) → touches p e j ≡ false → value_at (after p s c e) j ≡ value_at s j
  pub spots : (j k : Spot) → (same_spot j k ≡ true) ↔ (j ≡ k)
  pub zones : (p : Profile) (s : State) (c : ℕ) (e : Event) → changes_zones e ≡ false → (z : ℕ) → is_open (after p s c e) z ≡ is_open s z
  pub opened : (p : Profile) (s : State) (c z y : ℕ) → is_open (after p s c (Open z)) y ≡ ((z == y) || is_open s y)
  pub shut : (p : Profile) (s : State) (c z y : ℕ) → is_open (after p s c (Shut z)) y ≡ (not (y == z) && is_open s y)

-- the place of a spot exists, and its zone is open
abbrev InOpen : Profile → State → Place → Type 0
InOpen p s k = (exists_in p k ≡ true) × (is_open s (zone_of k) ≡ true)

abbrev AreInOpen : Profile → State → Type 0
AreInOpen p s = (j : Spot) (b : Block) → has_block (kept_at s j).live b ≡ true → InOpen p s (place_of j)

place_spot : (k : Place) (a : ℕ) → place_of (spot_at k a) ≡ k
place_spot Pages a = refl
place_spot (Tiny z m) a = refl
place_spot (TinyDepot z) a = refl
place_spot (Small z m) a = refl
place_spot (SmallDepot z) a = refl
place_spot (Large z) a = refl
place_spot Nano a = refl

filter_case : (test : Block → Bool) (b x : Block) (xs : List Block) (d : Bool) → (has_block (filter test xs) b ≡ true → has_block xs b ≡ true) → has_block (cond d (x ∷ filter test xs) (filter test xs)) b ≡ true → has_block (x ∷ xs) b ≡ true
filter_case test b x xs true go there = or_elim (same_block b x) (has_block (filter test xs) b) (λ y. or_left (same_block b x) (has_block xs b) y) (λ y. or_right (same_block b x) (has_block xs b) (go y)) there
filter_case test b x xs false go there = or_right (same_block b x) (has_block xs b) (go there)

is_below : (a b : ℕ) → nat_lt a b ≡ true → a < b
is_below a b h = grind (arith, nat_tests)

has_filtered : (test : Block → Bool) (b : Block) (bs : List Block) → has_block (filter test bs) b ≡ true → has_block bs b ≡ true
has_filtered test b [] there = there
has_filtered test b (x ∷ xs) there = filter_case test b x xs (test x) (has_filtered test b xs) there

-- THE PLACES of a zone
any_front : (q : Place → Bool) (xs ys : List Place) → list_any q xs ≡ true → list_any q (xs ++ ys) ≡ true
any_front q [] ys h = absurd (false≢true h)
any_front q (x ∷ xs) ys h = or_elim (q x) (list_any q xs) (λ y. or_left (q x) (list_any q (xs ++ ys)) y) (λ y. or_right (q x) (list_any q (xs ++ ys)) (any_front q xs ys y)) h

any_behind : (q : Place → Bool) (xs ys : List Place) → list_any q ys ≡ true → list_any q (xs ++ ys) ≡ true
any_behind q [] ys h = h
any_behind q (x ∷ xs) ys h = or_right (q x) (list_any q (xs ++ ys)) (any_behind q xs ys h)

same_here : (n : ℕ) → (n == n) ≡ true
same_here n = eq-eqb n n refl

numbered : (q : Place → Bool) (f : ℕ → Place) (m a n : ℕ) → q (f m) ≡ true → a ≤ m → m < a + n → list_any q (map f (range_with_len a n)) ≡ true
numbered q f m a zero h low high = absurd (omega (arith, low, high))
numbered q f m a (suc n) h low high =
    elim (cases_Bool (m == a)) [
      | inl y ↦ or_left (q (f a)) (list_any q (map f (range_with_len (a + 1) n))) (ap (λ i. q (f i)) (sym (eqb-true m a y)) ∙ h)
      | inr other ↦ or_right (q (f a)) (list_any q (map f (range_with_len (a + 1) n))) (numbered q f m (a + 1) n h (above m a low other) (omega (arith, high)))
    ]
  where
    above : (x y : ℕ) → y ≤ x → (x == y) ≡ false → y + 1 ≤ x
    above x y l h = grind (arith, nat_tests)

abbrev tinies : Profile → ℕ → List Place
tinies p z = map (λ i. Tiny z i) (range_with_len 0 p.magazines)

abbrev smalls : Profile → ℕ → List Place
smalls p z = TinyDepot z ∷ map (λ i. Small z i) (range_with_len 0 p.magazines)

abbrev others : ℕ → List Place
others z = SmallDepot z ∷ Large z ∷ []

-- each place that exists is among those of its zone, but for the free pages and nano
there_in : (p : Profile) (k : Place) → exists_in p k ≡ true → zone_of k ≢ 0 → list_any (same_place k) (places_of p (zone_of k)) ≡ true
there_in p Pages h some = absurd (some refl)
there_in p Nano h some = absurd (some refl)
there_in p (Tiny z m) h some =
    let q = same_place (Tiny z m) in
    let below = is_below m p.magazines (and_parts (nat_lt z p.zones) (nat_lt m p.magazines) h).1 in
    any_front q (tinies p z ++ smalls p z) (others z) (any_front q (tinies p z) (smalls p z) (numbered q (λ i. Tiny z i) m 0 p.magazines (rw (same_here z, same_here m) refl) (omega arith) (omega (arith, below))))
there_in p (TinyDepot z) h some =
    let q = same_place (TinyDepot z) in
    any_front q (tinies p z ++ smalls p z) (others z) (any_behind q (tinies p z) (smalls p z) (or_left (z == z) _ (same_here z)))
there_in p (Small z m) h some =
    let q = same_place (Small z m) in
    let below = is_below m p.magazines (and_parts (nat_lt z p.zones) (nat_lt m p.magazines) h).1 in
    any_front q (tinies p z ++ smalls p z) (others z) (any_behind q (tinies p z) (smalls p z) (numbered q (λ i. Small z i) m 0 p.magazines (rw (same_here z, same_here m) refl) (omega arith) (omega (arith, below))))
there_in p (SmallDepot z) h some = any_behind (same_place (SmallDepot z)) (tinies p z ++ smalls p z) (others z) (or_left (z == z) _ (same_here z))
there_in p (Large z) h some = any_behind (same_place (Large z)) (tinies p z ++ smalls p z) (others z) (or_left (z == z) false (same_here z))

module _ (L : ZoneLaws) where
  same_place_is : (j k : Place) → same_place j k ≡ true → j ≡ k
  same_place_is j k h = ap place_of ((L.spots (keeper_at j) (keeper_at k)).0 h)

  -- what holds of each place of the zone holds of this one
  holds_of : (P : Place → Type 0) (ks : List Place) (k : Place) → All P ks → list_any (same_place k) ks ≡ true → P k
  holds_of P [] k all h = absurd (false≢true h)
  holds_of P (x ∷ ks) k all h =
      or_elim (same_place k x) (list_any (same_place k) ks) (λ y. subst P (sym (same_place_is k x y)) (all 0 k (omega arith)))
      (λ y. holds_of P ks k (λ i d lt. all (suc i) d (omega (arith, lt))) y) h

  -- A zone that shuts has no live blocks.
  not_shut : (p : Profile) (s : State) (j : Spot) (b : Block) (z : ℕ) → has_block (kept_at s j).live b ≡ true → exists_in p (place_of j) ≡ true → zone_of (place_of j) ≡ z → z ≢ 0 → All (λ k. (kept_at s (spot_of k)).live ≡ []) (places_of p z) → ⊥
  not_shut p s (nano_page i) b z there ex zone some none = some (sym zone)
  not_shut p s (keeper_at k) b z there ex zone some none =
      let is_some : zone_of k ≢ 0 = λ e. some (sym zone ∙ e) in
      let among : list_any (same_place k) (places_of p z) ≡ true = subst (λ y. list_any (same_place k) (places_of p y) ≡ true) zone (there_in p k ex is_some) in
      let empty : (kept_at s (spot_of k)).live ≡ [] = holds_of (λ q. (kept_at s (spot_of q)).live ≡ []) (places_of p z) k none among in
      let at : spot_of k ≡ keeper_at k = its_spot k is_some in
      false≢true (ap (λ l. has_block l b) (sym (subst (λ i. (kept_at s i).live ≡ []) at empty)) ∙ there)
    where
      its_spot : (q : Place) → zone_of q ≢ 0 → spot_of q ≡ keeper_at q
      its_spot Pages h = refl
      its_spot (Tiny y m) h = refl
      its_spot (TinyDepot y) h = refl
      its_spot (Small y m) h = refl
      its_spot (SmallDepot y) h = refl
      its_spot (Large y) h = refl
      its_spot Nano h = absurd (h refl)

  module _ (p : Profile) (s : State) (c : ℕ) (ok : AreInOpen p s) where
    of_standing : (k : Place) → IsStanding p s c k → InOpen p s k
    of_standing k st = (st.exists, st.zone_open)

    with_depot : (m : Place) → is_magazine m ≡ true → InOpen p s m → InOpen p s (depot_of m)
    with_depot (Tiny z m) is h = ((and_parts (nat_lt z p.zones) (nat_lt m p.magazines) h.0).0, h.1)
    with_depot (Small z m) is h = ((and_parts (nat_lt z p.zones) (nat_lt m p.magazines) h.0).0, h.1)
    with_depot _ is h = absurd (false≢true is)

    both_ends : (f : ℕ) (from to : Place) → Fits p s c (Move f from to) → InOpen p s from × InOpen p s to
    both_ends f from to fits = elim ((L.fits p s c).move_kind f from to fits) [
      | inl h ↦
          let at = of_standing from (((L.fits p s c).put_aside from f h.0).0 (subst (λ (q : Place). Fits p s c (Move f from q)) h.1 fits)).standing in
          (at, subst (λ q. InOpen p s q) (sym h.1) (with_depot from h.0 at))
      | inr h ↦
          let at = of_standing to (((L.fits p s c).take_out to f h.0).0 (subst (λ (q : Place). Fits p s c (Move f q to)) h.1 fits)).standing in
          (subst (λ q. InOpen p s q) (sym h.1) (with_depot to h.0 at), at)
    ]

    at_spot : (j : Spot) (k : Place) (a : ℕ) → (same_spot j (spot_at k a) || false) ≡ true → InOpen p s k → InOpen p s (place_of j)
    at_spot j k a touch at =
        let same = or_elim (same_spot j (spot_at k a)) false (λ y. y) (λ y. absurd (false≢true y)) touch in
        subst (λ q. InOpen p s q) (sym (ap place_of ((L.spots j (spot_at k a)).0 same) ∙ place_spot k a)) at

    -- before an event the zone is open of each block that is live at a touched spot after it
    before : (e : Event) → Fits p s c e → (j : Spot) (b : Block) → touches p e j ≡ true → has_block (kept_after s e j).live b ≡ true → InOpen p s (place_of j)
    before (Take k f w) fits j b touch there = elim (cases_Bool (same_spot j (spot_of Pages))) [
      | inl y ↦ ok j b (sym (rw y refl) ∙ there)
      | inr n ↦ ok j b (sym (rw n refl) ∙ there)
    ]
    before (Back k f w) fits j b touch there = elim (cases_Bool (same_spot j (spot_of Pages))) [
      | inl y ↦ ok j b (sym (rw y refl) ∙ there)
      | inr n ↦ ok j b (has_filtered (λ x. blocks_apart x (bytes_of (run_at f w))) b (kept_at s j).live (sym (rw n refl) ∙ there))
    ]
    before (Move f from to) fits j b touch there =
        let ends = both_ends f from to fits in
        or_elim (same_spot j (spot_of from)) (same_spot j (spot_of to) || false) (λ y. at_spot j from 0 (or_left (same_spot j (spot_of from)) false y) ends.0) (λ y. at_spot j to 0 y ends.1) touch
    before (New k a n al) fits j b touch there = at_spot j k a touch (of_standing k (((L.fits p s c).make k a n al).0 fits).standing)
    before (End k a n) fits j b touch there = at_spot j k a touch (of_standing k (((L.fits p s c).ends k a n).0 fits).standing)
    before (Size k a n m) fits j b touch there = at_spot j k a touch (of_standing k (((L.fits p s c).resize k a n m).0 fits).standing)
    before (Full k n al) fits j b touch there = ok j b there
    before (Dry z w al) fits j b touch there = ok j b there
    before (No k z a n) fits j b touch there = ok j b there
    before (Open z) fits j b touch there = ok j b there
    before (Shut z) fits j b touch there = ok j b there

    was_open : (e : Event) → Fits p s c e → (j : Spot) (b : Block) → has_block (kept_at (after p s c e) j).live b ≡ true → InOpen p s (place_of j)
    was_open e fits j b there = elim (cases_Bool (touches p e j)) [
      | inl y ↦ before e fits j b y (sym (ap (λ v. has_block v.kept.live b) (L.touched p s c e j y)) ∙ there)
      | inr n ↦ ok j b (sym (ap (λ v. has_block v.kept.live b) (L.untouched p s c e j n)) ∙ there)
    ]

    stays_open : (e : Event) → Fits p s c e → (j : Spot) (b : Block) → has_block (kept_at (after p s c e) j).live b ≡ true → InOpen p s (place_of j) → is_open (after p s c e) (zone_of (place_of j)) ≡ true
    stays_open (Take k f w) fits j b there was = L.zones p s c (Take k f w) refl (zone_of (place_of j)) ∙ was.1
    stays_open (Back k f w) fits j b there was = L.zones p s c (Back k f w) refl (zone_of (place_of j)) ∙ was.1
    stays_open (Move f from to) fits j b there was = L.zones p s c (Move f from to) refl (zone_of (place_of j)) ∙ was.1
    stays_open (New k a n al) fits j b there was = L.zones p s c (New k a n al) refl (zone_of (place_of j)) ∙ was.1
    stays_open (End k a n) fits j b there was = L.zones p s c (End k a n) refl (zone_of (place_of j)) ∙ was.1
    stays_open (Size k a n m) fits j b there was = L.zones p s c (Size k a n m) refl (zone_of (place_of j)) ∙ was.1
    stays_open (Full k n al) fits j b there was = L.zones p s c (Full k n al) refl (zone_of (place_of j)) ∙ was.1
    stays_open (Dry z w al) fits j b there was = L.zones p s c (Dry z w al) refl (zone_of (place_of j)) ∙ was.1
    stays_open (No k z a n) fits j b there was = L.zones p s c (No k z a n) refl (zone_of (place_of j)) ∙ was.1
    stays_open (Open z) fits j b there was = L.opened p s c z (zone_of (place_of j)) ∙ or_right (z == zone_of (place_of j)) (is_open s (zone_of (place_of j))) was.1
    stays_open (Shut z) fits j b there was =
        let may = ((L.fits p s c).shuts z).0 fits in
        let kept : has_block (kept_at s j).live b ≡ true = elim (cases_Bool (touches p (Shut z) j)) [
          | inl y ↦ sym (ap (λ v. has_block v.kept.live b) (L.touched p s c (Shut z) j y)) ∙ there
          | inr n ↦ sym (ap (λ v. has_block v.kept.live b) (L.untouched p s c (Shut z) j n)) ∙ there
        ] in
        elim (cases_Bool (zone_of (place_of j) == z)) [
          | inl y ↦ absurd (not_shut p s j b z kept was.0 (eqb-true (zone_of (place_of j)) z y) may.not_first may.no_blocks)
          | inr n ↦ L.shut p s c z (zone_of (place_of j)) ∙ (ap (λ x. not x && is_open s (zone_of (place_of j))) n ∙ was.1)
        ]

    after_event : (e : Event) → Fits p s c e → AreInOpen p (after p s c e)
    after_event e fits j b there = let was = was_open e fits j b there in (was.0, stays_open e fits j b there was)

  through : (p : Profile) (s : State) (es : List Entry) → AreLawful p s es → AreInOpen p s → AreInOpen p (after_all p s es)
  unfolding AreLawful after_all
  through p s [] lawful ok = ok
  through p s (e ∷ es) lawful ok = through p (after_entry p s e) es lawful.1 (after_event p s e.caller ok e.event lawful.0.fits)

  at_first : (p : Profile) → AreInOpen p opening
  unfolding look_up
  at_first p j b there = absurd (false≢true there)

  pub in_open : (p : Profile) (es : List Entry) (j : Spot) (b : Block) → AreLawful p opening es → has_block (kept_at (after_all p opening es) j).live b ≡ true → is_open (after_all p opening es) (zone_of (place_of j)) ≡ true
  in_open p es j b lawful there = (through p opening es lawful (at_first p) j b there).1
