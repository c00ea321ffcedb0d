-- From one call of a book to the next.
use Rattle.std.proofs.Common.{◌≡◌, ℕ, ◌<◌, ◌≤◌, ◌==◌, Bool, true, false, List, [], ◌∷◌, refl, ap, sym, subst, ◌∙◌, arith, inl, inr, ◌⊎◌, None, eq-eqb}
use Rattle.std.specs.Prelude.{◌||◌, nat_lt, if◌then◌else◌}
use Rattle.std.specs.List.{list_all}
use Rattle.std.proofs.lemmas.Bool.{and_parts, and_from, false≢true, cases_Bool}
use Rattle.std.proofs.lemmas.Bool.Decides.{nat_tests}
use Rattle.mz_base.specs.declared.profile.Profile.{Profile}
use Rattle.mz_base.specs.Site.{Site}
use Rattle.mz_events.specs.declared.place.Place.{Place}
use Rattle.mz_events.specs.declared.place.Place.TheVariants.{Pages, Tiny, Small, Large}
use Rattle.mz_events.specs.declared.event.Event.{Event}
use Rattle.mz_events.specs.declared.entry.Entry.{Entry}
use Rattle.mz_events.specs.Places.{is_magazine, is_nano, depot_of, zone_of, exists_in, Spot, same_spot, spot_of}
use Rattle.mz_events.specs.State.{Kept, is_open}
use Rattle.mz_events.specs.Effect.{touches, value_after}
use Rattle.mz_events.specs.Rules.{Fits}
use Rattle.mz_events.specs.Locality.{reads}
use Rattle.mz_events.specs.Holding.{changes_zones, ReadsHeld}
use Rattle.mz_events.specs.Fitting.{IsStanding}
use Rattle.mz_events.specs.Standing.{Keeping, Stands}
use Rattle.mz_book.specs.Keepers.{keeper_count, keeper_of, place_at, keeper_spot, is_among, is_held}
use Rattle.mz_book.specs.Pairs.{is_in_hand}
use Rattle.mz_book.specs.Account.{Account, state_of, known, holds_spot, hand, StandsFor}
use Rattle.mz_book.specs.Calls.{CanHold, is_at_nano, CanNote, Notes, CanRelease, Releases, without}
use Rattle.mz_book.specs.Growth.{IsSame, Grows}
use Rattle.mz_rack.specs.declared.way.Way.{Way}
use Rattle.mz_rack.specs.BookLaws.{BookLaws}
use Rattle.mz_rack.specs.Ways.{IsWay}
use Rattle.mz_rack.specs.Stages.{at_magazine, at_depot, at_large, at_pages, Keeps, CanAsk, AllHeld}

pub or_elim : {P : Type 0} (a b : Bool) → (a ≡ true → P) → (b ≡ true → P) → (a || b) ≡ true → P
or_elim true b f g h = f refl
or_elim false b f g h = g h

pub below_test : (a b : ℕ) → a < b → nat_lt a b ≡ true
below_test a b h = grind (arith, nat_tests)

pub test_below : (a b : ℕ) → nat_lt a b ≡ true → a < b
test_below a b h = grind (arith, nat_tests)

pub less_differs : (a b : ℕ) → a < b → (a == b) ≡ false
less_differs a b h = grind (arith, nat_tests)

pub same_number : (a : ℕ) → (a == a) ≡ true
same_number a = eq-eqb a a refl

-- spots

pub same_spot_refl : BookLaws → (j : Spot) → same_spot j j ≡ true
same_spot_refl L j = (L.spots j j).1 refl

pub apart_back : BookLaws → (j k : Spot) → same_spot j k ≡ false → same_spot k j ≡ false
apart_back L j k h = elim (cases_Bool (same_spot k j)) [
  | inl y ↦ absurd (false≢true (sym h ∙ (L.spots j k).1 (sym ((L.spots k j).0 y))))
  | inr n ↦ n
]

pub one_spot : BookLaws → (j k : Spot) → ((same_spot j k || false) || false) ≡ true → j ≡ k
one_spot L j k h = (L.spots j k).0 (or_elim (same_spot j k || false) false (λ y. or_elim (same_spot j k) false (λ z. z) (λ z. absurd (false≢true z)) y) (λ y. absurd (false≢true y)) h)

pub two_spots : BookLaws → (j k l : Spot) → ((same_spot j k || (same_spot j l || false)) || false) ≡ true → (j ≡ k) ⊎ (j ≡ l)
two_spots L j k l h =
    or_elim (same_spot j k || (same_spot j l || false)) false
    (λ y. or_elim (same_spot j k) (same_spot j l || false) (λ z. inl ((L.spots j k).0 z)) (λ z. or_elim (same_spot j l) false (λ u. inr ((L.spots j l).0 u)) (λ u. absurd (false≢true u)) z) y)
    (λ y. absurd (false≢true y)) h

pub held_at : (s : Account) (j k : Spot) → j ≡ k → holds_spot s k ≡ true → holds_spot s j ≡ true
held_at s j k e h = ap (λ x. holds_spot s x) e ∙ h

-- what is held is held still
pub held_still : (s t : Account) (j : Spot) → IsSame s t → t.held ≡ s.held → holds_spot s j ≡ true → holds_spot t j ≡ true
held_still s t j same held h = ap (λ (p : Profile). is_held p t.held j) same.profile ∙ (ap (λ l. is_held s.profile l j) held ∙ h)

-- a keeper's number and its place
module _ (L : BookLaws) (t : Account) (q : Place) (k : ℕ) (is : k ≡ keeper_of t.profile q) (plain : is_nano q ≡ false) (there : exists_in t.profile q ≡ true) where
  pub its_place : place_at t.profile k ≡ q
  its_place = ap (place_at t.profile) is ∙ L.place t.profile q plain there

  pub keeps_at : (v : Keeping) → StandsFor t k v → Keeps t q v
  keeps_at v h = subst (λ (x : Place). Stands v t.site t.profile x (known t (spot_of x)).kept) its_place h

  pub stands_by : (v : Keeping) → Keeps t q v → StandsFor t k v
  stands_by v h = subst (λ (x : Place). Stands v t.site t.profile x (known t (spot_of x)).kept) (sym its_place) h

  pub calm_at : (known t (keeper_spot t.profile k)).duty ≡ None → (known t (spot_of q)).duty ≡ None
  calm_at h = ap (λ (x : Place). (known t (spot_of x)).duty) (sym its_place) ∙ h

  pub calm_by : (known t (spot_of q)).duty ≡ None → (known t (keeper_spot t.profile k)).duty ≡ None
  calm_by h = ap (λ (x : Place). (known t (spot_of x)).duty) its_place ∙ h

-- what a keeper stands for, as it is known later
pub stands_then : (s t : Account) (q : Place) (k l : Kept) (v : Keeping) → IsSame s t → l ≡ k → Stands v s.site s.profile q k → Stands v t.site t.profile q l
stands_then s t q k l v same e h = subst (λ (p : Profile). Stands v t.site p q l) (sym same.profile) (subst (λ (x : Site). Stands v x s.profile q l) (sym same.site) (subst (λ (y : Kept). Stands v s.site s.profile q y) (sym e) h))

-- what is known after a note
pub learn_touched : (s : Account) (e : Event) (n : ℕ) (t : Account) (j : Spot) → Notes s e n t → holds_spot s j ≡ true → touches s.profile e j ≡ true → known t j ≡ value_after (state_of s) s.caller e j
learn_touched s e n t j h y z = h.learns j y ∙ ap (λ b. if b then value_after (state_of s) s.caller e j else known s j) z

pub learn_other : (s : Account) (e : Event) (n : ℕ) (t : Account) (j : Spot) → Notes s e n t → holds_spot s j ≡ true → touches s.profile e j ≡ false → known t j ≡ known s j
learn_other s e n t j h y z = h.learns j y ∙ ap (λ b. if b then value_after (state_of s) s.caller e j else known s j) z

-- an event of a place that has a keeper can be noted where it fits and what it reads is held
pub can_note : (s : Account) (e : Event) → 1 ≤ s.spare → changes_zones e ≡ false → is_in_hand (hand s) e ≡ true → is_at_nano e ≡ false → ReadsHeld s.profile (holds_spot s) e → Fits s.profile (state_of s) s.caller e → CanNote s e
can_note s e room no_zone owned plain reads fits = record {
  room = room;
  between = λ y. absurd (false≢true (sym no_zone ∙ y));
  in_hand = owned;
  by_held = λ _. record { held = reads; fits = fits };
  at_nano = λ y. absurd (false≢true (sym plain ∙ y));
}

-- the way stays the caller's
pub can_same : (s t : Account) (w : Way) (n al : ℕ) → CanAsk s w n al → IsSame s t → ((z : ℕ) → is_open (state_of t) z ≡ is_open (state_of s) z) → CanAsk t w n al
can_same s t w n al can same zones = record {
  way = subst (λ (p : Profile). IsWay p w) (sym same.profile) can.way;
  zone_open = zones w.zone ∙ can.zone_open;
  size = can.size;
  power = can.power;
  range = can.range;
}

pub standing : (s : Account) (w : Way) (n al : ℕ) → CanAsk s w n al → s.caller < s.profile.callers → IsStanding s.profile (state_of s) s.caller w.magazine
standing s w n al can c = record {
  caller = c;
  exists = can.way.exists;
  zone_open = ap (λ z. is_open (state_of s) z) can.way.zone ∙ can.zone_open;
}

zone_in : (p : Profile) (q : Place) → is_magazine q ≡ true → exists_in p q ≡ true → nat_lt (zone_of q) p.zones ≡ true
zone_in p (Tiny z m) h e = (and_parts (nat_lt z p.zones) (nat_lt m p.magazines) e).0
zone_in p (Small z m) h e = (and_parts (nat_lt z p.zones) (nat_lt m p.magazines) e).0
zone_in p _ h e = absurd (false≢true h)

-- the keepers of a way
module _ (L : BookLaws) (p : Profile) (w : Way) (way : IsWay p w) where
  pub plain_k : is_nano w.magazine ≡ false
  plain_k = (L.depot p w.magazine way.magazine).magazine.not_nano

  pub plain_d : is_nano (depot_of w.magazine) ≡ false
  plain_d = (L.depot p w.magazine way.magazine).depot.not_nano

  pub there_d : exists_in p (depot_of w.magazine) ≡ true
  there_d = (L.depot p w.magazine way.magazine).exists way.exists

  pub zone_below : nat_lt w.zone p.zones ≡ true
  zone_below = subst (λ z. nat_lt z p.zones ≡ true) way.zone (zone_in p w.magazine way.magazine way.exists)

  abbrev one : List ℕ
  one = w.k ∷ []

  abbrev two : List ℕ
  two = w.k ∷ w.d ∷ []

  abbrev three : List ℕ
  three = w.k ∷ w.d ∷ w.l ∷ []

  abbrev four : List ℕ
  four = w.k ∷ w.d ∷ w.l ∷ w.p ∷ []

  number_held : (held : List ℕ) (q : Place) (k : ℕ) → k ≡ keeper_of p q → is_nano q ≡ false → is_among held k ≡ true → is_held p held (spot_of q) ≡ true
  number_held held q k is plain h = L.held p held q plain ∙ (ap (λ x. is_among held x) (sym is) ∙ h)

  pub one_k : is_held p one (at_magazine w) ≡ true
  one_k = number_held one w.magazine w.k way.k plain_k (rw (same_number w.k) refl)

  pub two_k : is_held p two (at_magazine w) ≡ true
  two_k = number_held two w.magazine w.k way.k plain_k (rw (same_number w.k) refl)

  pub two_d : is_held p two (at_depot w) ≡ true
  two_d = number_held two (depot_of w.magazine) w.d way.d plain_d (rw (less_differs w.k w.d way.k_below, same_number w.d) refl)

  pub three_k : is_held p three (at_magazine w) ≡ true
  three_k = number_held three w.magazine w.k way.k plain_k (rw (same_number w.k) refl)

  pub three_d : is_held p three (at_depot w) ≡ true
  three_d = number_held three (depot_of w.magazine) w.d way.d plain_d (rw (less_differs w.k w.d way.k_below, same_number w.d) refl)

  k_l : w.k < w.l
  k_l = let a = way.k_below in let b = way.d_below in omega arith

  k_p : w.k < w.p
  k_p = let a = way.k_below in let b = way.d_below in let c = way.l_below in omega arith

  d_p : w.d < w.p
  d_p = let b = way.d_below in let c = way.l_below in omega arith

  pub three_l : is_held p three (at_large w) ≡ true
  three_l = number_held three (Large w.zone) w.l way.l refl (rw (less_differs w.k w.l k_l, less_differs w.d w.l way.d_below, same_number w.l) refl)

  pub four_k : is_held p four (at_magazine w) ≡ true
  four_k = number_held four w.magazine w.k way.k plain_k (rw (same_number w.k) refl)

  pub four_d : is_held p four (at_depot w) ≡ true
  four_d = number_held four (depot_of w.magazine) w.d way.d plain_d (rw (less_differs w.k w.d way.k_below, same_number w.d) refl)

  pub four_l : is_held p four (at_large w) ≡ true
  four_l = number_held four (Large w.zone) w.l way.l refl (rw (less_differs w.k w.l k_l, less_differs w.d w.l way.d_below, same_number w.l) refl)

  pub four_p : is_held p four at_pages ≡ true
  four_p = number_held four Pages w.p way.pages_is refl (rw (less_differs w.k w.p k_p, less_differs w.d w.p d_p, less_differs w.l w.p way.l_below, same_number w.p) refl)

  pub drop_k : without w.k one ≡ []
  drop_k = rw (same_number w.k) refl

  pub has_k : is_among one w.k ≡ true
  has_k = rw (same_number w.k) refl

  pub drop_d : without w.d two ≡ one
  drop_d = rw (less_differs w.k w.d way.k_below, same_number w.d) refl

  pub has_d : is_among two w.d ≡ true
  has_d = rw (less_differs w.k w.d way.k_below, same_number w.d) refl

  pub drop_l : without w.l three ≡ two
  drop_l = rw (less_differs w.k w.l k_l, less_differs w.d w.l way.d_below, same_number w.l) refl

  pub has_l : is_among three w.l ≡ true
  has_l = rw (less_differs w.k w.l k_l, less_differs w.d w.l way.d_below, same_number w.l) refl

  pub drop_p : without w.p four ≡ three
  drop_p = rw (less_differs w.k w.p k_p, less_differs w.d w.p d_p, less_differs w.l w.p way.l_below, same_number w.p) refl

  pub has_p : is_among four w.p ≡ true
  has_p = rw (less_differs w.k w.p k_p, less_differs w.d w.p d_p, less_differs w.l w.p way.l_below, same_number w.p) refl

  -- each can be taken where those before it are held
  pub below_p : w.p < keeper_count p
  below_p = way.p_below

  pub below_l : w.l < keeper_count p
  below_l = let a = way.l_below in let b = way.p_below in omega arith

  pub below_d : w.d < keeper_count p
  below_d = let a = way.d_below in let b = way.l_below in let c = way.p_below in omega arith

  pub below_k : w.k < keeper_count p
  below_k = let a = way.k_below in let b = way.d_below in let c = way.l_below in let d = way.p_below in omega arith

  pub above_d : list_all (λ x. nat_lt x w.d) one ≡ true
  above_d = and_from (nat_lt w.k w.d) true (below_test w.k w.d way.k_below) refl

  pub above_l : list_all (λ x. nat_lt x w.l) two ≡ true
  above_l = and_from (nat_lt w.k w.l) _ (below_test w.k w.l k_l) (and_from (nat_lt w.d w.l) true (below_test w.d w.l way.d_below) refl)

  pub above_p : list_all (λ x. nat_lt x w.p) three ≡ true
  above_p = and_from (nat_lt w.k w.p) _ (below_test w.k w.p k_p) (and_from (nat_lt w.d w.p) _ (below_test w.d w.p d_p) (and_from (nat_lt w.l w.p) true (below_test w.l w.p way.l_below) refl))

-- a keeper's number is above those held
pub can_hold : (s : Account) (k : ℕ) (h : List ℕ) → s.held ≡ h → k < keeper_count s.profile → list_all (λ x. nat_lt x k) h ≡ true → CanHold s k
can_hold s k h e below above = record { exists = below; above_held = ap (λ x. list_all (λ y. nat_lt y k) x) e ∙ above }

-- giving keepers back, one after another

pub let_down : (s : Account) (h : List ℕ) (t : Account) (k : ℕ) (u : Account) (l : List ℕ) → t ≡ record s { held = h } → Releases t k u → without k h ≡ l → u ≡ record s { held = l }
let_down s h t k u l e r d = r.after ∙ (ap (λ (v : Account). record v { held = without k v.held }) e ∙ ap (λ x. record s { held = x }) d)

pub itself : (s : Account) (h : List ℕ) → s.held ≡ h → s ≡ record s { held = h }
itself s h e = ap (λ x. record s { held = x }) e

module _ (L : BookLaws) (s : Account) (h : List ℕ) (t : Account) (e : t ≡ record s { held = h }) (q : Place) (k : ℕ) (is : k ≡ keeper_of s.profile q) (plain : is_nano q ≡ false) (there : exists_in s.profile q ≡ true) where
  pub can_release : is_among h k ≡ true → (known s (spot_of q)).duty ≡ None → CanRelease t k
  can_release has calm =
      let u : Account = record s { held = h } in
      subst (λ (x : Account). CanRelease x k) (sym e) (record { held = has; calm = calm_by L u q k is plain there calm })

  pub still_stands : (v : Keeping) → Keeps s q v → StandsFor t k v
  still_stands v y =
      let u : Account = record s { held = h } in
      subst (λ (x : Account). StandsFor x k v) (sym e) (stands_by L u q k is plain there v y)

pub holds_all : (s : Account) (w : Way) (j : Spot) → AllHeld s w → is_held s.profile (w.k ∷ w.d ∷ w.l ∷ w.p ∷ []) j ≡ true → holds_spot s j ≡ true
holds_all s w j all h = ap (λ x. is_held s.profile x j) all.held ∙ h

-- growing, and then giving all back
pub rest_grows : BookLaws → (s : Account) (xs : List Entry) (n : ℕ) (t : Account) (h : List ℕ) (u : Account) → Grows s xs n t → u ≡ record t { held = h } → Grows s xs n u
rest_grows L s xs n t h u g r = subst (λ (x : Account). Grows s xs n x) (sym r) (record {
  adds = record {
    more = g.adds.more;
    same = record {
      name = g.adds.same.name;
      profile = g.adds.same.profile;
      caller = g.adds.same.caller;
      site = g.adds.same.site;
      between = g.adds.same.between;
      lights = g.adds.same.lights;
      settled = g.adds.same.settled;
      founds = g.adds.same.founds;
      found = g.adds.same.found;
    };
    seen = g.adds.seen;
    own_is = g.adds.own_is;
    alone = g.adds.alone;
    noted = g.adds.noted;
    pairs = g.adds.pairs;
    spare = g.adds.spare;
    holds = g.adds.holds;
    zones = g.adds.zones;
  };
  undisturbed = g.undisturbed;
})
