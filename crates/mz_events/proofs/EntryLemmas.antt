-- Lists of entries, one behind another, and what a holder knows through them.
use Rattle.std.proofs.Common.{◌≡◌, ◌≢◌, ℕ, zero, suc, ◌+◌, ◌<◌, Bool, true, false, cond, not, List, [], ◌∷◌, ◌++◌, length, get_or, Option, Some, None, refl, ap, sym, subst, ◌∙◌, inl, inr, arith, append-nil}
use Rattle.std.specs.Prelude.{◌&&◌, ◌||◌, ◌==◌, nat_lt, IsTrue, slice_get}
use Rattle.std.specs.List.{list_any, All, Contains}
use Rattle.std.proofs.lemmas.Bool.{or_parts, false≢true, cases_Bool, eq-eqb, ne_eqb, lt-ltb, cond-true, cond-false}
use Rattle.std.proofs.lemmas.List.Elements.{All-nil, All-cons, All-head, All-tail, All-contains, Contains-get_or, filter-append}
use Rattle.std.proofs.lemmas.List.Sums.{fold-append}
use Rattle.std.proofs.lemmas.Map.Views.{Contains-from_any}
use Rattle.mz_base.specs.declared.profile.Profile.{Profile}
use Rattle.mz_base.specs.Space.{Block}
use Rattle.mz_base.specs.Lists.{insert_by}
use Rattle.mz_events.specs.declared.entry.Entry.{Entry}
use Rattle.mz_events.specs.declared.place.Place.TheVariants.{Pages}
use Rattle.mz_events.specs.declared.event.Event.{Event}
use Rattle.mz_events.specs.declared.event.Event.TheVariants.{Take, Open, Shut}
use Rattle.mz_events.specs.Places.{Spot, same_spot, spot_of, depot_of}
use Rattle.mz_events.specs.State.{State, value_at, is_open, opening}
use Rattle.mz_events.specs.Effect.{touches, value_after, after}
use Rattle.mz_events.specs.History.{IsLawful, AreLawful, after_entry, after_all, owes_nothing, by_ticket, IsLawfulHistory}
use Rattle.mz_events.specs.Locality.{reads, Agree}
use Rattle.mz_events.specs.Hands.{own, hand_after, hand_through, hand_of}
use Rattle.mz_events.specs.Holding.{read_spots, changes_zones, ReadsHeld, IsAway, AreAway, IsKnownThrough}
use Rattle.mz_events.proofs.HistoryLemmas.{entries-after}
use Rattle.mz_events.proofs.LocalityLemmas.{value_at-untouched, value_at-touched, all_local, still_open}
use Rattle.mz_events.proofs.SpotLemmas.{same_spot-true, same_spot-refl}

module _ (p : Profile) where
  -- the state and lawfulness split at any place of the list

  pub after_all-none : (s : State) → after_all p s [] ≡ s
  unfolding after_all
  after_all-none s = refl

  pub after_all-one : (s : State) (e : Entry) → after_all p s (e ∷ []) ≡ after_entry p s e
  unfolding after_all
  after_all-one s e = refl

  pub after_all-append : (s : State) (xs ys : List Entry) → after_all p s (xs ++ ys) ≡ after_all p (after_all p s xs) ys
  unfolding after_all
  after_all-append s [] ys = refl
  after_all-append s (x ∷ xs) ys = after_all-append (after_entry p s x) xs ys

  pub AreLawful-none : (s : State) → AreLawful p s []
  unfolding AreLawful
  AreLawful-none s = tt

  pub AreLawful-one : (s : State) (e : Entry) → IsLawful p s e → AreLawful p s (e ∷ [])
  unfolding AreLawful
  AreLawful-one s e h = (h, tt)

  pub AreLawful-only : (s : State) (e : Entry) → AreLawful p s (e ∷ []) → IsLawful p s e
  unfolding AreLawful
  AreLawful-only s e h = h.0

  pub AreLawful-join : (s : State) (xs ys : List Entry) → AreLawful p s xs × AreLawful p (after_all p s xs) ys → AreLawful p s (xs ++ ys)
  unfolding after_all AreLawful
  AreLawful-join s [] ys h = h.1
  AreLawful-join s (x ∷ xs) ys h = (h.0.0, AreLawful-join (after_entry p s x) xs ys (h.0.1, h.1))

  pub AreLawful-split : (s : State) (xs ys : List Entry) → AreLawful p s (xs ++ ys) → AreLawful p s xs × AreLawful p (after_all p s xs) ys
  unfolding after_all AreLawful
  AreLawful-split s [] ys h = (tt, h)
  AreLawful-split s (x ∷ xs) ys h = let rest = AreLawful-split (after_entry p s x) xs ys h.1 in ((h.0, rest.0), rest.1)

  pub entries-after_all : (s : State) (es : List Entry) → (after_all p s es).entries ≡ s.entries + length es
  unfolding after_all
  entries-after_all s [] = omega arith
  entries-after_all s (e ∷ es) = let a = entries-after_all (after_entry p s e) es in let b = entries-after p s e.caller e.event in omega arith

  -- tickets are indices

  none_some : (e : Entry) → ◌≡◌ {A = Option Entry} None (Some e) → ⊥
  none_some e h = cc

  some_some : (d e : Entry) → ◌≡◌ {A = Option Entry} (Some d) (Some e) → d ≡ e
  some_some d e h = cc

  pub ticket_at : (s : State) (es : List Entry) → AreLawful p s es → (i : ℕ) (e : Entry) → slice_get es i ≡ Some e → e.ticket ≡ s.entries + i
  unfolding AreLawful
  ticket_at s [] h i e at = absurd (none_some e at)
  ticket_at s (x ∷ xs) h zero e at = let same : x.ticket ≡ e.ticket = ap (λ (y : Entry). y.ticket) (some_some x e at) in omega (arith, h.0.in_turn)
  ticket_at s (x ∷ xs) h (suc i) e at = let rest = ticket_at (after_entry p s x) xs h.1 i e at in let n = entries-after p s x.caller x.event in omega arith

  in_front : (s : State) (e : Entry) (es : List Entry) → e.ticket < s.entries → AreLawful p s es → insert_by (λ d. d.ticket) e es ≡ e ∷ es
  unfolding insert_by AreLawful
  in_front s e [] below h = refl
  in_front s e (x ∷ xs) below h =
      let less : nat_lt e.ticket x.ticket ≡ true = lt-ltb e.ticket x.ticket (omega (arith, h.0.in_turn)) in
      rw less refl

  pub stays_in_order : (s : State) (es : List Entry) → AreLawful p s es → by_ticket es ≡ es
  unfolding by_ticket AreLawful
  stays_in_order s [] h = refl
  stays_in_order s (e ∷ es) h =
      let n = entries-after p s e.caller e.event in
      ap (insert_by (λ d. d.ticket) e) (stays_in_order (after_entry p s e) es h.1) ∙ in_front (after_entry p s e) e es (omega (arith, h.0.in_turn)) h.1

  pub lawful_in_order : (es : List Entry) → AreLawful p opening es → IsTrue (owes_nothing (after_all p opening es)) → IsLawfulHistory p es
  lawful_in_order es h settled =
      let order = sym (stays_in_order opening es h) in
      record {
        each = subst (AreLawful p opening) order h;
        settled = subst (λ xs. IsTrue (owes_nothing (after_all p opening xs))) order settled;
      }

  -- what an event leaves of the zones

  same_zones : (s : State) (c : ℕ) (e : Event) → changes_zones e ≡ false → (after p s c e).open_zones ≡ s.open_zones
  unfolding after
  same_zones s c (Open z) h = absurd (false≢true (sym h))
  same_zones s c (Shut z) h = absurd (false≢true (sym h))
  same_zones s c _ h = refl

  pub zones_stay : (s : State) (c : ℕ) (e : Event) → changes_zones e ≡ false → (z : ℕ) → is_open (after p s c e) z ≡ is_open s z
  zones_stay s c e h z = ap (λ zs. list_any (λ y. y == z) zs) (same_zones s c e h)

  pub zone_opens : (s : State) (c z y : ℕ) → is_open (after p s c (Open z)) y ≡ ((z == y) || is_open s y)
  unfolding after
  zone_opens s c z y = refl

  pub zone_shuts : (s : State) (c z y : ℕ) → is_open (after p s c (Shut z)) y ≡ (not (y == z) && is_open s y)
  unfolding after
  zone_shuts s c z y = still_open y z s.open_zones

  -- a holder

  module _ (c : ℕ) (held : Spot → Bool) where
    abbrev Away : Entry → Type 0
    Away e = IsAway p c held e

    pub held_values : (s : State) (es : List Entry) → All Away es → (j : Spot) → held j ≡ true → value_at (after_all p s es) j ≡ value_at s j
    unfolding after_all
    held_values s [] w j h = refl
    held_values s (e ∷ es) w j h = held_values (after_entry p s e) es (All-tail Away e es w) j h ∙ value_at-untouched p s e.caller e.event j ((All-head Away e es w).untouched j h)

    pub held_zones : (s : State) (es : List Entry) → All Away es → (z : ℕ) → is_open (after_all p s es) z ≡ is_open s z
    unfolding after_all
    held_zones s [] w z = refl
    held_zones s (e ∷ es) w z = held_zones (after_entry p s e) es (All-tail Away e es w) z ∙ zones_stay s e.caller e.event (All-head Away e es w).no_zone z

    none_own : (es : List Entry) → All Away es → own c es ≡ []
    none_own [] w = refl
    none_own (e ∷ es) w =
        let other : (e.caller == c) ≡ false = ne_eqb e.caller c (All-head Away e es w).other in
        rw other (none_own es (All-tail Away e es w))

    held_agree : (s : State) (es : List Entry) → All Away es → (e : Event) → ReadsHeld p held e → Agree p e s (after_all p s es)
    held_agree s es w e reads_held = record { values = λ j h. sym (held_values s es w j (reads_held j h)); zones = λ z. sym (held_zones s es w z) }

    left_at : (s t : State) (d : ℕ) (e : Event) → Agree p e s t → (j : Spot) → value_at t j ≡ value_at s j → value_at (after p t d e) j ≡ cond (touches p e j) (value_after s d e j) (value_at s j)
    left_at s t d e agree j same = elim (cases_Bool (touches p e j)) [
      | inl y ↦ sym ((all_local p e).effect s t d j agree y) ∙ (value_at-touched p s d e j y ∙ sym (cond-true (touches p e j) (value_after s d e j) (value_at s j) y))
      | inr n ↦ value_at-untouched p t d e j n ∙ (same ∙ sym (cond-false (touches p e j) (value_after s d e j) (value_at s j) n))
    ]

    pub known_through : (s : State) (es : List Entry) → AreAway p c held es → IsKnownThrough p c held s es
    known_through s es w = record {
      values = held_values s es w;
      zones = held_zones s es w;
      none_own = none_own es w;
      fits = λ d e reads_held fits. (all_local p e).fits s (after_all p s es) d (held_agree s es w e reads_held) fits;
      touched = λ d e reads_held j y.
          let agree = held_agree s es w e reads_held in
          sym ((all_local p e).effect s (after_all p s es) d j agree y) ∙ value_at-touched p s d e j y;
      untouched = λ d e j h n. value_at-untouched p (after_all p s es) d e j n ∙ held_values s es w j h;
      leaves = λ d e reads_held j h. left_at s (after_all p s es) d e (held_agree s es w e reads_held) j (held_values s es w j h);
    }

  -- a spot that no entry touches stays
  pub untouched_stays : (s : State) (es : List Entry) (j : Spot) → All (λ e. touches p e.event j ≡ false) es → value_at (after_all p s es) j ≡ value_at s j
  unfolding after_all
  untouched_stays s [] j w = refl
  untouched_stays s (e ∷ es) j w =
      untouched_stays (after_entry p s e) es j (All-tail (λ (d : Entry). touches p d.event j ≡ false) e es w) ∙ value_at-untouched p s e.caller e.event j (All-head (λ (d : Entry). touches p d.event j ≡ false) e es w)

-- what is read

none_there : (j : Spot) (js : List Spot) → list_any (same_spot j) js ≡ false → All (λ i. same_spot j i ≡ false) js
none_there j [] h = All-nil (λ (i : Spot). same_spot j i ≡ false)
none_there j (k ∷ ks) h =
    let parts = or_parts (same_spot j k) (list_any (same_spot j) ks) h in
    All-cons (λ (i : Spot). same_spot j i ≡ false) k ks parts.0 (none_there j ks parts.1)

-- a test by spots says which spots are there
pub spot_is_there : (j : Spot) (js : List Spot) → list_any (same_spot j) js ≡ true → Contains js j
spot_is_there j js h = Contains-from_any {eq = same_spot} same_spot-true j js h

pub spot_found : (j : Spot) (js : List Spot) → Contains js j → list_any (same_spot j) js ≡ true
spot_found j js h = elim (cases_Bool (list_any (same_spot j) js)) [
  | inl y ↦ y
  | inr n ↦
      let differs : same_spot j j ≡ false = All-contains (λ (i : Spot). same_spot j i ≡ false) js j (none_there j js n) h in
      absurd (false≢true (sym differs ∙ same_spot-refl j))
]

or_regroup : (a b d : Bool) → ((a || (b || false)) || d) ≡ (a || (b || (d || false)))
or_regroup true b d = refl
or_regroup false true d = refl
or_regroup false false true = refl
or_regroup false false false = refl

or_none : (b : Bool) → (b || false) ≡ b
or_none true = refl
or_none false = refl

pub reads-is : (p : Profile) (e : Event) (j : Spot) → reads p e j ≡ list_any (same_spot j) (read_spots p e)
reads-is p (Take k f w) j = or_regroup (same_spot j (spot_of k)) (same_spot j (spot_of Pages)) (same_spot j (spot_of (depot_of k)))
reads-is p _ j = or_none _

pub reads_touched : (p : Profile) (e : Event) (j : Spot) → touches p e j ≡ true → reads p e j ≡ true
reads_touched p e j h = rw h refl

-- what is read is held where each spot of the list is
pub reads_held : (p : Profile) (held : Spot → Bool) (e : Event) → All (λ j. held j ≡ true) (read_spots p e) → ReadsHeld p held e
reads_held p held e all j h = All-contains (λ (i : Spot). held i ≡ true) (read_spots p e) j all (spot_is_there j (read_spots p e) (sym (reads-is p e j) ∙ h))

pub reads_those : (p : Profile) (held : Spot → Bool) (e : Event) → ReadsHeld p held e → All (λ j. held j ≡ true) (read_spots p e)
reads_those p held e h k d below = h (get_or (read_spots p e) k d) (reads-is p e (get_or (read_spots p e) k d) ∙ spot_found (get_or (read_spots p e) k d) (read_spots p e) (Contains-get_or (read_spots p e) k d below))

-- own entries and hands

pub hand_through-append : (hand : List Block) (xs ys : List Entry) → hand_through hand (xs ++ ys) ≡ hand_through (hand_through hand xs) ys
hand_through-append hand xs ys = fold-append (λ (bs : List Block) (e : Entry). hand_after bs e.event) hand xs ys

pub own-append : (c : ℕ) (xs ys : List Entry) → own c (xs ++ ys) ≡ own c xs ++ own c ys
own-append c xs ys = filter-append (λ (e : Entry). e.caller == c) xs ys

pub own-one : (c : ℕ) (e : Entry) → e.caller ≡ c → own c (e ∷ []) ≡ e ∷ []
own-one c e h = rw (eq-eqb e.caller c h) refl

pub own-other : (c : ℕ) (e : Entry) → e.caller ≢ c → own c (e ∷ []) ≡ []
own-other c e h = rw (ne_eqb e.caller c h) refl

pub hand_of-append : (c : ℕ) (xs ys : List Entry) → hand_of c (xs ++ ys) ≡ hand_through (hand_of c xs) (own c ys)
hand_of-append c xs ys = ap (hand_through []) (own-append c xs ys) ∙ hand_through-append [] (own c xs) (own c ys)

pub hand_of-one : (c : ℕ) (xs : List Entry) (e : Entry) → e.caller ≡ c → hand_of c (xs ++ e ∷ []) ≡ hand_after (hand_of c xs) e.event
hand_of-one c xs e h = hand_of-append c xs (e ∷ []) ∙ ap (hand_through (hand_of c xs)) (own-one c e h)

pub own-not_mine : (c : ℕ) (xs : List Entry) (e : Entry) → e.caller ≢ c → own c (xs ++ e ∷ []) ≡ own c xs
own-not_mine c xs e h = own-append c xs (e ∷ []) ∙ (ap (λ ys. own c xs ++ ys) (own-other c e h) ∙ append-nil (own c xs))
