-- Seats are cut from seat 0 and taken in again: split-seat and join-seat.
use Rattle.std.proofs.Common.{◌≡◌, ◌≢◌, ℕ, ◌+◌, ◌<◌, ◌≤◌, ◌==◌, Bool, true, false, cond, not, ◌⊎◌, List, [], ◌∷◌, ◌++◌, length, get_or, set, replicate, Option, refl, sym, ap, ◌∙◌, subst, arith, eq-eqb, ne_eqb, inl, inr, ⊎_elim, zero, suc, length-set, length-append, append-nil}
use Rattle.std.specs.Prelude.{◌||◌, filter, map}
use Rattle.std.specs.List.{All, list_any}
use Rattle.std.proofs.lemmas.List.{length-replicate}
use Rattle.std.proofs.lemmas.List.Elements.{All-nil, All-cons, All-head, All-tail, All-append, All-weaker, filter-append}
use Rattle.std.proofs.lemmas.Bool.{cases_eq, cases_Bool, false≢true, eqb-true}
use mathlib.Core.Option as m
use mathlib.Core.Option.{some-injective}
use lib.ListN.{get_elem?}
use Rattle.atomic_table.specs.Table as table
use Rattle.atomic_table.specs.Table.{Splits, Joins}
use Rattle.atomic_table.proofs.Lists.{at_set, set_else, at_longer}
use Rattle.mz_base.specs.declared.profile.Profile.{Profile}
use Rattle.mz_base.specs.Space.{Block}
use Rattle.mz_events.specs.declared.entry.Entry.{Entry}
use Rattle.mz_events.specs.Places.{Spot, keeper_at, nano_page}
use Rattle.mz_events.specs.State.{State, opening}
use Rattle.mz_events.specs.Changes.{one_for}
use Rattle.mz_events.specs.History.{after_all}
use Rattle.mz_events.specs.Hands.{own, hand_through}
use Rattle.mz_events.specs.Holding.{changes_zones, IsAway, AreAway}
use Rattle.mz_events.specs.Standing.{Keeping}
use Rattle.mz_book.specs.declared.pair.Pair.{Pair}
use Rattle.mz_book.specs.Keepers.{is_among, is_held}
use Rattle.mz_book.specs.Pairs.{hand_among, owners, block_of}
use Rattle.mz_book.specs.Lights.{has_slot, is_slot_live, has_light, light_at}
use Rattle.mz_book.specs.Account.{is_live}
use Rattle.mz_desk.specs.declared.view.TakenIn.{TakenIn}
use Rattle.mz_desk.specs.declared.view.View.{View}
use Rattle.mz_desk.specs.Laws.{DeskLaws}
use Rattle.mz_desk.specs.Words.{class_word, light_word}
use Rattle.mz_desk.specs.Views.{Opened, has_lock, took_in, knows_class, all_pairs, pairs_of, pairs_besides}
use Rattle.mz_desk.specs.Seats.{giver, given_view, joined_view, spent_view, CanGive, CanTakeIn}
use Rattle.mz_desk.specs.Rule.{all_of, state_after, AreSettled, AreTold, IsKnown, IsAloneSince, IsWhose, SeatKeeps, LightOwner, IsSpent, IsTaken, HandsKeep, LightsKeep, LocksKeep, Kept, Rule}
use Rattle.mz_desk.proofs.ListLemmas.{or_either, or_left, or_right, set_there, at_length, snoc_at}
use Rattle.mz_desk.proofs.Frames.{lock_owner, spent_stays, told_stays}
use Rattle.mz_desk.proofs.Knowing.{owners_append, owners_set, slot_append, hand_append}

-- the pairs of one number, and those of the others

cut_case : (g : ℕ) (x : Pair) (xs : List Pair) (b : Block) (d : Bool) → owners (pairs_besides g xs) b + owners (pairs_of g xs) b ≡ owners xs b
    → owners (cond (not d) (x ∷ pairs_besides g xs) (pairs_besides g xs)) b + owners (cond d (x ∷ pairs_of g xs) (pairs_of g xs)) b ≡ owners (x ∷ xs) b
cut_case g x xs b true h = let a = owners_append (x ∷ []) xs b in let c = owners_append (x ∷ []) (pairs_of g xs) b in omega arith
cut_case g x xs b false h = let a = owners_append (x ∷ []) xs b in let c = owners_append (x ∷ []) (pairs_besides g xs) b in omega arith

owners_cut : (g : ℕ) (hs : List Pair) (b : Block) → owners (pairs_besides g hs) b + owners (pairs_of g hs) b ≡ owners hs b
owners_cut g [] b = refl
owners_cut g (x ∷ xs) b = cut_case g x xs b (x.caller == g) (owners_cut g xs b)

of_besides : (c g : ℕ) (hs : List Pair) → c ≢ g → pairs_of c (pairs_besides g hs) ≡ pairs_of c hs
of_besides c g [] n = refl
of_besides c g (x ∷ xs) n = elim (cases_Bool (x.caller == c)) [
  | inl y ↦ rw (ne_eqb x.caller g (λ e. n (sym (eqb-true x.caller c y) ∙ e))) (rw y (ap (λ ys. x ∷ ys) (of_besides c g xs n)))
  | inr z ↦ elim (cases_Bool (x.caller == g)) [
    | inl y ↦ rw (y, z) (of_besides c g xs n)
    | inr y ↦ rw y (rw z (of_besides c g xs n))
  ]
]

besides_case : (P Q : Pair → Type 0) (g : ℕ) (x : Pair) (xs : List Pair) (d : Bool) → (x.caller == g) ≡ d → (x.caller ≢ g → Q x) → All Q xs → All Q (cond (not d) (x ∷ xs) xs)
besides_case P Q g x xs true e q h = h
besides_case P Q g x xs false e q h = All-cons Q x xs (q (λ y. false≢true (sym e ∙ eq-eqb x.caller g y))) h

besides_all : (P Q : Pair → Type 0) (g : ℕ) → ((x : Pair) → x.caller ≢ g → P x → Q x) → (hs : List Pair) → All P hs → All Q (pairs_besides g hs)
besides_all P Q g f [] h = All-nil Q
besides_all P Q g f (x ∷ xs) h = besides_case P Q g x (pairs_besides g xs) (x.caller == g) refl (λ n. f x n (All-head P x xs h)) (besides_all P Q g f xs (All-tail P x xs h))

of_case : (Q : Pair → Type 0) (g : ℕ) (x : Pair) (xs : List Pair) (d : Bool) → (x.caller == g) ≡ d → (x.caller ≡ g → Q x) → All Q xs → All Q (cond d (x ∷ xs) xs)
of_case Q g x xs true e q h = All-cons Q x xs (q (eqb-true x.caller g e)) h
of_case Q g x xs false e q h = h

of_all : (Q : Pair → Type 0) (g : ℕ) → ((x : Pair) → x.caller ≡ g → Q x) → (hs : List Pair) → All Q (pairs_of g hs)
of_all Q g f [] = All-nil Q
of_all Q g f (x ∷ xs) = of_case Q g x (pairs_of g xs) (x.caller == g) refl (f x) (of_all Q g f xs)

none_of : (c d : ℕ) → c ≢ d → (hs : List Pair) → All (λ h. h.caller ≡ d) hs → pairs_of c hs ≡ []
none_of c d n [] h = refl
none_of c d n (x ∷ xs) h = rw (ne_eqb x.caller c (λ e. n (sym e ∙ All-head (λ (y : Pair). y.caller ≡ d) x xs h))) (none_of c d n xs (All-tail (λ (y : Pair). y.caller ≡ d) x xs h))

twice_case : (c : ℕ) (x : Pair) (xs : List Pair) (d : Bool) → (x.caller == c) ≡ d → pairs_of c xs ≡ xs → pairs_of c (cond d (x ∷ xs) xs) ≡ cond d (x ∷ xs) xs
twice_case c x xs true e h = rw e (ap (λ ys. x ∷ ys) h)
twice_case c x xs false e h = h

pairs_twice : (c : ℕ) (hs : List Pair) → pairs_of c (pairs_of c hs) ≡ pairs_of c hs
pairs_twice c [] = refl
pairs_twice c (x ∷ xs) = twice_case c x (pairs_of c xs) (x.caller == c) refl (pairs_twice c xs)

owners_snoc : (views : List View) (u : View) (b : Block) → owners (all_pairs (views ++ u ∷ [])) b ≡ owners (all_pairs views) b + owners u.pairs b
owners_snoc [] u b = let e = ap (λ ps. owners ps b) (append-nil u.pairs) in omega arith
owners_snoc (x ∷ xs) u b =
    let a = owners_append x.pairs (all_pairs (xs ++ u ∷ [])) b in
    let c = owners_append x.pairs (all_pairs xs) b in
    let r = owners_snoc xs u b in
    omega arith

spent_longer : (views : List View) (u : View) (c : ℕ) → IsSpent views c → IsSpent (views ++ u ∷ []) c
spent_longer views u c d = record { view = d.view; at = at_longer views (u ∷ []) c d.view d.at; spent = d.spent }

zeros : (n x z : ℕ) → get_or (replicate n z) x z ≡ z
zeros zero x z = refl
zeros (suc n) zero z = refl
zeros (suc n) (suc x) z = zeros n x z

-- split-seat

module _ {V : Type 0} (keeping : V → Keeping) (key : Opened) (L : DeskLaws) (id : ℕ) (v : View) (can : CanGive v) (s : table.State (Option V) View) (later : List Entry) (kept : Kept keeping key s later) (at : get_elem? s.views id ≡ m.some v) where
  abbrev p : Profile
  p = key.profile

  abbrev st : State
  st = state_after key later

  abbrev f : SeatKeeps keeping key later s.words s.homes id v
  f = kept.seats id v at can.live

  abbrev a : View
  a = giver v

  abbrev b : View
  b = given_view v

  abbrev views1 : List View
  views1 = set s.views id a

  abbrev views' : List View
  views' = views1 ++ b ∷ []

  abbrev new : ℕ
  new = length s.views

  len1 : length views1 ≡ new
  len1 = length-set s.views id a

  len : length views' ≡ new + 1
  len = let l = len1 in length-append views1 (b ∷ []) ∙ omega arith

  id0 : id ≡ 0
  id0 = sym f.caller ∙ can.first

  id_few : id < new
  id_few = at_length s.views id v at

  given : v.given ≡ new
  given = kept.hands.gives v (ap (get_elem? s.views) (sym id0) ∙ at) can.live

  undealt : (c : ℕ) → v.given ≤ c → pairs_of c v.pairs ≡ pairs_of c key.pairs
  undealt c l = kept.hands.undealt v c (ap (get_elem? s.views) (sym id0) ∙ at) can.live l

  nothing_held : (j : Spot) → is_held p [] j ≡ true → ⊥
  nothing_held (keeper_at q) h = false≢true h
  nothing_held (nano_page i) h = false≢true h

  away_new : (es : List Entry) → All (λ e. e.caller < new) es → All (λ e. changes_zones e.event ≡ false) es → AreAway p new (is_held p []) es
  away_new [] h z = All-nil (IsAway p new (is_held p []))
  away_new (e ∷ es) h z =
      let t = All-head (λ (d : Entry). d.caller < new) e es h in
      All-cons (IsAway p new (is_held p [])) e es
      record { other = λ y. absurd (omega arith); no_zone = All-head (λ (d : Entry). changes_zones d.event ≡ false) e es z; untouched = λ j y. absurd (nothing_held j y) }
      (away_new es (All-tail (λ (d : Entry). d.caller < new) e es h) (All-tail (λ (d : Entry). changes_zones d.event ≡ false) e es z))

  away : AreAway p new (is_held p []) later
  away = away_new later kept.history.below kept.history.no_zone

  first_seat : SeatKeeps keeping key later s.words s.homes id a
  first_seat = record {
    profile = f.profile;
    space = f.space;
    start = f.start;
    dealt = f.dealt;
    caller = f.caller;
    rest = f.rest;
    seen = f.seen;
    away = f.away;
    noted = f.noted;
    held = f.held;
    taking = f.taking;
    since = All-weaker (IsAloneSince p id (all_of key later) v) (IsAloneSince p id (all_of key later) a) (λ y q. record { there = q.there; within = q.within; alone = q.alone }) v.since f.since;
    timed = f.timed;
    owned = λ u x. let o = f.owned u x in let c = owners_cut v.given v.pairs x in omega arith;
    whose = besides_all (IsWhose id v) (IsWhose id a) v.given (λ h n o. ⊎_elim
        (λ (t : h.caller ≡ id). inl t)
        (λ (t : ((id ≡ 0) × (v.given ≤ h.caller)) ⊎ (took_in v h.caller ≡ true)). ⊎_elim (λ (y : (id ≡ 0) × (v.given ≤ h.caller)). let l = y.1 in inr (inl (y.0, omega (arith, n)))) (λ (y : took_in v h.caller ≡ true). inr (inr y)) t)
        o) v.pairs f.whose;
    hand = let g = given in let l = at_length s.views id v at in ap (map block_of) (of_besides id v.given v.pairs (λ e. omega arith)) ∙ f.hand;
    lights = f.lights;
    sized = f.sized;
    settled = f.settled;
    known = f.known;
  }

  new_seat : SeatKeeps keeping key later s.words s.homes new b
  new_seat = record {
    profile = f.profile;
    space = f.space;
    start = f.start;
    dealt = f.dealt;
    caller = given;
    rest = later;
    seen = ap (λ (es : List Entry). es ++ later) (sym f.start);
    away = away;
    noted = sym ((L.known_through p new (is_held p []) opening later away).none_own);
    held = λ k h. absurd (false≢true h);
    taking = λ k h. absurd (false≢true h);
    since = All-nil (IsAloneSince p new (all_of key later) b);
    timed = λ k h. absurd (false≢true h);
    owned = λ u x.
        let e = ap (λ ps. owners ps x) (undealt v.given (omega arith)) in
        let c = owners_cut v.given key.pairs x in
        let o = kept.opened.in_one_hand x in
        let z = ap (λ es. one_for (is_live (after_all p opening es) x)) f.start in
        omega arith;
    whose = of_all (IsWhose new b) v.given (λ h e. inl (e ∙ given)) v.pairs;
    hand = ap (map block_of) (ap (λ (c : ℕ). pairs_of c (pairs_of v.given v.pairs)) (sym given) ∙ (pairs_twice v.given v.pairs ∙ (undealt v.given (omega arith) ∙ ap (λ (c : ℕ). pairs_of c key.pairs) given)));
    lights = λ x j h. absurd (false≢true h);
    sized = length-replicate v.profile.nano 0 ∙ ap (λ (q : Profile). q.nano) f.profile;
    settled = λ x n. absurd (n (zeros v.profile.nano x 0));
    known = All-nil (λ (x : TakenIn). AreSettled p s.words x.settled);
  }

  split_hands : HandsKeep key st later views'
  split_hands = record {
    in_one_hand = λ x.
        let e = owners_set s.views id v a x at in
        let c = owners_cut v.given v.pairs x in
        let n = owners_snoc views1 b x in
        let o = kept.hands.in_one_hand x in
        omega arith;
    gives = λ u e l. ⊎_elim
        (λ (t : get_elem? views1 0 ≡ m.some u). ⊎_elim
        (λ (y : (0 ≡ id) × (a ≡ u)). ap (λ (z : View). z.given) (sym y.1) ∙ (ap (λ (n : ℕ). n + 1) given ∙ sym len))
        (λ (y : (0 ≢ id) × (get_elem? s.views 0 ≡ m.some u)). absurd (y.0 (sym id0)))
        (at_set s.views id 0 a u t))
        (λ (t : (0 ≡ length views1) × (b ≡ u)). let y = id_few in let z = len1 in absurd (omega arith))
        (snoc_at views1 b u 0 e);
    undealt = λ u c e l g. ⊎_elim
        (λ (t : get_elem? views1 0 ≡ m.some u). ⊎_elim
        (λ (y : (0 ≡ id) × (a ≡ u)).
        let gu : a.given ≡ u.given = ap (λ (z : View). z.given) y.1 in
        ap (λ (z : View). pairs_of c z.pairs) (sym y.1) ∙ (of_besides c v.given v.pairs (λ q. omega arith) ∙ undealt c (omega arith)))
        (λ (y : (0 ≢ id) × (get_elem? s.views 0 ≡ m.some u)). absurd (y.0 (sym id0)))
        (at_set s.views id 0 a u t))
        (λ (t : (0 ≡ length views1) × (b ≡ u)). let y = id_few in let z = len1 in absurd (omega arith))
        (snoc_at views1 b u 0 e);
    taken = λ i u e l. ⊎_elim
        (λ (t : get_elem? views1 i ≡ m.some u). All-weaker (IsTaken key s.views later) (IsTaken key views' later) (λ x q. record { rest = q.rest; seen = q.seen; whose = q.whose; hand = q.hand; noted = q.noted; spent = spent_longer views1 b x.caller (spent_stays s.views id v a x.caller at can.live q.spent) }) u.joined
        (⊎_elim
        (λ (y : (i ≡ id) × (a ≡ u)). subst (λ (z : View). All (IsTaken key s.views later) z.joined) y.1 (kept.hands.taken id v at can.live))
        (λ (y : (i ≢ id) × (get_elem? s.views i ≡ m.some u)). kept.hands.taken i u y.1 l)
        (at_set s.views id i a u t)))
        (λ (t : (i ≡ length views1) × (b ≡ u)). subst (λ (z : View). All (IsTaken key views' later) z.joined) t.1 (All-nil (IsTaken key views' later)))
        (snoc_at views1 b u i e);
    spent = λ i u e l. ⊎_elim
        (λ (t : get_elem? views1 i ≡ m.some u). ⊎_elim
        (λ (y : (i ≡ id) × (a ≡ u)). absurd (false≢true (sym l ∙ (ap (λ (z : View). z.live) (sym y.1) ∙ can.live))))
        (λ (y : (i ≢ id) × (get_elem? s.views i ≡ m.some u)). kept.hands.spent i u y.1 l)
        (at_set s.views id i a u t))
        (λ (t : (i ≡ length views1) × (b ≡ u)). absurd (false≢true (sym l ∙ (ap (λ (z : View). z.live) (sym t.1) ∙ can.live))))
        (snoc_at views1 b u i e);
  }

  split_lights : LightsKeep p st s.words views'
  split_lights = record {
    each = λ x j lx lj. ⊎_elim
        (λ (t : light_word p s.words x j ≡ one_for (is_slot_live p st x j)). inl t)
        (λ (o : LightOwner p st s.words s.views x j). inr (⊎_elim
        (λ (t : o.seat ≡ id).
        let vs : v ≡ o.view = some-injective v o.view (sym at ∙ (ap (get_elem? s.views) (sym t) ∙ o.at)) in
        let few = id_few in
        let ne : id ≢ v.given = λ y. let g = given in omega arith in
        record {
          seat = id;
          view = a;
          at = at_longer views1 (b ∷ []) id a (set_there s.views id v a at);
          live = can.live;
          is = o.is ∙ ap (λ (n : ℕ). 2 + n) t;
          has_it = ap (λ (z : View). has_light z.lights (light_at x j)) vs ∙ o.has_it;
          mine = λ l.
              let h : has_slot p (hand_among id v.pairs) x j ≡ true = ap (λ (z : View). has_slot p (hand_among id z.pairs) x j) vs ∙ subst (λ (c : ℕ). has_slot p (hand_among c o.view.pairs) x j ≡ true) t (o.mine l) in
              ap (λ ps. has_slot p (Rattle.std.specs.Prelude.map block_of ps) x j) (of_besides id v.given v.pairs ne) ∙ h;
        })
        (λ (t : o.seat ≡ id → ⊥). record { seat = o.seat; view = o.view; at = at_longer views1 (b ∷ []) o.seat o.view (set_else s.views id o.seat a t ∙ o.at); live = o.live; is = o.is; has_it = o.has_it; mine = o.mine })
        (cases_eq o.seat id)))
        (kept.lights.each x j lx lj);
  }

  pub split_kept : Kept keeping key record { words = s.words; homes = s.homes; views = views' } later
  split_kept =
      let l = len in
      let h = kept.history in
      let more = subst (λ (q : Profile). v.given < q.callers) f.profile can.more in
      let g = given in
      record {
        words = kept.words;
        homes = kept.homes;
        few = omega arith;
        opened = kept.opened;
        history = record { counts = h.counts; lawful = h.lawful; bounded = h.bounded; below = All-weaker (λ (e : Entry). e.caller < new) (λ (e : Entry). e.caller < length views') (λ e t. omega arith) later h.below; no_zone = h.no_zone; handed = h.handed };
        locks = record {
          free = kept.locks.free;
          owned = λ k x z. let o = lock_owner s.words s.words s.views id v a k refl at can.live (λ y q. q) (kept.locks.owned k x z) in record { seat = o.seat; view = o.view; at = at_longer views1 (b ∷ []) o.seat o.view o.at; live = o.live; is = o.is; has_it = o.has_it };
        };
        seats = λ i u e l. ⊎_elim
            (λ (t : get_elem? views1 i ≡ m.some u). ⊎_elim
            (λ (y : (i ≡ id) × (a ≡ u)). subst (λ (x : ℕ). SeatKeeps keeping key later s.words s.homes x u) (sym y.0) (subst (SeatKeeps keeping key later s.words s.homes id) y.1 first_seat))
            (λ (y : (i ≢ id) × (get_elem? s.views i ≡ m.some u)). kept.seats i u y.1 l)
            (at_set s.views id i a u t))
            (λ (t : (i ≡ length views1) × (b ≡ u)). subst (λ (x : ℕ). SeatKeeps keeping key later s.words s.homes x u) (sym (t.0 ∙ len1)) (subst (SeatKeeps keeping key later s.words s.homes new) t.1 new_seat))
            (snoc_at views1 b u i e);
        hands = split_hands;
        lights = split_lights;
        classes = kept.classes;
        told = λ x l n. ⊎_elim
            (λ (t : class_word p s.words x ≡ get_or key.classes x 0). inl t)
            (λ (t : IsKnown views1 x (class_word p s.words x)). inr record { seat = t.seat; view = t.view; at = at_longer views1 (b ∷ []) t.seat t.view t.at; live = t.live; knows = t.knows })
            (told_stays key s.words s.words s.views id v a (λ c d. refl) at can.live refl refl kept.told x l n);
      }

pub splits : {V : Type 0} (keeping : V → Keeping) (key : Opened) (L : DeskLaws) (id : ℕ) (v : View) → CanGive v → Splits (Rule keeping key) id v (giver v) (given_view v)
splits keeping key L id v can s (later, kept) at = (later, split_kept keeping key L id v can s later kept at)

-- join-seat

module _ {V : Type 0} (keeping : V → Keeping) (key : Opened) (L : DeskLaws) (id : ℕ) (v : View) (other : ℕ) (w : View) (can : CanTakeIn v w) (s : table.State (Option V) View) (later : List Entry) (kept : Kept keeping key s later)
    (at : get_elem? s.views id ≡ m.some v) (apart : other ≢ id) (there : get_elem? s.views other ≡ m.some w) where
  abbrev q : Profile
  q = key.profile

  abbrev sj : State
  sj = state_after key later

  abbrev both : View
  both = joined_view v w

  abbrev viewsb : List View
  viewsb = set s.views id both

  abbrev viewsj : List View
  viewsj = set viewsb other spent_view

  abbrev fv : SeatKeeps keeping key later s.words s.homes id v
  fv = kept.seats id v at can.live

  abbrev fw : SeatKeeps keeping key later s.words s.homes other w
  fw = kept.seats other w there can.other_live

  there1 : get_elem? viewsb other ≡ m.some w
  there1 = set_else s.views id other both apart ∙ there

  spent_at : get_elem? viewsj other ≡ m.some spent_view
  spent_at = set_there viewsb other w spent_view there1

  both_at : get_elem? viewsj id ≡ m.some both
  both_at = set_else viewsb other id spent_view (λ z. apart (sym z)) ∙ set_there s.views id v both at

  lenj : length viewsj ≡ length s.views
  lenj = length-set viewsb other spent_view ∙ length-set s.views id both

  idj : id ≡ 0
  idj = sym fv.caller ∙ can.first

  -- the other seat has its own pairs alone
  its_own : All (λ h. h.caller ≡ other) w.pairs
  its_own = All-weaker (IsWhose other w) (λ (h : Pair). h.caller ≡ other) (λ h o. ⊎_elim
      (λ (t : h.caller ≡ other). t)
      (λ (t : ((other ≡ 0) × (w.given ≤ h.caller)) ⊎ (took_in w h.caller ≡ true)). ⊎_elim
      (λ (y : (other ≡ 0) × (w.given ≤ h.caller)). absurd (apart (y.0 ∙ sym idj)))
      (λ (y : took_in w h.caller ≡ true). absurd (false≢true (sym (ap (λ (xs : List TakenIn). list_any (λ x. x.caller == h.caller) xs) can.none_joined) ∙ y)))
      t)
      o) w.pairs fw.whose

  keep_spent : (c : ℕ) → IsSpent s.views c → IsSpent viewsj c
  keep_spent c d = spent_stays viewsb other w spent_view c there1 can.other_live (spent_stays s.views id v both c at can.live d)

  joined_seat : SeatKeeps keeping key later s.words s.homes id both
  joined_seat = record {
    profile = fv.profile;
    space = fv.space;
    start = fv.start;
    dealt = fv.dealt;
    caller = fv.caller;
    rest = fv.rest;
    seen = fv.seen;
    away = fv.away;
    noted = fv.noted;
    held = fv.held;
    taking = fv.taking;
    since = All-weaker (IsAloneSince q id (all_of key later) v) (IsAloneSince q id (all_of key later) both) (λ y a. record { there = a.there; within = a.within; alone = a.alone }) v.since fv.since;
    timed = fv.timed;
    owned = λ u b. absurd (cc);
    whose = All-append (IsWhose id both) v.pairs w.pairs
        (All-weaker (IsWhose id v) (IsWhose id both) (λ h o. ⊎_elim
        (λ (t : h.caller ≡ id). inl t)
        (λ (t : ((id ≡ 0) × (v.given ≤ h.caller)) ⊎ (took_in v h.caller ≡ true)). ⊎_elim (λ (y : (id ≡ 0) × (v.given ≤ h.caller)). inr (inl y)) (λ (y : took_in v h.caller ≡ true). inr (inr (or_right (w.caller == h.caller) (took_in v h.caller) y))) t)
        o) v.pairs fv.whose)
        (All-weaker (λ (h : Pair). h.caller ≡ other) (IsWhose id both) (λ h e. inr (inr (or_left (w.caller == h.caller) (took_in v h.caller) (eq-eqb w.caller h.caller (fw.caller ∙ sym e))))) w.pairs its_own);
    hand = hand_append id v.pairs w.pairs ∙ (ap (λ (hs : List Pair). hand_among id v.pairs ++ map block_of hs) (none_of id other (λ e. apart (sym e)) w.pairs its_own) ∙ (append-nil (hand_among id v.pairs) ∙ fv.hand));
    lights = fv.lights;
    sized = fv.sized;
    settled = fv.settled;
    known = All-cons (λ (x : TakenIn). AreSettled q s.words x.settled) (record { caller = w.caller; seen = w.seen; noted = w.noted; pairs = w.pairs; settled = w.settled }) v.joined (λ b l n. fw.settled b n) fv.known;
  }

  joined_hands : HandsKeep key sj later viewsj
  joined_hands = record {
    in_one_hand = λ b.
        let a = owners_set s.views id v both b at in
        let c = owners_append v.pairs w.pairs b in
        let d = owners_set viewsb other w spent_view b there1 in
        let o = kept.hands.in_one_hand b in
        omega arith;
    gives = λ u e l. ⊎_elim
        (λ (t : (0 ≡ other) × (spent_view ≡ u)). absurd (apart (sym t.0 ∙ sym idj)))
        (λ (t : (0 ≢ other) × (get_elem? viewsb 0 ≡ m.some u)). ⊎_elim
        (λ (y : (0 ≡ id) × (both ≡ u)). ap (λ (z : View). z.given) (sym y.1) ∙ (kept.hands.gives v (ap (get_elem? s.views) y.0 ∙ at) can.live ∙ sym lenj))
        (λ (y : (0 ≢ id) × (get_elem? s.views 0 ≡ m.some u)). absurd (y.0 (sym idj)))
        (at_set s.views id 0 both u t.1))
        (at_set viewsb other 0 spent_view u e);
    undealt = λ u c e l g. ⊎_elim
        (λ (t : (0 ≡ other) × (spent_view ≡ u)). absurd (apart (sym t.0 ∙ sym idj)))
        (λ (t : (0 ≢ other) × (get_elem? viewsb 0 ≡ m.some u)). ⊎_elim
        (λ (y : (0 ≡ id) × (both ≡ u)).
        let at0 = ap (get_elem? s.views) y.0 ∙ at in
        let gv = kept.hands.gives v at0 can.live in
        let gu : both.given ≡ u.given = ap (λ (z : View). z.given) y.1 in
        let few = at_length s.views other w there in
        let ne : c ≢ other = λ z. omega arith in
        ap (λ (z : View). pairs_of c z.pairs) (sym y.1) ∙ (filter-append (λ (h : Pair). h.caller == c) v.pairs w.pairs ∙ (ap (λ xs. pairs_of c v.pairs ++ xs) (none_of c other ne w.pairs its_own) ∙ (append-nil (pairs_of c v.pairs) ∙ kept.hands.undealt v c at0 can.live (omega arith)))))
        (λ (y : (0 ≢ id) × (get_elem? s.views 0 ≡ m.some u)). absurd (y.0 (sym idj)))
        (at_set s.views id 0 both u t.1))
        (at_set viewsb other 0 spent_view u e);
    taken = λ i u e l. ⊎_elim
        (λ (t : (i ≡ other) × (spent_view ≡ u)). absurd (false≢true (ap (λ (z : View). z.live) t.1 ∙ l)))
        (λ (t : (i ≢ other) × (get_elem? viewsb i ≡ m.some u)). ⊎_elim
        (λ (y : (i ≡ id) × (both ≡ u)). subst (λ (z : View). All (IsTaken key viewsj later) z.joined) y.1
        (All-cons (IsTaken key viewsj later) (record { caller = w.caller; seen = w.seen; noted = w.noted; pairs = w.pairs; settled = w.settled }) v.joined
        record { rest = fw.rest; seen = fw.seen; whose = subst (λ (c : ℕ). All (λ (h : Pair). h.caller ≡ c) w.pairs) (sym fw.caller) its_own; hand = subst (λ (c : ℕ). hand_among c w.pairs ≡ hand_through (hand_among c key.pairs) w.noted) (sym fw.caller) fw.hand; noted = fw.noted ∙ ap (λ (n : ℕ). own n later) (sym fw.caller); spent = subst (IsSpent viewsj) (sym fw.caller) (record { view = spent_view; at = spent_at; spent = refl }) }
        (All-weaker (IsTaken key s.views later) (IsTaken key viewsj later) (λ x a. record { rest = a.rest; seen = a.seen; whose = a.whose; hand = a.hand; noted = a.noted; spent = keep_spent x.caller a.spent }) v.joined (kept.hands.taken id v at can.live))))
        (λ (y : (i ≢ id) × (get_elem? s.views i ≡ m.some u)). All-weaker (IsTaken key s.views later) (IsTaken key viewsj later) (λ x a. record { rest = a.rest; seen = a.seen; whose = a.whose; hand = a.hand; noted = a.noted; spent = keep_spent x.caller a.spent }) u.joined (kept.hands.taken i u y.1 l))
        (at_set s.views id i both u t.1))
        (at_set viewsb other i spent_view u e);
    spent = λ i u e l. ⊎_elim
        (λ (t : (i ≡ other) × (spent_view ≡ u)). ap (λ (z : View). z.pairs) (sym t.1))
        (λ (t : (i ≢ other) × (get_elem? viewsb i ≡ m.some u)). ⊎_elim
        (λ (y : (i ≡ id) × (both ≡ u)). absurd (false≢true (sym l ∙ (ap (λ (z : View). z.live) (sym y.1) ∙ can.live))))
        (λ (y : (i ≢ id) × (get_elem? s.views i ≡ m.some u)). kept.hands.spent i u y.1 l)
        (at_set s.views id i both u t.1))
        (at_set viewsb other i spent_view u e);
  }

  joined_locks : LocksKeep keeping key sj s.words s.homes viewsj
  joined_locks = record {
    free = kept.locks.free;
    owned = λ k x z.
        let o = kept.locks.owned k x z in
        let ne : o.seat ≢ other = λ y.
        let vu : w ≡ o.view = some-injective w o.view (sym there ∙ (ap (get_elem? s.views) (sym y) ∙ o.at)) in
        let h : has_lock w k ≡ true = ap (λ (z : View). has_lock z k) vu ∙ o.has_it in
        false≢true (sym (ap (λ (xs : List ℕ). is_among xs k || is_among w.taking k) can.no_keeper ∙ ap (λ (xs : List ℕ). is_among xs k) can.none_taking) ∙ h) in
        ⊎_elim
        (λ (y : o.seat ≡ id).
        let vu : v ≡ o.view = some-injective v o.view (sym at ∙ (ap (get_elem? s.views) (sym y) ∙ o.at)) in
        record { seat = id; view = both; at = both_at; live = can.live; is = o.is ∙ ap (λ (n : ℕ). n + 1) y; has_it = ap (λ (z : View). has_lock z k) vu ∙ o.has_it })
        (λ (y : o.seat ≡ id → ⊥). record { seat = o.seat; view = o.view; at = set_else viewsb other o.seat spent_view ne ∙ (set_else s.views id o.seat both y ∙ o.at); live = o.live; is = o.is; has_it = o.has_it })
        (cases_eq o.seat id);
  }

  joined_lights : LightsKeep q sj s.words viewsj
  joined_lights = record {
    each = λ b j lb lj. ⊎_elim
        (λ (t : light_word q s.words b j ≡ one_for (is_slot_live q sj b j)). inl t)
        (λ (o : LightOwner q sj s.words s.views b j).
        let ne : o.seat ≢ other = λ y.
        let vu : w ≡ o.view = some-injective w o.view (sym there ∙ (ap (get_elem? s.views) (sym y) ∙ o.at)) in
        false≢true (sym (ap (λ ls. has_light ls (light_at b j)) can.no_light) ∙ (ap (λ (z : View). has_light z.lights (light_at b j)) vu ∙ o.has_it)) in
        inr (⊎_elim
        (λ (y : o.seat ≡ id).
        let vu : v ≡ o.view = some-injective v o.view (sym at ∙ (ap (get_elem? s.views) (sym y) ∙ o.at)) in
        record {
          seat = id;
          view = both;
          at = both_at;
          live = can.live;
          is = o.is ∙ ap (λ (n : ℕ). 2 + n) y;
          has_it = ap (λ (z : View). has_light z.lights (light_at b j)) vu ∙ o.has_it;
          mine = λ l.
              let h : has_slot q (hand_among id v.pairs) b j ≡ true = ap (λ (z : View). has_slot q (hand_among id z.pairs) b j) vu ∙ subst (λ (c : ℕ). has_slot q (hand_among c o.view.pairs) b j ≡ true) y (o.mine l) in
              slot_append q id b j v.pairs w.pairs ∙ or_left (has_slot q (hand_among id v.pairs) b j) (has_slot q (hand_among id w.pairs) b j) h;
        })
        (λ (y : o.seat ≡ id → ⊥). record { seat = o.seat; view = o.view; at = set_else viewsb other o.seat spent_view ne ∙ (set_else s.views id o.seat both y ∙ o.at); live = o.live; is = o.is; has_it = o.has_it; mine = o.mine })
        (cases_eq o.seat id)))
        (kept.lights.each b j lb lj);
  }

  module _ (b c : ℕ) where
    abbrev in_joined : List TakenIn → Bool
    in_joined xs = list_any (λ x. get_or x.settled b 0 == c) xs

    by_other : IsKnown s.views b c → knows_class w b c ≡ true → IsKnown viewsj b c
    by_other o y =
        let z : (get_or w.settled b 0 == c) ≡ true = ⊎_elim (λ (t : (get_or w.settled b 0 == c) ≡ true). t) (λ (t : in_joined w.joined ≡ true). absurd (false≢true (sym (ap in_joined can.none_joined) ∙ t))) (or_either (get_or w.settled b 0 == c) (in_joined w.joined) y) in
        record { seat = id; view = both; at = both_at; live = can.live; knows = or_right (get_or v.settled b 0 == c) (in_joined both.joined) (or_left (get_or w.settled b 0 == c) (in_joined v.joined) z) }

    by_first : knows_class v b c ≡ true → IsKnown viewsj b c
    by_first y = record {
      seat = id;
      view = both;
      at = both_at;
      live = can.live;
      knows = ⊎_elim
          (λ (t : (get_or v.settled b 0 == c) ≡ true). or_left (get_or v.settled b 0 == c) (in_joined both.joined) t)
          (λ (t : in_joined v.joined ≡ true). or_right (get_or v.settled b 0 == c) (in_joined both.joined) (or_right (get_or w.settled b 0 == c) (in_joined v.joined) t))
          (or_either (get_or v.settled b 0 == c) (in_joined v.joined) y);
    }

    still_known : IsKnown s.views b c → IsKnown viewsj b c
    still_known o = ⊎_elim
        (λ (y : o.seat ≡ other). let wu : w ≡ o.view = some-injective w o.view (sym there ∙ (ap (get_elem? s.views) (sym y) ∙ o.at)) in by_other o (ap (λ (z : View). knows_class z b c) wu ∙ o.knows))
        (λ (ne : o.seat ≡ other → ⊥). ⊎_elim
        (λ (y : o.seat ≡ id). let vu : v ≡ o.view = some-injective v o.view (sym at ∙ (ap (get_elem? s.views) (sym y) ∙ o.at)) in by_first (ap (λ (z : View). knows_class z b c) vu ∙ o.knows))
        (λ (y : o.seat ≡ id → ⊥). record { seat = o.seat; view = o.view; at = set_else viewsb other o.seat spent_view ne ∙ (set_else s.views id o.seat both y ∙ o.at); live = o.live; knows = o.knows })
        (cases_eq o.seat id))
        (cases_eq o.seat other)

  joined_told : AreTold key s.words viewsj
  joined_told b l n = ⊎_elim (λ (t : class_word q s.words b ≡ get_or key.classes b 0). inl t) (λ (t : IsKnown s.views b (class_word q s.words b)). inr (still_known b (class_word q s.words b) t)) (kept.told b l n)

  pub join_kept : Kept keeping key record { words = s.words; homes = s.homes; views = viewsj } later
  join_kept =
      let l = lenj in
      let h = kept.history in
      record {
        words = kept.words;
        homes = kept.homes;
        few = let a = kept.few in omega arith;
        opened = kept.opened;
        history = record { counts = h.counts; lawful = h.lawful; bounded = h.bounded; below = subst (λ (n : ℕ). All (λ (e : Entry). e.caller < n) later) (sym l) h.below; no_zone = h.no_zone; handed = h.handed };
        locks = joined_locks;
        seats = λ i u e y. ⊎_elim
            (λ (t : (i ≡ other) × (spent_view ≡ u)). absurd (false≢true (ap (λ (z : View). z.live) t.1 ∙ y)))
            (λ (t : (i ≢ other) × (get_elem? viewsb i ≡ m.some u)). ⊎_elim
            (λ (z : (i ≡ id) × (both ≡ u)). subst (λ (x : ℕ). SeatKeeps keeping key later s.words s.homes x u) (sym z.0) (subst (SeatKeeps keeping key later s.words s.homes id) z.1 joined_seat))
            (λ (z : (i ≢ id) × (get_elem? s.views i ≡ m.some u)). kept.seats i u z.1 y)
            (at_set s.views id i both u t.1))
            (at_set viewsb other i spent_view u e);
        hands = joined_hands;
        lights = joined_lights;
        classes = kept.classes;
        told = joined_told;
      }

pub joins : {V : Type 0} (keeping : V → Keeping) (key : Opened) (L : DeskLaws) (id other : ℕ) (v w : View) → CanTakeIn v w → Joins (Rule keeping key) id v other w (joined_view v w) spent_view
joins keeping key L id other v w can s (later, kept) at apart there =
    (later, join_kept keeping key L id v other w can s later kept at apart (sym (set_else s.views id other (joined_view v w) apart) ∙ there))
