-- The step on the counter that adds an event to the history: draw-ticket.
use Rattle.std.proofs.Common.{◌≡◌, ◌≢◌, ℕ, ◌+◌, ◌-◌, ◌*◌, ◌%◌, ◌^◌, ◌<◌, ◌≤◌, ◌==◌, Bool, true, false, cond, not, ◌⊎◌, List, [], ◌∷◌, ◌++◌, length, drop, get_or, set, Option, Some, None, refl, sym, ap, ◌∙◌, subst, arith, eq-eqb, inl, inr, ⊎_elim, zero, suc, length-set, length-append, append-nil, append_assoc, mul-le-mul_right}
use Rattle.std.specs.Prelude.{nat_le}
use Rattle.std.specs.List.{All, list_any, list_all}
use Rattle.std.proofs.lemmas.List.{get_or-set_same, drop-append-le}
use Rattle.std.proofs.lemmas.List.Elements.{All-nil, All-cons, All-push, All-weaker}
use Rattle.std.proofs.lemmas.Bool.{cases_eq, cases_Bool, and_from, false≢true}
use Rattle.std.proofs.lemmas.Bool.Decides.{nat_tests}
use Rattle.std.proofs.Math.Nat.{mod-eq_of_lt}
use mathlib.Core.Option as m
use mathlib.Core.Option.{some-injective}
use lib.ListN.{get_elem?}
use Rattle.atomic_table.specs.Table as table
use Rattle.atomic_table.specs.Table.{Step, step, Act, keeps, Allows, stepped}
use Rattle.atomic_table.proofs.Lists.{at_set, set_else}
use Rattle.mz_base.specs.declared.profile.Profile.{Profile}
use Rattle.mz_base.specs.Space.{Block, block_at}
use Rattle.mz_base.specs.Lists.{has_block}
use Rattle.mz_events.specs.declared.entry.Entry.{Entry}
use Rattle.mz_events.specs.declared.event.Event.{Event}
use Rattle.mz_events.specs.declared.event.Event.TheVariants.{Take, Back, Move, New, End, Size, Full, Dry, No, Open, Shut}
use Rattle.mz_events.specs.Places.{Spot, keeper_at, nano_page}
use Rattle.mz_events.specs.State.{State, Value, opening, value_at, kept_at, is_open}
use Rattle.mz_events.specs.Changes.{one_for}
use Rattle.mz_events.specs.Effect.{touches, after}
use Rattle.mz_events.specs.Rules.{Fits}
use Rattle.mz_events.specs.History.{AreLawful, after_all}
use Rattle.mz_events.specs.Hands.{own, hand_after, hand_through}
use Rattle.mz_events.specs.Holding.{changes_zones, IsAway, AreAway, IsKnownThrough}
use Rattle.mz_events.specs.Standing.{Keeping, Stands}
use Rattle.mz_book.specs.declared.pair.Pair.{Pair}
use Rattle.mz_book.specs.Keepers.{keeper_count, keeper_of, place_at, keeper_spot, is_among, is_held}
use Rattle.mz_book.specs.Pairs.{hand_among, owners, pairs_after, is_in_hand}
use Rattle.mz_book.specs.Lights.{slot_size, slots_of, page_of_block, has_slot, is_slot_live, has_light, light_at}
use Rattle.mz_book.specs.Account.{Account, is_live, entry_at, state_of, hand, class_of}
use Rattle.mz_book.specs.Calls.{CanNote, CanNoteAtNano}
use Rattle.mz_book.specs.Noting.{HandsAreKept, NoteIsKept}
use Rattle.mz_book.specs.Rule.{AreInOneHand}
use Rattle.mz_book.specs.Handed.{pairs_since}
use Rattle.mz_desk.specs.declared.view.Since.{Since}
use Rattle.mz_desk.specs.declared.view.TakenIn.{TakenIn}
use Rattle.mz_desk.specs.declared.view.View.{View}
use Rattle.mz_desk.specs.Laws.{DeskLaws}
use Rattle.mz_desk.specs.Words.{lock_word, class_word, light_word, lock_place, class_place, slot_place}
use Rattle.mz_desk.specs.Views.{Opened, site_at, view_account, has_lock, took_in, drawn, all_pairs, pairs_of}
use Rattle.mz_desk.specs.Rule.{all_of, state_after, AtHome, LeavesAlone, IsAloneSince, IsWhose, SeatKeeps, LightOwner, IsSpent, IsTaken, LocksKeep, HandsKeep, LightsKeep, ClassesKeep, HistoryKeeps, Kept, Rule}
use Rattle.mz_desk.specs.Needs.{Seated, CanDraw}
use Rattle.mz_desk.specs.Steps.{Draws}
use Rattle.mz_desk.proofs.ListLemmas.{or_either, set_there, at_length, some_below}
use Rattle.mz_desk.proofs.Frames.{settled_stay, known_stay, told_stays, other_word, lock_owner, taken_stays}
use Rattle.mz_desk.proofs.Knowing.{owners_append, owners_part, owners_set, history_few, knows_all}
use Rattle.mz_desk.proofs.PairLemmas.{NoneOf, none_by_seat, hand_tail, after_tail, others_after, callers_after}

-- the values of f from i on, as a list

abbrev values : (ℕ → ℕ) → ℕ → ℕ → List ℕ
values f i zero = []
values f i (suc n) = f i ∷ values f (i + 1) n

value_at_place : (f : ℕ → ℕ) (i n k : ℕ) → k < n → get_or (values f i n) k 0 ≡ f (i + k)
value_at_place f i zero k l = absurd (omega arith)
value_at_place f i (suc n) zero l = let e : i ≡ i + 0 = omega arith in ap f e
value_at_place f i (suc n) (suc k) l = let e : i + 1 + k ≡ i + suc k = omega arith in value_at_place f (i + 1) n k (omega arith) ∙ ap f e

values_few : (f : ℕ → ℕ) (i n b : ℕ) → ((k : ℕ) → k < n → f (i + k) ≤ b) → list_all (λ c. nat_le c b) (values f i n) ≡ true
values_few f i zero b h = refl
values_few f i (suc n) b h =
    let z : i + 0 ≡ i = omega arith in
    let h0 : f i ≤ b = subst (λ x. f x ≤ b) z (h 0 (omega arith)) in
    let t : nat_le (f i) b ≡ true = grind (arith, nat_tests) in
    and_from (nat_le (f i) b) (list_all (λ c. nat_le c b) (values f (i + 1) n)) t
    (values_few f (i + 1) n b (λ k l. let e : i + suc k ≡ i + 1 + k = omega arith in subst (λ x. f x ≤ b) e (h (suc k) (omega arith))))

one_few : (b : Bool) → one_for b ≤ 1
one_few true = omega arith
one_few false = omega arith

own_one : (c : ℕ) (e : Entry) → e.caller ≡ c → own c (e ∷ []) ≡ e ∷ []
own_one c e h = rw (eq-eqb e.caller c h) refl

own_none : (c : ℕ) (e : Entry) → e.caller ≢ c → own c (e ∷ []) ≡ []
own_none c e h = rw (Rattle.std.proofs.Common.ne_eqb e.caller c h) refl

-- an event that may be noted by what was seen may be noted by what has come since

module _ (L : DeskLaws) (s t : Account) (classes : (b : ℕ) → 1 ≤ class_of s b → class_of t b ≡ class_of s b)
    (profile : t.profile ≡ s.profile) (lights : t.lights ≡ s.lights) (hands : hand t ≡ hand s) (zones : (z : ℕ) → is_open (state_of t) z ≡ is_open (state_of s) z) where
  same_at_nano : (e : Event) → CanNoteAtNano s e → CanNoteAtNano t e
  same_at_nano (New k a n al) h =
      let c = classes h.block h.class in record {
        block = h.block;
        slot = h.slot;
        below = subst (λ (p : Profile). h.block < p.nano) (sym profile) h.below;
        light = ap (λ ls. has_light ls (light_at h.block h.slot)) lights ∙ h.light;
        class = subst (λ x. 1 ≤ x) (sym c) h.class;
        there = subst (λ x. h.slot < slots_of x) (sym c) h.there;
        size = h.size ∙ ap slot_size (sym c);
        address = h.address ∙ ap (λ (p : Profile). Rattle.mz_book.specs.Lights.slot_address p h.block h.slot n) (sym profile);
        some = h.some;
        aligned = h.aligned;
        fresh = ap (λ bs. has_block bs (block_at a n)) hands ∙ h.fresh;
        zone_open = zones 0 ∙ h.zone_open;
      }
  same_at_nano (End k a n) h = record {
    block = h.block;
    below = subst (λ (p : Profile). h.block < p.nano) (sym profile) h.below;
    page = h.page ∙ ap (λ (p : Profile). page_of_block p h.block) (sym profile);
    light = ap (λ ls. has_light ls (light_at h.block (Rattle.mz_book.specs.Lights.slot_number (block_at a n)))) lights ∙ h.light;
    zone_open = zones 0 ∙ h.zone_open;
  }
  same_at_nano (No k z a n) h = record {
    page = subst (λ (p : Profile). Rattle.mz_events.specs.Places.nano_start p ≤ Rattle.mz_base.specs.Space.page_of a) (sym profile) h.page;
    zone = subst (λ (p : Profile). z < p.zones) (sym profile) h.zone;
    zone_open = zones z ∙ h.zone_open;
    of_another = h.of_another;
    nano_open = zones 0 ∙ h.nano_open;
  }
  same_at_nano (Size k a n o) h = absurd h
  same_at_nano (Take k f w) h = absurd h
  same_at_nano (Back k f w) h = absurd h
  same_at_nano (Move f from to) h = absurd h
  same_at_nano (Full k n al) h = absurd h
  same_at_nano (Dry z w al) h = absurd h
  same_at_nano (Open z) h = absurd h
  same_at_nano (Shut z) h = absurd h

module _ {V : Type 0} (keeping : V → Keeping) (key : Opened) (L : DeskLaws) (id : ℕ) (me : Seated V) (ev : Event) (can : CanDraw me.0 ev) (s : table.State (Option V) View) (later : List Entry) (kept : Kept keeping key s later) (at : get_elem? s.views id ≡ m.some me.0) where
  abbrev v : View
  v = me.0

  abbrev p : Profile
  p = key.profile

  live : v.live ≡ true
  live = can.idle.live

  abbrev f : SeatKeeps keeping key later s.words s.homes id v
  f = kept.seats id v at can.idle.live

  abbrev H : List Entry
  H = all_of key later

  abbrev st : State
  st = state_after key later

  abbrev n : ℕ
  n = get_or s.words 0 0

  abbrev e : Entry
  e = entry_at n v.caller ev

  abbrev w : View
  w = drawn v f.rest n ev

  abbrev words' : List ℕ
  words' = set s.words 0 (n + 1)

  abbrev v0 : View
  v0 = record v { pairs = [] }

  abbrev others : List Pair
  others = all_pairs (set s.views id v0)

  id_few : id < length s.views
  id_few = at_length s.views id v at

  -- the pairs of the other seats

  none_at : (i : ℕ) (u : View) → get_elem? (set s.views id v0) i ≡ m.some u → NoneOf id u.pairs
  none_at i u g = ⊎_elim
      (λ (t : (i ≡ id) × (v0 ≡ u)). subst (λ (z : View). NoneOf id z.pairs) t.1 (All-nil (λ (h : Pair). h.caller ≢ id)))
      (λ (t : (i ≢ id) × (get_elem? s.views i ≡ m.some u)). elim (cases_Bool u.live) [
        | inl y ↦
            All-weaker (IsWhose i u) (λ (h : Pair). h.caller ≢ id) (λ h o. ⊎_elim
            (λ (a : h.caller ≡ i). λ (x : h.caller ≡ id). t.0 (sym a ∙ x))
            (λ (b : ((i ≡ 0) × (u.given ≤ h.caller)) ⊎ (took_in u h.caller ≡ true)). ⊎_elim
            (λ (a : (i ≡ 0) × (u.given ≤ h.caller)). λ (x : h.caller ≡ id).
            let g0 = kept.hands.gives u (ap (get_elem? s.views) (sym a.0) ∙ t.1) y in
            let few = id_few in
            let l = a.1 in
            absurd (omega arith))
            (λ (a : took_in u h.caller ≡ true). λ (x : h.caller ≡ id).
            taken_not u.joined h.caller a (kept.hands.taken i u t.1 y) x)
            b) o) u.pairs (kept.seats i u t.1 y).whose
        | inr z ↦ subst (NoneOf id) (sym (kept.hands.spent i u t.1 z)) (All-nil (λ (h : Pair). h.caller ≢ id))
      ])
      (at_set s.views id i v0 u g)
    where
      spent_not : (c : ℕ) → IsSpent s.views c → c ≡ id → ⊥
      spent_not c d x = let vu : v ≡ d.view = some-injective v d.view (sym at ∙ (ap (get_elem? s.views) (sym x) ∙ d.at)) in false≢true (sym d.spent ∙ (ap (λ (z : View). z.live) (sym vu) ∙ live))

      taken_not : (xs : List TakenIn) (c : ℕ) → list_any (λ x. x.caller == c) xs ≡ true → All (IsTaken key s.views later) xs → c ≡ id → ⊥
      taken_not [] c a h x = false≢true a
      taken_not (y ∷ ys) c a h x = ⊎_elim
          (λ (q : (y.caller == c) ≡ true). spent_not y.caller (Rattle.std.proofs.lemmas.List.Elements.All-head (IsTaken key s.views later) y ys h).spent (Rattle.std.proofs.lemmas.Bool.eqb-true y.caller c q ∙ x))
          (λ (q : list_any (λ (z : TakenIn). z.caller == c) ys ≡ true). taken_not ys c q (Rattle.std.proofs.lemmas.List.Elements.All-tail (IsTaken key s.views later) y ys h) x)
          (or_either (y.caller == c) (list_any (λ (z : TakenIn). z.caller == c) ys) a)

  none : NoneOf id others
  none = none_by_seat (λ (h : Pair). h.caller ≢ id) (set s.views id v0) none_at

  owners_others : (b : Block) → owners others b + owners v.pairs b ≡ owners (all_pairs s.views) b
  owners_others b = let a = owners_set s.views id v v0 b at in omega arith

  -- the account of this seat over the whole history, with the pairs of all

  abbrev classes : List ℕ
  classes = values (class_word p s.words) 0 p.nano

  class_is : (b : ℕ) → b < p.nano → get_or classes b 0 ≡ class_word p s.words b
  class_is b l = let z : 0 + b ≡ b = omega arith in value_at_place (class_word p s.words) 0 p.nano b l ∙ ap (class_word p s.words) z

  abbrev seen_account : Profile → ℕ → Account
  seen_account q c = record (view_account v [] 1 0 0 None) { profile = q; caller = c }

  abbrev A : Account
  A = record (view_account v [] 1 0 0 None) { profile = p; caller = id; seen = H; pairs = others ++ v.pairs; settled = classes }

  can_here : CanNote (seen_account p id) ev
  can_here = subst (λ c. CanNote (seen_account p c) ev) f.caller (subst (λ q. CanNote (seen_account q v.caller) ev) f.profile can.note)

  state_is : st ≡ after_all p (after_all p opening v.seen) f.rest
  state_is = ap (after_all p opening) f.seen ∙ L.after_joined p opening v.seen f.rest

  through : IsKnownThrough p id (is_held p v.held) (after_all p opening v.seen) f.rest
  through = L.known_through p id (is_held p v.held) (after_all p opening v.seen) f.rest f.away

  zones_are : (z : ℕ) → is_open st z ≡ is_open (after_all p opening v.seen) z
  zones_are z = ap (λ (t : State). is_open t z) state_is ∙ through.zones z

  hands_are : hand_among id (others ++ v.pairs) ≡ hand_among id v.pairs
  hands_are = hand_tail id others v.pairs none

  classes_are : (b : ℕ) → 1 ≤ get_or v.settled b 0 → get_or classes b 0 ≡ get_or v.settled b 0
  classes_are b l =
      let ne : get_or v.settled b 0 ≢ 0 = λ z. omega arith in
      let below : b < p.nano = subst (λ x. b < x) f.sized (some_below v.settled b ne) in
      class_is b below ∙ f.settled b ne

  can_note : CanNote A ev
  can_note = record {
    room = omega arith;
    between = can_here.between;
    in_hand = ap (λ bs. is_in_hand bs ev) hands_are ∙ can_here.in_hand;
    by_held = λ far. let h = can_here.by_held far in record { held = h.held; fits = subst (λ (t : State). Fits p t id ev) (sym state_is) (through.fits id ev h.held h.fits) };
    at_nano = λ y. same_at_nano L (seen_account p id) A classes_are refl refl hands_are zones_are ev (can_here.at_nano y);
  }

  light_mine : (b j : ℕ) → has_light v.lights (light_at b j) ≡ true → is_slot_live p st b j ≡ true → has_slot p (hand_among id v.pairs) b j ≡ true
  light_mine b j h l =
      let o = f.lights b j h in
      let is = o.2 in
      ⊎_elim
      (λ (t : light_word p s.words b j ≡ one_for (is_slot_live p st b j)). let x = one_few (is_slot_live p st b j) in absurd (omega arith))
      (λ (q : LightOwner p st s.words s.views b j).
      let x = q.is in
      let here : q.seat ≡ id = omega arith in
      let vs : v ≡ q.view = some-injective v q.view (sym at ∙ (ap (get_elem? s.views) (sym here) ∙ q.at)) in
      ap (λ (z : View). has_slot p (hand_among id z.pairs) b j) vs ∙ subst (λ (c : ℕ). has_slot p (hand_among c q.view.pairs) b j ≡ true) here (q.mine l))
      (kept.lights.each b j o.0 o.1)

  hands_kept : HandsAreKept A
  hands_kept = record {
    limits = kept.opened.limits;
    caller = let a = id_few in let b = kept.few in omega arith;
    lawful = kept.history.lawful;
    classes = values_few (class_word p s.words) 0 p.nano 16 (λ k l. let z : 0 + k ≡ k = omega arith in subst (λ x. class_word p s.words x ≤ 16) (sym z) (kept.classes.most k l));
    in_one_hand = λ b. owners_append others v.pairs b ∙ (owners_others b ∙ kept.hands.in_one_hand b);
    of_class = λ b x l h. kept.classes.of_class b x l h ∙ ap slot_size (sym (class_is b l));
    of_slots = λ b j h. let o = f.lights b j h in (o.0, o.1);
    lit_is_owned = λ b j h l. ap (λ bs. has_slot p bs b j) hands_are ∙ light_mine b j h l;
  }

  noted : NoteIsKept A ev
  noted = L.noted A ev hands_kept can_note

  -- the history after it

  abbrev later' : List Entry
  later' = later ++ e ∷ []

  long : all_of key later' ≡ H ++ e ∷ []
  long = sym (append_assoc key.history later (e ∷ []))

  long_seen : all_of key later' ≡ (v.seen ++ f.rest) ++ e ∷ []
  long_seen = long ∙ ap (λ (es : List Entry). es ++ e ∷ []) f.seen

  abbrev st' : State
  st' = state_after key later'

  then_is : st' ≡ after p st id ev
  then_is = ap (after_all p opening) long ∙ (L.after_joined p opening H (e ∷ []) ∙ (L.after_one p st e ∙ ap (λ c. after p st c ev) f.caller))

  counter : n ≡ length H
  counter = kept.history.counts

  no_zone : changes_zones ev ≡ false
  no_zone = elim (cases_Bool (changes_zones ev)) [ inl y ↦ absurd (false≢true (can_here.between y)) | inr z ↦ z ]

  lawful : AreLawful p opening (H ++ e ∷ [])
  lawful =
      let c = L.counted p opening H in
      let k = counter in
      (L.joined p opening H (e ∷ [])).1 (kept.history.lawful, (L.one p st e).1 (record { in_turn = omega arith; fits = subst (λ (x : ℕ). Fits p st x ev) (sym f.caller) noted.fits }))

  -- a place that the seat doesn't hold stays

  unheld : (k : ℕ) → lock_word s.words k ≢ id + 1 → is_among v.held k ≡ false
  unheld k d = elim (cases_Bool (is_among v.held k)) [ inl y ↦ absurd (d ((f.held k y).1)) | inr z ↦ z ]

  far : (k : ℕ) → k < keeper_count p → lock_word s.words k ≢ id + 1 → touches p ev (keeper_spot p k) ≡ false
  far k l d = noted.far k l (unheld k d)

  value_same : (k : ℕ) → k < keeper_count p → lock_word s.words k ≢ id + 1 → value_at st' (keeper_spot p k) ≡ value_at st (keeper_spot p k)
  value_same k l d = ap (λ (t : State). value_at t (keeper_spot p k)) then_is ∙ L.untouched p st id ev (keeper_spot p k) (far k l d)

  home_same : (k : ℕ) → k < keeper_count p → lock_word s.words k ≢ id + 1 → AtHome keeping key st s.homes k → AtHome keeping key st' s.homes k
  home_same k l d h = record {
    keeper = h.keeper;
    here = h.here;
    stands = subst (λ (u : Value). Stands (keeping h.keeper) (site_at key.space) p (place_at p k) u.kept) (sym (value_same k l d)) h.stands;
    calm = ap (λ (u : Value). u.duty) (value_same k l d) ∙ h.calm;
  }

  -- words other than the counter stay

  lock_same : (k : ℕ) → lock_word words' k ≡ lock_word s.words k
  lock_same k = other_word s.words 0 (lock_place k) (n + 1) (λ x. omega arith)

  light_same : (b j : ℕ) → light_word p words' b j ≡ light_word p s.words b j
  light_same b j = other_word s.words 0 (slot_place p b j) (n + 1) (λ x. omega arith)

  class_same : (b : ℕ) → class_word p words' b ≡ class_word p s.words b
  class_same b = other_word s.words 0 (class_place p b) (n + 1) (λ x. omega arith)

  -- hands after it

  pairs_are : w.pairs ≡ pairs_after id v.pairs ev
  pairs_are = ap (λ c. pairs_after c v.pairs ev) f.caller

  one_hand : AreInOneHand st' (all_pairs (set s.views id w))
  one_hand b =
      let a = owners_set s.views id v w b at in
      let o = owners_others b in
      let c = owners_append others (pairs_after id v.pairs ev) b in
      let d = ap (λ ps. owners ps b) (after_tail id others v.pairs ev none) in
      let x = ap (λ ps. owners ps b) pairs_are in
      let y = noted.in_one_hand b in
      let z = ap (λ (t : State). one_for (is_live t b)) then_is in
      omega arith

  dark : (b j : ℕ) → b < p.nano → j < 1024 → has_light v.lights (light_at b j) ≡ false → is_slot_live p st' b j ≡ is_slot_live p st b j
  dark b j lb lj h = ap (λ (t : State). is_slot_live p t b j) then_is ∙ noted.dark b j lb lj h

  lit_mine : (b j : ℕ) → has_light v.lights (light_at b j) ≡ true → is_slot_live p st' b j ≡ true → has_slot p (hand_among id w.pairs) b j ≡ true
  lit_mine b j h l =
      let x = noted.lit_is_owned b j h (sym (ap (λ (t : State). is_slot_live p t b j) then_is) ∙ l) in
      ap (λ ps. has_slot p (hand_among id ps) b j) pairs_are ∙ (sym (ap (λ bs. has_slot p bs b j) (ap (hand_among id) (after_tail id others v.pairs ev none) ∙ hand_tail id others (pairs_after id v.pairs ev) none)) ∙ x)

  -- the seats

  since_more : (i : ℕ) (u u' : View) → ((k : ℕ) → has_lock u k ≡ true → has_lock u' k ≡ true) → ((k : ℕ) → has_lock u k ≡ true → LeavesAlone p i k e) → (x : Since) → IsAloneSince p i H u x → IsAloneSince p i (all_of key later') u' x
  since_more i u u' on alone x a =
      let l = ap length long ∙ length-append H (e ∷ []) in
      let q = a.within in
      record {
        there = on x.keeper a.there;
        within = omega arith;
        alone = subst (All (LeavesAlone p i x.keeper)) (sym (ap (drop x.from) long ∙ drop-append-le x.from H (e ∷ []) a.within)) (All-push (LeavesAlone p i x.keeper) (drop x.from H) e a.alone (alone x.keeper a.there));
      }

  whose_more : (h : ℕ) → (h ≡ id) ⊎ (((id ≡ 0) × (v.given ≤ h)) ⊎ (took_in v h ≡ true)) → (h ≡ id) ⊎ (((id ≡ 0) × (w.given ≤ h)) ⊎ (took_in w h ≡ true))
  whose_more h o = o

  mine : SeatKeeps keeping key later' words' s.homes id w
  mine = record {
    profile = f.profile;
    space = f.space;
    start = f.start;
    dealt = f.dealt;
    caller = f.caller;
    rest = [];
    seen = long_seen ∙ sym (append-nil ((v.seen ++ f.rest) ++ e ∷ []));
    away = All-nil (IsAway p id (is_held p v.held));
    noted = ap (λ (es : List Entry). es ++ e ∷ []) f.noted ∙ sym (L.own_joined id later (e ∷ []) ∙ ap (λ (es : List Entry). own id later ++ es) (own_one id e f.caller));
    held = λ k h. let o = f.held k h in (o.0, lock_same k ∙ o.1);
    taking = λ k h. absurd (false≢true (sym (ap (λ xs. is_among xs k) can.idle.none) ∙ h));
    since = All-weaker (IsAloneSince p id H v) (IsAloneSince p id (all_of key later') w) (since_more id v w (λ k h. h) (λ k h d. absurd (d f.caller))) v.since f.since;
    timed = f.timed;
    owned = λ u b.
        let a = owners_part (set s.views id w) id w b (set_there s.views id v w at) in
        let o = one_hand b in
        let z = ap (λ es. one_for (is_live (after_all p opening es) b)) long_seen in
        omega arith;
    whose = subst (All (IsWhose id w)) (sym pairs_are) (callers_after (λ c. (c ≡ id) ⊎ (((id ≡ 0) × (v.given ≤ c)) ⊎ (took_in v c ≡ true))) id v.pairs ev (inl refl) f.whose);
    hand = ap (hand_among id) pairs_are ∙ (L.hand_own id v.pairs ev ∙ (ap (λ bs. hand_after bs ev) f.hand ∙ sym (L.hand_joined (hand_among id key.pairs) v.noted (e ∷ []))));
    lights = λ b j h. let o = f.lights b j h in (o.0, o.1, light_same b j ∙ o.2);
    sized = f.sized;
    settled = λ b d. class_same b ∙ f.settled b d;
    known = known_stay p s.words words' v.joined (λ b l d. class_same b) f.known;
  }

  module _ (i : ℕ) (ne : i ≢ id) (u : View) (g : SeatKeeps keeping key later s.words s.homes i u) where
    locked_by : (k : ℕ) → has_lock u k ≡ true → (k < keeper_count p) × (lock_word s.words k ≡ i + 1)
    locked_by k h = ⊎_elim (λ (t : is_among u.held k ≡ true). g.held k t) (λ (t : is_among u.taking k ≡ true). let o = g.taking k t in (o.0, o.1)) (or_either (is_among u.held k) (is_among u.taking k) h)

    not_mine : (k : ℕ) → lock_word s.words k ≡ i + 1 → lock_word s.words k ≢ id + 1
    not_mine k a b = ne (omega arith)

    other : e.caller ≢ i
    other z = ne (sym z ∙ f.caller)

    untouched : (j : Spot) → is_held p u.held j ≡ true → touches p ev j ≡ false
    untouched (keeper_at q) h = noted.elsewhere q (unheld (keeper_of p q) (not_mine (keeper_of p q) (g.held (keeper_of p q) h).1))
    untouched (nano_page x) h = absurd (false≢true h)

    theirs : SeatKeeps keeping key later' words' s.homes i u
    theirs = record {
      profile = g.profile;
      space = g.space;
      start = g.start;
      dealt = g.dealt;
      caller = g.caller;
      rest = g.rest ++ e ∷ [];
      seen = long ∙ (ap (λ (es : List Entry). es ++ e ∷ []) g.seen ∙ append_assoc u.seen g.rest (e ∷ []));
      away = All-push (IsAway p i (is_held p u.held)) g.rest e g.away record { other = other; no_zone = no_zone; untouched = untouched };
      noted = g.noted ∙ sym (L.own_joined i later (e ∷ []) ∙ (ap (λ (es : List Entry). own i later ++ es) (own_none i e other) ∙ append-nil (own i later)));
      held = λ k h. let o = g.held k h in (o.0, lock_same k ∙ o.1);
      taking = λ k h. let o = g.taking k h in (o.0, lock_same k ∙ o.1, home_same k o.0 (not_mine k o.1) o.2);
      since = All-weaker (IsAloneSince p i H u) (IsAloneSince p i (all_of key later') u) (since_more i u u (λ k h. h) (λ k h d. let o = locked_by k h in far k o.0 (not_mine k o.1))) u.since g.since;
      timed = g.timed;
      owned = g.owned;
      whose = g.whose;
      hand = g.hand;
      lights = λ b j h. let o = g.lights b j h in (o.0, o.1, light_same b j ∙ o.2);
      sized = g.sized;
      settled = λ b d. class_same b ∙ g.settled b d;
      known = known_stay p s.words words' u.joined (λ b l d. class_same b) g.known;
    }

  taken_more : (x : TakenIn) → IsTaken key s.views later x → IsTaken key (set s.views id w) later' x
  taken_more x t =
      let a = taken_stays key s.views id v w later x at live t in
      let d = t.spent in
      let ne : e.caller ≢ x.caller = λ y. let vu : v ≡ d.view = some-injective v d.view (sym at ∙ (ap (get_elem? s.views) (sym f.caller ∙ y) ∙ d.at)) in false≢true (sym d.spent ∙ (ap (λ (z : View). z.live) (sym vu) ∙ live)) in
      record { rest = t.rest ++ e ∷ []; seen = long ∙ (ap (λ (es : List Entry). es ++ e ∷ []) t.seen ∙ append_assoc x.seen t.rest (e ∷ [])); whose = t.whose; hand = t.hand; noted = t.noted ∙ sym (L.own_joined x.caller later (e ∷ []) ∙ (ap (λ (es : List Entry). own x.caller later ++ es) (own_none x.caller e ne) ∙ append-nil (own x.caller later))); spent = a.spent }

  -- what the event ends, resizes or denies is in the hand, which the seat's record makes
  in_mine : is_in_hand (hand_among e.caller (pairs_since key.pairs later)) ev ≡ true
  in_mine = subst (λ c. is_in_hand (hand_among c (pairs_since key.pairs later)) ev ≡ true) (sym f.caller)
      (ap (λ bs. is_in_hand bs ev) (L.hand_since id key.pairs later ∙ sym (f.hand ∙ ap (hand_through (hand_among id key.pairs)) f.noted)) ∙ can_here.in_hand)

  drawn_history : HistoryKeeps key (get_or words' 0 0) (length (set s.views id w)) later'
  drawn_history =
      let wide = kept.words in
      let len = length-set s.views id w in
      let few = id_few in
      let c = f.caller in
      record {
        counts = get_or-set_same s.words 0 (n + 1) 0 (omega arith) ∙ (let a = counter in let b = ap length long ∙ length-append H (e ∷ []) in omega arith);
        lawful = subst (AreLawful p opening) (sym long) lawful;
        bounded = λ x. ⊎_elim
            (λ (t : x ≡ id).
            let o : own x later' ≡ v.noted ++ e ∷ [] = L.own_joined x later (e ∷ []) ∙ (ap (λ (es : List Entry). own x later ++ es) (own_one x e (f.caller ∙ sym t)) ∙ ap (λ (es : List Entry). es ++ e ∷ []) (ap (λ y. own y later) t ∙ sym f.noted)) in
            let r = can.room in
            let l = ap length o ∙ length-append v.noted (e ∷ []) in
            omega arith)
            (λ (t : x ≡ id → ⊥).
            let o : own x later' ≡ own x later = L.own_joined x later (e ∷ []) ∙ (ap (λ (es : List Entry). own x later ++ es) (own_none x e (λ y. t (sym y ∙ f.caller))) ∙ append-nil (own x later)) in
            let b = kept.history.bounded x in
            let l = ap length o in
            omega arith)
            (cases_eq x id);
        below = subst (λ (x : ℕ). All (λ (d : Entry). d.caller < x) later') (sym len) (All-push (λ (d : Entry). d.caller < length s.views) later e kept.history.below (omega arith));
        no_zone = All-push (λ (d : Entry). changes_zones d.event ≡ false) later e kept.history.no_zone no_zone;
        handed = L.handed_more key.pairs later e kept.history.handed in_mine;
      }

  drawn_locks : LocksKeep keeping key st' words' s.homes (set s.views id w)
  drawn_locks = record {
    free = λ k l z.
        let z' : lock_word s.words k ≡ 0 = sym (lock_same k) ∙ z in
        home_same k l (λ y. omega arith) (kept.locks.free k l z');
    owned = λ k l z. lock_owner s.words words' s.views id v w k (lock_same k) at live (λ o h. h) (kept.locks.owned k l (λ y. z (lock_same k ∙ y)));
  }

  drawn_hands : HandsKeep key st' later' (set s.views id w)
  drawn_hands =
      let len = length-set s.views id w in
      let h = kept.hands in
      record {
        in_one_hand = one_hand;
        gives = λ u x l. ⊎_elim
            (λ (t : (0 ≡ id) × (w ≡ u)). ap (λ (z : View). z.given) (sym t.1) ∙ (h.gives v (ap (get_elem? s.views) t.0 ∙ at) live ∙ sym len))
            (λ (t : (0 ≢ id) × (get_elem? s.views 0 ≡ m.some u)). h.gives u t.1 l ∙ sym len)
            (at_set s.views id 0 w u x);
        undealt = λ u c x l g. ⊎_elim
            (λ (t : (0 ≡ id) × (w ≡ u)).
            let at0 = ap (get_elem? s.views) t.0 ∙ at in
            let gv = h.gives v at0 live in
            let gu : w.given ≡ u.given = ap (λ (z : View). z.given) t.1 in
            let few = id_few in
            let ne : c ≢ id = λ y. omega arith in
            ap (λ (z : View). pairs_of c z.pairs) (sym t.1) ∙ (ap (pairs_of c) pairs_are ∙ (others_after id c v.pairs ev ne ∙ h.undealt v c at0 live (omega arith))))
            (λ (t : (0 ≢ id) × (get_elem? s.views 0 ≡ m.some u)). h.undealt u c t.1 l g)
            (at_set s.views id 0 w u x);
        taken = λ i u x l. ⊎_elim
            (λ (t : (i ≡ id) × (w ≡ u)). All-weaker (IsTaken key s.views later) (IsTaken key (set s.views id w) later') taken_more u.joined (subst (All (IsTaken key s.views later)) (ap (λ (z : View). z.joined) t.1) (h.taken id v at live)))
            (λ (t : (i ≢ id) × (get_elem? s.views i ≡ m.some u)). All-weaker (IsTaken key s.views later) (IsTaken key (set s.views id w) later') taken_more u.joined (h.taken i u t.1 l))
            (at_set s.views id i w u x);
        spent = λ i u x l. ⊎_elim
            (λ (t : (i ≡ id) × (w ≡ u)). absurd (false≢true (sym l ∙ (ap (λ (z : View). z.live) (sym t.1) ∙ live))))
            (λ (t : (i ≢ id) × (get_elem? s.views i ≡ m.some u)). h.spent i u t.1 l)
            (at_set s.views id i w u x);
      }

  drawn_lights : LightsKeep p st' words' (set s.views id w)
  drawn_lights = record {
    each = λ b j lb lj. ⊎_elim
        (λ (t : light_word p s.words b j ≡ one_for (is_slot_live p st b j)).
        let out : has_light v.lights (light_at b j) ≡ false = elim (cases_Bool (has_light v.lights (light_at b j))) [
          | inl y ↦ let o = (f.lights b j y).2 in let x = one_few (is_slot_live p st b j) in absurd (omega arith)
          | inr z ↦ z
        ] in
        inl (light_same b j ∙ (t ∙ ap one_for (sym (dark b j lb lj out)))))
        (λ (o : LightOwner p st s.words s.views b j). inr (⊎_elim
        (λ (t : o.seat ≡ id).
        let vs : v ≡ o.view = some-injective v o.view (sym at ∙ (ap (get_elem? s.views) (sym t) ∙ o.at)) in
        let h : has_light v.lights (light_at b j) ≡ true = ap (λ (z : View). has_light z.lights (light_at b j)) vs ∙ o.has_it in
        record { seat = id; view = w; at = set_there s.views id v w at; live = live; is = light_same b j ∙ (o.is ∙ ap (λ (x : ℕ). 2 + x) t); has_it = h; mine = λ l. lit_mine b j h l })
        (λ (t : o.seat ≡ id → ⊥).
        let out : has_light v.lights (light_at b j) ≡ false = elim (cases_Bool (has_light v.lights (light_at b j))) [
          | inl y ↦ let q = (f.lights b j y).2 in let x = o.is in absurd (t (omega arith))
          | inr z ↦ z
        ] in
        record { seat = o.seat; view = o.view; at = set_else s.views id o.seat w t ∙ o.at; live = o.live; is = light_same b j ∙ o.is; has_it = o.has_it; mine = λ l. o.mine (sym (dark b j lb lj out) ∙ l) })
        (cases_eq o.seat id)))
        (kept.lights.each b j lb lj);
  }

  drawn_classes : ClassesKeep key st' words'
  drawn_classes = record {
    most = λ b l. let a = class_same b in let c = kept.classes.most b l in omega arith;
    of_class = λ b x l h. noted.of_class b x l (sym (ap (λ (t : State). has_block (kept_at t (nano_page (page_of_block p b))).live x) then_is) ∙ h) ∙ ap slot_size (class_is b l ∙ sym (class_same b));
    stays = settled_stay p s.words words' key.classes (λ b l d. class_same b) kept.classes.stays;
  }

  pub drawn_kept : Kept keeping key record { words = words'; homes = s.homes; views = set s.views id w } later'
  drawn_kept = record {
    words = length-set s.words 0 (n + 1) ∙ kept.words;
    homes = kept.homes;
    few = let a = kept.few in let b = length-set s.views id w in omega arith;
    opened = kept.opened;
    history = drawn_history;
    locks = drawn_locks;
    seats = λ i u x l. ⊎_elim
        (λ (t : (i ≡ id) × (w ≡ u)). subst (λ (y : ℕ). SeatKeeps keeping key later' words' s.homes y u) (sym t.0) (subst (SeatKeeps keeping key later' words' s.homes id) t.1 mine))
        (λ (t : (i ≢ id) × (get_elem? s.views i ≡ m.some u)). theirs i t.0 u (kept.seats i u t.1 l))
        (at_set s.views id i w u x);
    hands = drawn_hands;
    lights = drawn_lights;
    classes = drawn_classes;
    told = told_stays key s.words words' s.views id v w (λ b l. class_same b) at live refl refl kept.told;
  }

  no_wrap : n + 1 < 2 ^ 64
  no_wrap =
      let a = counter in
      let b = history_few keeping key s later kept in
      let c = kept.opened.limits.callers.1 in
      let few : p.callers + 1 ≤ 17 = omega arith in
      let d : (p.callers + 1) * 2 ^ 58 ≤ 17 * 2 ^ 58 = mul-le-mul_right (2 ^ 58) few in
      omega arith

  pub draws : (slots : ℕ) → (w' : View) × (a : Act (Option V)) × table.Valid s.homes me.1 a × Rule keeping key (stepped s 0 ((n + 1) % 2 ^ 64) id me.1 w' a) × Draws ev (step slots 0 1 0 m.none) me n (w', table.carried_after me.1 a)
  draws slots = (
    w,
    keeps,
    tt,
    (later', subst (λ (z : ℕ). Kept keeping key record { words = set s.words 0 z; homes = s.homes; views = set s.views id w } later') (sym (mod-eq_of_lt no_wrap)) drawn_kept),
    record {
      others = f.rest;
      away = subst (λ (q : Profile). AreAway q v.caller (is_held q v.held) f.rest) (sym f.profile) (subst (λ (c : ℕ). AreAway p c (is_held p v.held) f.rest) (sym f.caller) f.away);
      ticket = counter ∙ ap length f.seen;
      view = refl;
      carried = refl;
      knows = knows_all keeping key L record { words = words'; homes = s.homes; views = set s.views id w } later' id w w drawn_kept (set_there s.views id v w at) live refl refl refl refl refl (sym long_seen);
    },
  )

pub draws_allowed : {V : Type 0} (keeping : V → Keeping) (key : Opened) (L : DeskLaws) (slots id : ℕ) (me : Seated V) (ev : Event) → CanDraw me.0 ev → Allows (Rule keeping key) slots id me 0 (λ n. (n + 1) % 2 ^ 64) (Draws ev (step slots 0 1 0 m.none) me)
draws_allowed keeping key L slots id me ev can s (later, kept) sized at small = draws keeping key L id me ev can s later kept at slots
