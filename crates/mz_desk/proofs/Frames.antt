-- What a step of one seat leaves as it was, where it adds no entry: rely and guarantee, by one word and one place at a time.
use Rattle.std.proofs.Common.{◌≡◌, ◌≢◌, ℕ, ◌+◌, ◌*◌, ◌<◌, ◌≤◌, ◌==◌, Bool, true, false, ◌⊎◌, List, [], ◌∷◌, ◌++◌, length, get_or, set, Option, Some, None, refl, sym, ap, ◌∙◌, subst, arith, inl, inr, ⊎_elim, length-set}
use Rattle.std.specs.Prelude.{◌||◌}
use Rattle.std.specs.List.{All, list_any}
use Rattle.std.proofs.lemmas.List.{get_or-set_other}
use Rattle.std.proofs.lemmas.List.Elements.{All-weaker}
use Rattle.std.proofs.lemmas.Bool.{cases_eq}
use mathlib.Core.Option as m
use mathlib.Core.Option.{some-injective}
use lib.ListN.{get_elem?}
use Rattle.atomic_table.specs.Table as table
use Rattle.atomic_table.proofs.Lists.{at_set, set_else}
use Rattle.mz_base.specs.declared.profile.Profile.{Profile}
use Rattle.mz_events.specs.declared.entry.Entry.{Entry}
use Rattle.mz_events.specs.State.{State}
use Rattle.mz_events.specs.Changes.{one_for}
use Rattle.mz_events.specs.Standing.{Keeping}
use Rattle.mz_book.specs.declared.pair.Pair.{Pair}
use Rattle.mz_book.specs.Keepers.{keeper_count, is_among}
use Rattle.mz_book.specs.Pairs.{hand_among, owners}
use Rattle.mz_book.specs.Lights.{slot_size, has_slot, is_slot_live, has_light, light_at}
use Rattle.mz_desk.specs.declared.view.TakenIn.{TakenIn}
use Rattle.mz_desk.specs.declared.view.View.{View}
use Rattle.mz_desk.specs.Words.{lock_word, class_word, light_word, lock_place, class_place, slot_place}
use Rattle.mz_desk.specs.Views.{Opened, has_lock, knows_class, all_pairs}
use Rattle.mz_desk.specs.Rule.{state_after, AreSettled, AreTold, IsKnown, Homes, AtHome, SeatKeeps, LockOwner, LightOwner, IsSpent, IsTaken, LocksKeep, HandsKeep, LightsKeep, ClassesKeep, Kept}
use Rattle.mz_desk.proofs.ListLemmas.{set_there, some_below}

-- classes that are the words stay so, where no class that a block has changes

pub settled_stay : (p : Profile) (words words' classes : List ℕ) → ((b : ℕ) → b < p.nano → class_word p words b ≢ 0 → class_word p words' b ≡ class_word p words b) → AreSettled p words classes → AreSettled p words' classes
settled_stay p words words' classes same h b l n = let e = h b l n in same b l (λ z. n (sym e ∙ z)) ∙ e

pub known_stay : (p : Profile) (words words' : List ℕ) (xs : List TakenIn) → ((b : ℕ) → b < p.nano → class_word p words b ≢ 0 → class_word p words' b ≡ class_word p words b) → All (λ x. AreSettled p words x.settled) xs → All (λ x. AreSettled p words' x.settled) xs
known_stay p words words' xs same h = All-weaker (λ (x : TakenIn). AreSettled p words x.settled) (λ (x : TakenIn). AreSettled p words' x.settled) (λ x k. settled_stay p words words' x.settled same k) xs h

-- what a seat may count on where another steps
pub record Rely {V : Type 0} (keeping : V → Keeping) (key : Opened) (st : State) (words words' : List ℕ) (homes homes' : Homes V) (i : ℕ) : Type 0 where
  pub lock : (k : ℕ) → k < keeper_count key.profile → lock_word words k ≡ i + 1 → lock_word words' k ≡ i + 1
  pub home : (k : ℕ) → k < keeper_count key.profile → lock_word words k ≡ i + 1 → AtHome keeping key st homes k → AtHome keeping key st homes' k
  pub light : (b j : ℕ) → b < key.profile.nano → j < 1024 → light_word key.profile words b j ≡ 2 + i → light_word key.profile words' b j ≡ 2 + i
  pub class : (b : ℕ) → b < key.profile.nano → class_word key.profile words b ≢ 0 → class_word key.profile words' b ≡ class_word key.profile words b

module _ {V : Type 0} (keeping : V → Keeping) (key : Opened) (later : List Entry) where
  pub seat_relies : (words words' : List ℕ) (homes homes' : Homes V) (i : ℕ) (v : View) → Rely keeping key (state_after key later) words words' homes homes' i → SeatKeeps keeping key later words homes i v → SeatKeeps keeping key later words' homes' i v
  seat_relies words words' homes homes' i v r f = record {
    profile = f.profile;
    space = f.space;
    start = f.start;
    dealt = f.dealt;
    caller = f.caller;
    rest = f.rest;
    seen = f.seen;
    away = f.away;
    noted = f.noted;
    held = λ k h. let o = f.held k h in (o.0, r.lock k o.0 o.1);
    taking = λ k h. let o = f.taking k h in (o.0, r.lock k o.0 o.1, r.home k o.0 o.1 o.2);
    since = f.since;
    timed = f.timed;
    owned = f.owned;
    whose = f.whose;
    hand = f.hand;
    lights = λ b j h. let o = f.lights b j h in (o.0, o.1, r.light b j o.0 o.1 o.2);
    sized = f.sized;
    settled = λ b n.
        let e = f.settled b n in
        let l : b < key.profile.nano = subst (λ x. b < x) f.sized (some_below v.settled b n) in
        r.class b l (λ z. n (sym e ∙ z)) ∙ e;
    known = known_stay key.profile words words' v.joined r.class f.known;
  }

  -- a keeper at home is where it was, where another place changes
  pub home_else : (homes : Homes V) (k j : ℕ) (x : m.Option (Option V)) → j ≢ k → AtHome keeping key (state_after key later) homes j → AtHome keeping key (state_after key later) (set homes k x) j
  home_else homes k j x n h = record { keeper = h.keeper; here = set_else homes k j x n ∙ h.here; stands = h.stands; calm = h.calm }

-- owners stay, where the seat that steps keeps what they have

pub lock_owner : (words words' : List ℕ) (views : List View) (id : ℕ) (v w : View) (k : ℕ) → lock_word words' k ≡ lock_word words k → get_elem? views id ≡ m.some v → w.live ≡ true → (lock_word words k ≡ id + 1 → has_lock v k ≡ true → has_lock w k ≡ true)
    → LockOwner words views k → LockOwner words' (set views id w) k
lock_owner words words' views id v w k same at live more o = ⊎_elim
    (λ (e : o.seat ≡ id). record {
      seat = id;
      view = w;
      at = set_there views id v w at;
      live = live;
      is = same ∙ (o.is ∙ ap (λ (n : ℕ). n + 1) e);
      has_it = let vs : v ≡ o.view = some-injective v o.view (sym at ∙ (ap (get_elem? views) (sym e) ∙ o.at)) in more (o.is ∙ ap (λ (n : ℕ). n + 1) e) (ap (λ (z : View). has_lock z k) vs ∙ o.has_it);
    })
    (λ (n : o.seat ≡ id → ⊥). record { seat = o.seat; view = o.view; at = set_else views id o.seat w n ∙ o.at; live = o.live; is = same ∙ o.is; has_it = o.has_it })
    (cases_eq o.seat id)

pub light_owner : (p : Profile) (st : State) (words words' : List ℕ) (views : List View) (id : ℕ) (v w : View) (b j : ℕ) → light_word p words' b j ≡ light_word p words b j → get_elem? views id ≡ m.some v → w.live ≡ true
    → (light_word p words b j ≡ 2 + id → has_light v.lights (light_at b j) ≡ true → has_light w.lights (light_at b j) ≡ true) → w.pairs ≡ v.pairs
    → LightOwner p st words views b j → LightOwner p st words' (set views id w) b j
light_owner p st words words' views id v w b j same at live more pairs o = ⊎_elim
    (λ (e : o.seat ≡ id).
    let vs : v ≡ o.view = some-injective v o.view (sym at ∙ (ap (get_elem? views) (sym e) ∙ o.at)) in record {
      seat = id;
      view = w;
      at = set_there views id v w at;
      live = live;
      is = same ∙ (o.is ∙ ap (λ (n : ℕ). 2 + n) e);
      has_it = more (o.is ∙ ap (λ (n : ℕ). 2 + n) e) (ap (λ (z : View). has_light z.lights (light_at b j)) vs ∙ o.has_it);
      mine = λ l. subst (λ (x : List Pair). has_slot p (hand_among id x) b j ≡ true) (sym (pairs ∙ ap (λ (z : View). z.pairs) vs)) (subst (λ (n : ℕ). has_slot p (hand_among n o.view.pairs) b j ≡ true) e (o.mine l));
    })
    (λ (n : o.seat ≡ id → ⊥). record { seat = o.seat; view = o.view; at = set_else views id o.seat w n ∙ o.at; live = o.live; is = same ∙ o.is; has_it = o.has_it; mine = o.mine })
    (cases_eq o.seat id)

pub known_moves : (views : List View) (id : ℕ) (v w : View) (b class : ℕ) → get_elem? views id ≡ m.some v → w.live ≡ true → (knows_class v b class ≡ true → knows_class w b class ≡ true) → IsKnown views b class → IsKnown (set views id w) b class
known_moves views id v w b class at live more o = ⊎_elim
    (λ (e : o.seat ≡ id).
    let vs : v ≡ o.view = some-injective v o.view (sym at ∙ (ap (get_elem? views) (sym e) ∙ o.at)) in
    record { seat = id; view = w; at = set_there views id v w at; live = live; knows = more (ap (λ (z : View). knows_class z b class) vs ∙ o.knows) })
    (λ (n : o.seat ≡ id → ⊥). record { seat = o.seat; view = o.view; at = set_else views id o.seat w n ∙ o.at; live = o.live; knows = o.knows })
    (cases_eq o.seat id)

pub told_stays : (key : Opened) (words words' : List ℕ) (views : List View) (id : ℕ) (v w : View) → ((b : ℕ) → b < key.profile.nano → class_word key.profile words' b ≡ class_word key.profile words b) → get_elem? views id ≡ m.some v → w.live ≡ true
    → w.settled ≡ v.settled → w.joined ≡ v.joined → AreTold key words views → AreTold key words' (set views id w)
told_stays key words words' views id v w same at live settled joined h b l n =
    let e = same b l in
    let old : ℕ = class_word key.profile words b in
    let more : knows_class v b old ≡ true → knows_class w b old ≡ true = λ y. ap (λ (xs : List ℕ). (get_or xs b 0 == old) || list_any (λ x. get_or x.settled b 0 == old) w.joined) settled ∙ (ap (λ (ts : List TakenIn). (get_or v.settled b 0 == old) || list_any (λ x. get_or x.settled b 0 == old) ts) joined ∙ y) in
    subst (λ (c : ℕ). (c ≡ get_or key.classes b 0) ⊎ IsKnown (set views id w) b c) (sym e)
    (⊎_elim (λ (t : old ≡ get_or key.classes b 0). inl t) (λ (t : IsKnown views b old). inr (known_moves views id v w b old at live more t)) (h b l (λ z. n (e ∙ z))))

-- the pairs of all seats are the same, where those of one are

pub all_pairs_same : (views : List View) (id : ℕ) (v w : View) → get_elem? views id ≡ m.some v → w.pairs ≡ v.pairs → all_pairs (set views id w) ≡ all_pairs views
all_pairs_same [] id v w at e = refl
all_pairs_same (x ∷ xs) Rattle.std.proofs.Common.zero v w at e = ap (λ (ps : List Pair). ps ++ all_pairs xs) (e ∙ ap (λ (z : View). z.pairs) (sym (some-injective x v at)))
all_pairs_same (x ∷ xs) (Rattle.std.proofs.Common.suc id) v w at e = ap (λ (ps : List Pair). x.pairs ++ ps) (all_pairs_same xs id v w at e)

pub spent_stays : (views : List View) (id : ℕ) (v w : View) (c : ℕ) → get_elem? views id ≡ m.some v → v.live ≡ true → IsSpent views c → IsSpent (set views id w) c
spent_stays views id v w c at live d =
    let ne : c ≢ id = λ y. let vu : v ≡ d.view = some-injective v d.view (sym at ∙ (ap (get_elem? views) (sym y) ∙ d.at)) in let x : v.live ≡ false = ap (λ (z : View). z.live) vu ∙ d.spent in absurd (cc) in
    record { view = d.view; at = set_else views id c w ne ∙ d.at; spent = d.spent }

pub taken_stays : (key : Opened) (views : List View) (id : ℕ) (v w : View) (later : List Entry) (x : TakenIn) → get_elem? views id ≡ m.some v → v.live ≡ true → IsTaken key views later x → IsTaken key (set views id w) later x
taken_stays key views id v w later x at live t = record { rest = t.rest; seen = t.seen; whose = t.whose; hand = t.hand; noted = t.noted; spent = spent_stays views id v w x.caller at live t.spent }

pub hands_same : (key : Opened) (st : State) (later : List Entry) (views : List View) (id : ℕ) (v w : View) → get_elem? views id ≡ m.some v → v.live ≡ true → w.live ≡ true → w.pairs ≡ v.pairs → w.given ≡ v.given → w.joined ≡ v.joined
    → HandsKeep key st later views → HandsKeep key st later (set views id w)
hands_same key st later views id v w at live live' pairs given joined h = record {
  in_one_hand = λ b. ap (λ ps. owners ps b) (all_pairs_same views id v w at pairs) ∙ h.in_one_hand b;
  gives = λ u e l. ⊎_elim
      (λ (t : (0 ≡ id) × (w ≡ u)). ap (λ (z : View). z.given) (sym t.1) ∙ (given ∙ (h.gives v (ap (get_elem? views) t.0 ∙ at) live ∙ sym (length-set views id w))))
      (λ (t : (0 ≢ id) × (get_elem? views 0 ≡ m.some u)). h.gives u t.1 l ∙ sym (length-set views id w))
      (at_set views id 0 w u e);
  undealt = λ u c e l g. ⊎_elim
      (λ (t : (0 ≡ id) × (w ≡ u)).
      let wu : u ≡ w = sym t.1 in
      let gu = ap (λ (z : View). z.given) wu ∙ given in
      ap (λ (z : View). Rattle.mz_desk.specs.Views.pairs_of c z.pairs) wu ∙ (ap (Rattle.mz_desk.specs.Views.pairs_of c) pairs ∙ h.undealt v c (ap (get_elem? views) t.0 ∙ at) live (omega arith)))
      (λ (t : (0 ≢ id) × (get_elem? views 0 ≡ m.some u)). h.undealt u c t.1 l g)
      (at_set views id 0 w u e);
  taken = λ i u e l. ⊎_elim
      (λ (t : (i ≡ id) × (w ≡ u)). All-weaker (IsTaken key views later) (IsTaken key (set views id w) later) (λ x y. taken_stays key views id v w later x at live y) u.joined
      (subst (All (IsTaken key views later)) (sym joined ∙ ap (λ (z : View). z.joined) t.1) (h.taken id v at live)))
      (λ (t : (i ≢ id) × (get_elem? views i ≡ m.some u)). All-weaker (IsTaken key views later) (IsTaken key (set views id w) later) (λ x y. taken_stays key views id v w later x at live y) u.joined (h.taken i u t.1 l))
      (at_set views id i w u e);
  spent = λ i u e l. ⊎_elim
      (λ (t : (i ≡ id) × (w ≡ u)). let x : u.live ≡ true = ap (λ (z : View). z.live) (sym t.1) ∙ live' in absurd (cc))
      (λ (t : (i ≢ id) × (get_elem? views i ≡ m.some u)). h.spent i u t.1 l)
      (at_set views id i w u e);
}

-- a step of the seat id that adds no entry and changes no hand
pub moves : {V : Type 0} (keeping : V → Keeping) (key : Opened) (s : table.State (Option V) View) (later : List Entry) (id : ℕ) (v w : View) (words' : List ℕ) (homes' : Homes V)
    → Kept keeping key s later → get_elem? s.views id ≡ m.some v → v.live ≡ true
    → (w.pairs ≡ v.pairs) × (w.given ≡ v.given) × (w.joined ≡ v.joined) × (w.live ≡ true)
    → length words' ≡ length s.words → length homes' ≡ length s.homes → get_or words' 0 0 ≡ get_or s.words 0 0
    → SeatKeeps keeping key later words' homes' id w
    → ((i : ℕ) → i ≢ id → Rely keeping key (state_after key later) s.words words' s.homes homes' i)
    → LocksKeep keeping key (state_after key later) words' homes' (set s.views id w)
    → LightsKeep key.profile (state_after key later) words' (set s.views id w)
    → ClassesKeep key (state_after key later) words'
    → AreTold key words' (set s.views id w)
    → Kept keeping key record { words = words'; homes = homes'; views = set s.views id w } later
moves keeping key s later id v w words' homes' kept at live same lw lh counter mine others locks lights classes told =
    let n : length (set s.views id w) ≡ length s.views = length-set s.views id w in
    let h = kept.history in
    record {
      words = lw ∙ kept.words;
      homes = lh ∙ kept.homes;
      few = let f = kept.few in omega arith;
      opened = kept.opened;
      history = record { counts = counter ∙ h.counts; lawful = h.lawful; bounded = h.bounded; below = subst (λ (x : ℕ). All (λ (e : Entry). e.caller < x) later) (sym n) h.below; no_zone = h.no_zone; handed = h.handed };
      locks = locks;
      seats = λ i u e l. ⊎_elim
          (λ (t : (i ≡ id) × (w ≡ u)). subst (λ (x : ℕ). SeatKeeps keeping key later words' homes' x u) (sym t.0) (subst (SeatKeeps keeping key later words' homes' id) t.1 mine))
          (λ (t : (i ≢ id) × (get_elem? s.views i ≡ m.some u)). seat_relies keeping key later s.words words' s.homes homes' i u (others i t.0) (kept.seats i u t.1 l))
          (at_set s.views id i w u e);
      hands = hands_same key (state_after key later) later s.views id v w at live same.3 same.0 same.1 same.2 kept.hands;
      lights = lights;
      classes = classes;
      told = told;
    }

-- one word changes

pub light_not_lock : (p : Profile) (k b j : ℕ) → k < keeper_count p → slot_place p b j ≢ lock_place k
light_not_lock p k b j l e = omega arith

pub class_not_lock : (p : Profile) (k b : ℕ) → k < keeper_count p → class_place p b ≢ lock_place k
class_not_lock p k b l e = omega arith

pub light_not_class : (p : Profile) (c b j : ℕ) → c < p.nano → slot_place p b j ≢ class_place p c
light_not_class p c b j l e = omega arith

pub other_word : (words : List ℕ) (i j n : ℕ) → j ≢ i → get_or (set words i n) j 0 ≡ get_or words j 0
other_word words i j n h = get_or-set_other words i j n 0 h

pub lights_same : (p : Profile) (st : State) (words words' : List ℕ) (views : List View) (id : ℕ) (v w : View) → ((b j : ℕ) → b < p.nano → j < 1024 → light_word p words' b j ≡ light_word p words b j) → get_elem? views id ≡ m.some v → w.live ≡ true → w.lights ≡ v.lights → w.pairs ≡ v.pairs
    → LightsKeep p st words views → LightsKeep p st words' (set views id w)
lights_same p st words words' views id v w same at live lights pairs l = record {
  each = λ b j lb lj. ⊎_elim
      (λ (t : light_word p words b j ≡ one_for (is_slot_live p st b j)). inl (same b j lb lj ∙ t))
      (λ (t : LightOwner p st words views b j). inr (light_owner p st words words' views id v w b j (same b j lb lj) at live (λ o h. ap (λ x. has_light x (light_at b j)) lights ∙ h) pairs t))
      (l.each b j lb lj);
}

pub classes_same : (key : Opened) (st : State) (words words' : List ℕ) → ((b : ℕ) → b < key.profile.nano → class_word key.profile words' b ≡ class_word key.profile words b) → ClassesKeep key st words → ClassesKeep key st words'
classes_same key st words words' same c = record {
  most = λ b l. let e = same b l in let m = c.most b l in omega arith;
  of_class = λ b x l h. c.of_class b x l h ∙ ap slot_size (sym (same b l));
  stays = settled_stay key.profile words words' key.classes (λ b l n. same b l) c.stays;
}

pub locks_same : {V : Type 0} (keeping : V → Keeping) (key : Opened) (st : State) (words words' : List ℕ) (homes : Homes V) (views : List View) (id : ℕ) (v w : View) → ((k : ℕ) → k < keeper_count key.profile → lock_word words' k ≡ lock_word words k) → get_elem? views id ≡ m.some v → w.live ≡ true
    → w.held ≡ v.held → w.taking ≡ v.taking → LocksKeep keeping key st words homes views → LocksKeep keeping key st words' homes (set views id w)
locks_same keeping key st words words' homes views id v w same at live held taking l = record {
  free = λ k b z. l.free k b (sym (same k b) ∙ z);
  owned = λ k b z. lock_owner words words' views id v w k (same k b) at live
      (λ o h. ap (λ x. is_among x k || is_among w.taking k) held ∙ (ap (λ x. is_among v.held k || is_among x k) taking ∙ h))
      (l.owned k b (λ y. z (same k b ∙ y)));
}

-- nobody counts on a word that stays
pub rely_same : {V : Type 0} (keeping : V → Keeping) (key : Opened) (st : State) (words : List ℕ) (homes : Homes V) (i : ℕ) → Rely keeping key st words words homes homes i
rely_same keeping key st words homes i = record { lock = λ k l h. h; home = λ k l h a. a; light = λ b j l m h. h; class = λ b l n. refl }
