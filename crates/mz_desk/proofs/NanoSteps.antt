-- The steps on the words of nano: take-light, store-light and settle-class.
use Rattle.std.proofs.Common.{◌≡◌, ◌≢◌, ℕ, ◌+◌, ◌<◌, ◌≤◌, ◌==◌, Bool, true, false, not, ◌⊎◌, List, length, get_or, set, Option, refl, sym, ap, ◌∙◌, subst, arith, eq-eqb, inl, inr, ⊎_elim, length-set}
use Rattle.std.specs.Prelude.{◌||◌}
use Rattle.std.specs.List.{list_any}
use Rattle.std.proofs.lemmas.List.{get_or-set_same, get_or-set_other}
use Rattle.std.proofs.lemmas.List.Elements.{All-weaker}
use Rattle.std.proofs.lemmas.Bool.{cases_eq, cases_Bool, and_parts, and_from, eqb-true, false≢true}
use prog.Atomic.{either}
use mathlib.Core.Option as m
use mathlib.Core.Option.{some-injective}
use lib.ListN.{get_elem?}
use Rattle.atomic_table.specs.Table as table
use Rattle.atomic_table.specs.Table.{Step, step, Act, keeps, Allows, stepped, Valid, carried_after}
use Rattle.atomic_table.proofs.Lists.{exchanged}
use Rattle.mz_base.specs.declared.profile.Profile.{Profile}
use Rattle.mz_events.specs.declared.entry.Entry.{Entry}
use Rattle.mz_events.specs.Places.{nano_page}
use Rattle.mz_events.specs.Changes.{one_for}
use Rattle.mz_events.specs.Standing.{Keeping}
use Rattle.mz_book.specs.Keepers.{keeper_count}
use Rattle.mz_book.specs.Pairs.{hand_among}
use Rattle.mz_book.specs.Lights.{slot_size, page_of_block, has_slot, is_slot_live, has_light, light_at, same_light}
use Rattle.mz_desk.specs.declared.view.View.{View}
use Rattle.mz_desk.specs.Laws.{DeskLaws}
use Rattle.mz_desk.specs.Words.{lock_word, class_word, light_word, lock_place, class_place, slot_place}
use Rattle.mz_desk.specs.Views.{Opened, knows_class, all_pairs, clashed, lit, unlit, knowing, settled_first}
use Rattle.mz_desk.specs.Rule.{all_of, state_after, IsAloneSince, LightOwner, IsKnown, Kept, Rule}
use Rattle.mz_desk.specs.Needs.{Seated, CanLight, CanUnlight, CanClass}
use Rattle.mz_desk.specs.Steps.{TriesLight, StoresLight, TriesClass}
use Rattle.mz_desk.proofs.ListLemmas.{or_either, or_left, or_right, set_there}
use Rattle.mz_desk.proofs.Frames.{settled_stay, known_stay, known_moves, told_stays, moves, light_owner, lights_same, classes_same, other_word, locks_same, light_not_lock, class_not_lock, light_not_class}
use Rattle.mz_desk.proofs.Knowing.{slot_part}
use Rattle.mz_desk.proofs.LockSteps.{clash_kept}

-- slots by their words

same_slot : (p : Profile) (b j c k : ℕ) → j < 1024 → k < 1024 → slot_place p b j ≡ slot_place p c k → (b ≡ c) × (j ≡ k)
same_slot p b j c k lj lk e = (omega arith, omega arith)

light_eq : (b j c k : ℕ) → same_light (light_at b j) (light_at c k) ≡ true → (b ≡ c) × (j ≡ k)
light_eq b j c k h = let t = and_parts (b == c) (j == k) h in (eqb-true b c t.0, eqb-true j k t.1)

eq_light : (b j : ℕ) → same_light (light_at b j) (light_at b j) ≡ true
eq_light b j = and_from (b == b) (j == j) (eq-eqb b b refl) (eq-eqb j j refl)

one_true : (b : Bool) → one_for b ≡ 1 → b ≡ true
one_true true e = refl
one_true false e = absurd (omega arith)

one_few : (b : Bool) → one_for b ≤ 1
one_few true = omega arith
one_few false = omega arith

same_bool : (a b : Bool) → (a ≡ true → b ≡ true) → (b ≡ true → a ≡ true) → a ≡ b
same_bool true true f g = refl
same_bool false false f g = refl
same_bool true false f g = sym (f refl)
same_bool false true f g = g refl

not_same : (b j c k : ℕ) → ((b ≡ c) × (j ≡ k) → ⊥) → not (same_light (light_at b j) (light_at c k)) ≡ true
not_same b j c k n = elim (cases_Bool (same_light (light_at b j) (light_at c k))) [ inl y ↦ absurd (n (light_eq b j c k y)) | inr z ↦ ap not z ]

module _ {V : Type 0} (keeping : V → Keeping) (key : Opened) (L : DeskLaws) (id : ℕ) (me : Seated V) where
  -- where a slot's pair is in the hand of a live seat, it is live
  hand_live : (s : table.State (Option V) View) (later : List Entry) → Kept keeping key s later → (c i : ℕ) (v : View) → get_elem? s.views i ≡ m.some v → (b j : ℕ) → has_slot key.profile (hand_among c v.pairs) b j ≡ true → is_slot_live key.profile (state_after key later) b j ≡ true
  hand_live s later kept c i v at b j h = L.slot_live key.profile (all_of key later) (all_pairs s.views) c b j kept.history.lawful kept.hands.in_one_hand (slot_part key.profile c b j s.views i v at h)

  -- take-light

  lit_kept : (i b j expect : ℕ) → CanLight me.0 b j expect → i ≡ slot_place key.profile b j → (s : table.State (Option V) View) (later : List Entry) → Kept keeping key s later → get_elem? s.views id ≡ m.some me.0 → get_or s.words i 0 ≡ expect
      → Kept keeping key (stepped s i (2 + me.0.caller) id me.1 (lit me.0 i b j expect) keeps) later
  lit_kept i b j expect can is s later kept at found =
      let v = me.0 in
      let p = key.profile in
      let st = state_after key later in
      let live = can.live in
      let w = lit v i b j expect in
      let f = kept.seats id v at live in
      let small = can.kind in
      let lb : b < p.nano = subst (λ (q : Profile). b < q.nano) f.profile can.block in
      let lj = can.slot in
      let words' : List ℕ = set s.words i (2 + v.caller) in
      let wide : i < length s.words = let x = kept.words in omega arith in
      let now : light_word p words' b j ≡ 2 + id = ap (λ (n : ℕ). get_or words' n 0) (sym is) ∙ (get_or-set_same s.words i (2 + v.caller) 0 wide ∙ ap (λ (n : ℕ). 2 + n) f.caller) in
      let was : light_word p s.words b j ≡ expect = ap (λ (n : ℕ). get_or s.words n 0) (sym is) ∙ found in
      let else_ : (n : ℕ) → n ≢ slot_place p b j → get_or words' n 0 ≡ get_or s.words n 0 = λ n d. other_word s.words i n (2 + v.caller) (λ e. d (e ∙ is)) in
      let lock : (k : ℕ) → k < keeper_count p → lock_word words' k ≡ lock_word s.words k = λ k l. else_ (lock_place k) (λ e. light_not_lock p k b j l (sym e)) in
      let class : (c : ℕ) → c < p.nano → class_word p words' c ≡ class_word p s.words c = λ c l. else_ (class_place p c) (λ e. light_not_class p c b j l (sym e)) in
      let told : expect ≡ one_for (is_slot_live p st b j) = ⊎_elim
      (λ (t : light_word p s.words b j ≡ one_for (is_slot_live p st b j)). sym was ∙ t)
      (λ (o : LightOwner p st s.words s.views b j). let x = o.is in absurd (omega arith))
      (kept.lights.each b j lb lj) in
      -- a word of a light is another
      let apart : (c k x : ℕ) → light_word p s.words c k ≡ 2 + x → slot_place p c k ≢ slot_place p b j = λ c k x e y. let z : light_word p s.words c k ≡ expect = ap (λ (n : ℕ). get_or s.words n 0) y ∙ was in omega arith in
      let more : (c k : ℕ) → has_light v.lights (light_at c k) ≡ true → has_light w.lights (light_at c k) ≡ true = λ c k h. L.light_taken v.lights (light_at b j) (light_at c k) ∙ or_right (same_light (light_at c k) (light_at b j)) (has_light v.lights (light_at c k)) h in
      moves keeping key s later id v w words' s.homes kept at live (refl, refl, refl, live) (length-set s.words i (2 + v.caller)) refl (else_ 0 (λ e. omega arith))
      record {
        profile = f.profile;
        space = f.space;
        start = f.start;
        dealt = f.dealt;
        caller = f.caller;
        rest = f.rest;
        seen = f.seen;
        away = f.away;
        noted = f.noted;
        held = λ k h. let o = f.held k h in (o.0, lock k o.0 ∙ o.1);
        taking = λ k h. let o = f.taking k h in (o.0, lock k o.0 ∙ o.1, o.2);
        since = All-weaker (IsAloneSince p id (all_of key later) v) (IsAloneSince p id (all_of key later) w) (λ y a. record { there = a.there; within = a.within; alone = a.alone }) v.since f.since;
        timed = f.timed;
        owned = f.owned;
        whose = f.whose;
        hand = f.hand;
        lights = λ c k h. ⊎_elim
            (λ (t : same_light (light_at c k) (light_at b j) ≡ true). let e = light_eq c k b j t in (subst (λ (x : ℕ). x < p.nano) (sym e.0) lb, subst (λ (x : ℕ). x < 1024) (sym e.1) lj, ap (λ (x : ℕ). light_word p words' x k) e.0 ∙ (ap (λ (x : ℕ). light_word p words' b x) e.1 ∙ now)))
            (λ (t : has_light v.lights (light_at c k) ≡ true). let o = f.lights c k t in (o.0, o.1, else_ (slot_place p c k) (apart c k id o.2) ∙ o.2))
            (or_either (same_light (light_at c k) (light_at b j)) (has_light v.lights (light_at c k)) (sym (L.light_taken v.lights (light_at b j) (light_at c k)) ∙ h));
        sized = f.sized;
        settled = λ c n. let e = f.settled c n in let l : c < p.nano = subst (λ x. c < x) f.sized (Rattle.mz_desk.proofs.ListLemmas.some_below v.settled c n) in class c l ∙ e;
        known = known_stay p s.words words' v.joined (λ c l n. class c l) f.known;
      }
      (λ x ne. record { lock = λ k l e. lock k l ∙ e; home = λ k l e a. a; light = λ c k lc lk e. else_ (slot_place p c k) (apart c k x e) ∙ e; class = λ c l n. class c l })
      (locks_same keeping key st s.words words' s.homes s.views id v w lock at live refl refl kept.locks)
      record {
        each = λ c k lc lk. ⊎_elim
            (λ (t : slot_place p c k ≡ slot_place p b j).
            let e = same_slot p c k b j lk lj t in
            inr record {
              seat = id;
              view = w;
              at = set_there s.views id v w at;
              live = live;
              is = ap (λ (n : ℕ). get_or words' n 0) t ∙ now;
              has_it = L.light_taken v.lights (light_at b j) (light_at c k) ∙ or_left (same_light (light_at c k) (light_at b j)) (has_light v.lights (light_at c k)) (and_from (c == b) (k == j) (eq-eqb c b e.0) (eq-eqb k j e.1));
              mine = λ l.
                  let l' : is_slot_live p st b j ≡ true = ap (λ (x : ℕ). is_slot_live p st b x) (sym e.1) ∙ (ap (λ (x : ℕ). is_slot_live p st x k) (sym e.0) ∙ l) in
                  let one : expect ≡ 1 = told ∙ ap one_for l' in
                  let h : has_slot p (hand_among id v.pairs) b j ≡ true = subst (λ (x : ℕ). has_slot p (hand_among x v.pairs) b j ≡ true) f.caller (subst (λ (q : Profile). has_slot q (hand_among v.caller v.pairs) b j ≡ true) f.profile (can.owned one)) in
                  ap (λ (x : ℕ). has_slot p (hand_among id v.pairs) x k) e.0 ∙ (ap (λ (x : ℕ). has_slot p (hand_among id v.pairs) b x) e.1 ∙ h);
            })
            (λ (t : slot_place p c k ≡ slot_place p b j → ⊥). ⊎_elim
            (λ (u : light_word p s.words c k ≡ one_for (is_slot_live p st c k)). inl (else_ (slot_place p c k) t ∙ u))
            (λ (o : LightOwner p st s.words s.views c k). inr (light_owner p st s.words words' s.views id v w c k (else_ (slot_place p c k) t) at live (λ q h. more c k h) refl o))
            (kept.lights.each c k lc lk))
            (cases_eq (slot_place p c k) (slot_place p b j));
      }
      (classes_same key st s.words words' class kept.classes)
      (told_stays key s.words words' s.views id v w class at live refl refl kept.told)

  pub lights : (slots b j expect : ℕ) → CanLight me.0 b j expect → Allows (Rule keeping key) slots id me (slot_place me.0.profile b j) (λ n. either (n == expect) (2 + me.0.caller) n) (TriesLight b j (step slots (slot_place me.0.profile b j) expect (2 + me.0.caller) m.none) me)
  lights slots b j expect can s (later, kept) sized at small =
      let v = me.0 in
      let p = key.profile in
      let st = state_after key later in
      let live = can.live in
      let f = kept.seats id v at live in
      let i = slot_place v.profile b j in
      let is : i ≡ slot_place p b j = ap (λ (q : Profile). slot_place q b j) f.profile in
      let n = get_or s.words i 0 in
      let lb : b < p.nano = subst (λ (q : Profile). b < q.nano) f.profile can.block in
      let lj = can.slot in
      let kind = can.kind in
      let word : light_word p s.words b j ≡ n = ap (λ (x : ℕ). get_or s.words x 0) (sym is) in
      let known : has_slot v.profile (hand_among v.caller v.pairs) b j ≡ true → is_slot_live p st b j ≡ true = λ h. hand_live s later kept v.caller id v at b j (subst (λ (q : Profile). has_slot q (hand_among v.caller v.pairs) b j ≡ true) f.profile h) in
      let F : ℕ → Type 0 = λ new. (w : View) × (a : Act (Option V)) × Valid s.homes me.1 a × Rule keeping key (stepped s i new id me.1 w a) × TriesLight b j (step slots i expect (2 + v.caller) m.none) me n (w, carried_after me.1 a) in
      exchanged n expect (2 + v.caller) F
      (λ (e : n ≡ expect). (
        lit v i b j expect,
        keeps,
        tt,
        (later, lit_kept i b j expect can is s later kept at e),
        record {
          carried = refl;
          got = λ z. refl;
          idle = λ z y. elim (cases_Bool (has_slot v.profile (hand_among v.caller v.pairs) b j)) [
            | inl h ↦
                let l = ap one_for (known h) in
                ⊎_elim
                (λ (t : light_word p s.words b j ≡ one_for (is_slot_live p st b j)). absurd (omega arith))
                (λ (o : LightOwner p st s.words s.views b j). let x = o.is in absurd (omega arith))
                (kept.lights.each b j lb lj)
            | inr h ↦ h
          ];
          missed = λ z. absurd (z e);
          never = λ z. absurd (z e);
        },
      ))
      (λ (e : n ≢ expect). (
        clashed v i expect n,
        keeps,
        tt,
        (later, clash_kept keeping key id me live i expect n s later kept at),
        record {
          carried = refl;
          got = λ z. absurd (e z);
          idle = λ z. absurd (e z);
          missed = λ z. refl;
          never = λ z. ⊎_elim
              (λ (t : expect ≡ 0). t)
              (λ (t : expect ≡ 0 → ⊥).
              let one : expect ≡ 1 = omega arith in
              let own = can.owned one in
              let l = known own in
              ⊎_elim
              (λ (u : light_word p s.words b j ≡ one_for (is_slot_live p st b j)). let x = ap one_for l in absurd (e (omega arith)))
              (λ (o : LightOwner p st s.words s.views b j).
              let mine = slot_part p v.caller b j s.views id v at (subst (λ (q : Profile). has_slot q (hand_among v.caller v.pairs) b j ≡ true) f.profile own) in
              let yours = slot_part p o.seat b j s.views o.seat o.view o.at (o.mine l) in
              let same : v.caller ≡ o.seat = L.slot_once p (all_of key later) (all_pairs s.views) v.caller o.seat b j kept.history.lawful kept.hands.in_one_hand mine yours in
              let here : o.seat ≡ id = sym same ∙ f.caller in
              let vs : v ≡ o.view = some-injective v o.view (sym at ∙ (ap (get_elem? s.views) (sym here) ∙ o.at)) in
              absurd (false≢true (sym can.free ∙ (ap (λ (z : View). has_light z.lights (light_at b j)) vs ∙ o.has_it))))
              (kept.lights.each b j lb lj))
              (cases_eq expect 0);
        },
      ))

  -- store-light

  unlit_kept : (i b j word : ℕ) → CanUnlight me.0 b j word → i ≡ slot_place key.profile b j → (s : table.State (Option V) View) (later : List Entry) → Kept keeping key s later → get_elem? s.views id ≡ m.some me.0
      → Kept keeping key (stepped s i word id me.1 (unlit me.0 b j) keeps) later
  unlit_kept i b j word can is s later kept at =
      let v = me.0 in
      let p = key.profile in
      let st = state_after key later in
      let live = can.live in
      let w = unlit v b j in
      let f = kept.seats id v at live in
      let mine = f.lights b j can.held in
      let lb = mine.0 in
      let lj = mine.1 in
      let was = mine.2 in
      let words' : List ℕ = set s.words i word in
      let wide : i < length s.words = let x = kept.words in omega arith in
      let now : light_word p words' b j ≡ word = ap (λ (n : ℕ). get_or words' n 0) (sym is) ∙ get_or-set_same s.words i word 0 wide in
      let else_ : (n : ℕ) → n ≢ slot_place p b j → get_or words' n 0 ≡ get_or s.words n 0 = λ n d. other_word s.words i n word (λ e. d (e ∙ is)) in
      let lock : (k : ℕ) → k < keeper_count p → lock_word words' k ≡ lock_word s.words k = λ k l. else_ (lock_place k) (λ e. light_not_lock p k b j l (sym e)) in
      let class : (c : ℕ) → c < p.nano → class_word p words' c ≡ class_word p s.words c = λ c l. else_ (class_place p c) (λ e. light_not_class p c b j l (sym e)) in
      let own : Bool = has_slot p (hand_among id v.pairs) b j in
      let owns : is_slot_live p st b j ≡ true → own ≡ true = λ l. ⊎_elim
      (λ (t : light_word p s.words b j ≡ one_for (is_slot_live p st b j)). let x = one_few (is_slot_live p st b j) in absurd (omega arith))
      (λ (o : LightOwner p st s.words s.views b j).
      let x = o.is in
      let here : o.seat ≡ id = omega arith in
      let vs : v ≡ o.view = some-injective v o.view (sym at ∙ (ap (get_elem? s.views) (sym here) ∙ o.at)) in
      ap (λ (z : View). has_slot p (hand_among id z.pairs) b j) vs ∙ subst (λ (n : ℕ). has_slot p (hand_among n o.view.pairs) b j ≡ true) here (o.mine l))
      (kept.lights.each b j lb lj) in
      let same : own ≡ is_slot_live p st b j = same_bool own (is_slot_live p st b j) (λ h. hand_live s later kept id id v at b j h) owns in
      let told : word ≡ one_for (is_slot_live p st b j) = can.tells ∙ (ap (λ (q : Profile). one_for (has_slot q (hand_among v.caller v.pairs) b j)) f.profile ∙ (ap (λ (c : ℕ). one_for (has_slot p (hand_among c v.pairs) b j)) f.caller ∙ ap one_for same)) in
      let apart : (c k x : ℕ) → x ≢ id → light_word p s.words c k ≡ 2 + x → slot_place p c k ≢ slot_place p b j = λ c k x n e y. let z : light_word p s.words c k ≡ 2 + id = ap (λ (n : ℕ). get_or s.words n 0) y ∙ was in n (omega arith) in
      moves keeping key s later id v w words' s.homes kept at live (refl, refl, refl, live) (length-set s.words i word) refl (else_ 0 (λ e. omega arith))
      record {
        profile = f.profile;
        space = f.space;
        start = f.start;
        dealt = f.dealt;
        caller = f.caller;
        rest = f.rest;
        seen = f.seen;
        away = f.away;
        noted = f.noted;
        held = λ k h. let o = f.held k h in (o.0, lock k o.0 ∙ o.1);
        taking = λ k h. let o = f.taking k h in (o.0, lock k o.0 ∙ o.1, o.2);
        since = All-weaker (IsAloneSince p id (all_of key later) v) (IsAloneSince p id (all_of key later) w) (λ y a. record { there = a.there; within = a.within; alone = a.alone }) v.since f.since;
        timed = f.timed;
        owned = f.owned;
        whose = f.whose;
        hand = f.hand;
        lights = λ c k h.
            let t = and_parts (not (same_light (light_at c k) (light_at b j))) (has_light v.lights (light_at c k)) (sym (L.light_given v.lights (light_at b j) (light_at c k)) ∙ h) in
            let o = f.lights c k t.1 in (
              o.0,
              o.1,
              else_ (slot_place p c k) (λ y. let e = same_slot p c k b j o.1 lj y in
                  false≢true (sym (ap not (and_from (c == b) (k == j) (eq-eqb c b e.0) (eq-eqb k j e.1))) ∙ t.0)) ∙ o.2,
            );
        sized = f.sized;
        settled = λ c n. let e = f.settled c n in let l : c < p.nano = subst (λ x. c < x) f.sized (Rattle.mz_desk.proofs.ListLemmas.some_below v.settled c n) in class c l ∙ e;
        known = known_stay p s.words words' v.joined (λ c l n. class c l) f.known;
      }
      (λ x ne. record { lock = λ k l e. lock k l ∙ e; home = λ k l e a. a; light = λ c k lc lk e. else_ (slot_place p c k) (apart c k x ne e) ∙ e; class = λ c l n. class c l })
      (locks_same keeping key st s.words words' s.homes s.views id v w lock at live refl refl kept.locks)
      record {
        each = λ c k lc lk. ⊎_elim
            (λ (t : slot_place p c k ≡ slot_place p b j).
            let e = same_slot p c k b j lk lj t in
            inl (ap (λ (n : ℕ). get_or words' n 0) t ∙ (now ∙ (told ∙ (ap (λ (x : ℕ). one_for (is_slot_live p st x j)) (sym e.0) ∙ ap (λ (x : ℕ). one_for (is_slot_live p st c x)) (sym e.1))))))
            (λ (t : slot_place p c k ≡ slot_place p b j → ⊥). ⊎_elim
            (λ (u : light_word p s.words c k ≡ one_for (is_slot_live p st c k)). inl (else_ (slot_place p c k) t ∙ u))
            (λ (o : LightOwner p st s.words s.views c k). inr (light_owner p st s.words words' s.views id v w c k (else_ (slot_place p c k) t) at live
            (λ q h. L.light_given v.lights (light_at b j) (light_at c k) ∙ and_from (not (same_light (light_at c k) (light_at b j))) (has_light v.lights (light_at c k)) (not_same c k b j (λ y. t (ap (λ (x : ℕ). slot_place p x k) y.0 ∙ ap (λ (x : ℕ). slot_place p b x) y.1))) h) refl o))
            (kept.lights.each c k lc lk))
            (cases_eq (slot_place p c k) (slot_place p b j));
      }
      (classes_same key st s.words words' class kept.classes)
      (told_stays key s.words words' s.views id v w class at live refl refl kept.told)

  pub stores : (slots b j word : ℕ) → CanUnlight me.0 b j word → Allows (Rule keeping key) slots id me (slot_place me.0.profile b j) (λ n. word) (λ n. StoresLight b j (step slots (slot_place me.0.profile b j) word 0 m.none) me word)
  stores slots b j word can s (later, kept) sized at small =
      let f = kept.seats id me.0 at can.live in
      let is : slot_place me.0.profile b j ≡ slot_place key.profile b j = ap (λ (q : Profile). slot_place q b j) f.profile in (
        unlit me.0 b j,
        keeps,
        tt,
        (later, unlit_kept (slot_place me.0.profile b j) b j word can is s later kept at),
        record { carried = refl; view = refl },
      )

  -- settle-class

  class_kept : (i b class n : ℕ) (wins : List Rattle.mz_desk.specs.declared.view.Win.Win) (clashes : List Rattle.mz_book.specs.declared.light.Clash.Clash) → CanClass me.0 b class → i ≡ class_place key.profile b → (s : table.State (Option V) View) (later : List Entry) → Kept keeping key s later → get_elem? s.views id ≡ m.some me.0
      → (n ≡ class) → (get_or s.words i 0 ≡ 0) ⊎ (get_or s.words i 0 ≡ class)
      → Kept keeping key (stepped s i n id me.1 (record (knowing me.0 b class) { wins = wins; clashes = clashes }) keeps) later
  class_kept i b class n wins clashes can is s later kept at n_is found =
      let v = me.0 in
      let p = key.profile in
      let st = state_after key later in
      let live = can.live in
      let w = record (knowing v b class) { wins = wins; clashes = clashes } in
      let f = kept.seats id v at live in
      let lb : b < p.nano = subst (λ (q : Profile). b < q.nano) f.profile can.block in
      let words' : List ℕ = set s.words i n in
      let wide : i < length s.words = let x = kept.words in omega arith in
      let now : class_word p words' b ≡ class = ap (λ (x : ℕ). get_or words' x 0) (sym is) ∙ (get_or-set_same s.words i n 0 wide ∙ n_is) in
      let word : class_word p s.words b ≡ get_or s.words i 0 = ap (λ (x : ℕ). get_or s.words x 0) (sym is) in
      let else_ : (x : ℕ) → x ≢ class_place p b → get_or words' x 0 ≡ get_or s.words x 0 = λ x d. other_word s.words i x n (λ e. d (e ∙ is)) in
      let lock : (k : ℕ) → k < keeper_count p → lock_word words' k ≡ lock_word s.words k = λ k l. else_ (lock_place k) (λ e. class_not_lock p k b l (sym e)) in
      let dark : (c k : ℕ) → light_word p words' c k ≡ light_word p s.words c k = λ c k. else_ (slot_place p c k) (light_not_class p b c k lb) in
      let rest : (c : ℕ) → c ≢ b → class_word p words' c ≡ class_word p s.words c = λ c d. else_ (class_place p c) (λ e. d (omega arith)) in
      -- a class that the block has stays
      let stay : (c : ℕ) → class_word p s.words c ≢ 0 → class_word p words' c ≡ class_word p s.words c = λ c d. ⊎_elim
      (λ (t : c ≡ b). ⊎_elim
      (λ (z : get_or s.words i 0 ≡ 0). absurd (d (ap (class_word p s.words) t ∙ (word ∙ z))))
      (λ (z : get_or s.words i 0 ≡ class). ap (class_word p words') t ∙ (now ∙ (sym z ∙ (sym word ∙ ap (class_word p s.words) (sym t)))))
      found)
      (λ (t : c ≡ b → ⊥). rest c t)
      (cases_eq c b) in
      moves keeping key s later id v w words' s.homes kept at live (refl, refl, refl, live) (length-set s.words i n) refl (else_ 0 (λ e. omega arith))
      record {
        profile = f.profile;
        space = f.space;
        start = f.start;
        dealt = f.dealt;
        caller = f.caller;
        rest = f.rest;
        seen = f.seen;
        away = f.away;
        noted = f.noted;
        held = λ k h. let o = f.held k h in (o.0, lock k o.0 ∙ o.1);
        taking = λ k h. let o = f.taking k h in (o.0, lock k o.0 ∙ o.1, o.2);
        since = All-weaker (IsAloneSince p id (all_of key later) v) (IsAloneSince p id (all_of key later) w) (λ y a. record { there = a.there; within = a.within; alone = a.alone }) v.since f.since;
        timed = f.timed;
        owned = f.owned;
        whose = f.whose;
        hand = f.hand;
        lights = λ c k h. let o = f.lights c k h in (o.0, o.1, dark c k ∙ o.2);
        sized = length-set v.settled b class ∙ f.sized;
        settled = λ c d. ⊎_elim
            (λ (t : c ≡ b). ap (class_word p words') t ∙ (now ∙ sym (ap (λ (x : ℕ). get_or (set v.settled b class) x 0) t ∙ get_or-set_same v.settled b class 0 (let z = f.sized in omega arith))))
            (λ (t : c ≡ b → ⊥).
            let e : get_or (set v.settled b class) c 0 ≡ get_or v.settled c 0 = get_or-set_other v.settled b c class 0 t in
            rest c t ∙ (f.settled c (λ z. d (e ∙ z)) ∙ sym e))
            (cases_eq c b);
        known = known_stay p s.words words' v.joined (λ c l d. stay c d) f.known;
      }
      (λ x ne. record { lock = λ k l e. lock k l ∙ e; home = λ k l e a. a; light = λ c k lc lk e. dark c k ∙ e; class = λ c l d. stay c d })
      (locks_same keeping key st s.words words' s.homes s.views id v w lock at live refl refl kept.locks)
      (lights_same p st s.words words' s.views id v w (λ c k lc lk. dark c k) at live refl refl kept.lights)
      record {
        most = λ c l. ⊎_elim
            (λ (t : c ≡ b). let e : class_word p words' c ≡ class = ap (class_word p words') t ∙ now in let q = can.most in omega arith)
            (λ (t : c ≡ b → ⊥). let e = rest c t in let q = kept.classes.most c l in omega arith)
            (cases_eq c b);
        of_class = λ c x l h. ⊎_elim
            (λ (z : class_word p s.words c ≡ 0).
            let e = kept.classes.of_class c x l h ∙ ap slot_size z in
            let q = L.sizes p (all_of key later) (nano_page (page_of_block p c)) x kept.history.lawful h in
            absurd (omega arith))
            (λ (z : class_word p s.words c ≡ 0 → ⊥). kept.classes.of_class c x l h ∙ ap slot_size (sym (stay c z)))
            (cases_eq (class_word p s.words c) 0);
        stays = settled_stay p s.words words' key.classes (λ c l d. stay c d) kept.classes.stays;
      }
      (λ c l d. ⊎_elim
      (λ (t : c ≡ b).
      let c_is : class_word p words' c ≡ class = ap (class_word p words') t ∙ now in
      let here : get_or w.settled c 0 ≡ class_word p words' c = ap (λ (x : ℕ). get_or (set v.settled b class) x 0) t ∙ (get_or-set_same v.settled b class 0 (let z = f.sized in omega arith) ∙ sym c_is) in
      inr record {
        seat = id;
        view = w;
        at = set_there s.views id v w at;
        live = live;
        knows = or_left (get_or w.settled c 0 == class_word p words' c) (list_any (λ x. get_or x.settled c 0 == class_word p words' c) w.joined) (eq-eqb (get_or w.settled c 0) (class_word p words' c) here);
      })
      (λ (t : c ≡ b → ⊥).
      let e : class_word p words' c ≡ class_word p s.words c = rest c t in
      let old : ℕ = class_word p s.words c in
      let stays_so : get_or w.settled c 0 ≡ get_or v.settled c 0 = get_or-set_other v.settled b c class 0 t in
      let more : knows_class v c old ≡ true → knows_class w c old ≡ true = λ y. ap (λ (x : ℕ). (x == old) || list_any (λ q. get_or q.settled c 0 == old) v.joined) stays_so ∙ y in
      subst (λ (x : ℕ). (x ≡ get_or key.classes c 0) ⊎ IsKnown (set s.views id w) c x) (sym e)
      (⊎_elim (λ (z : old ≡ get_or key.classes c 0). inl z) (λ (z : IsKnown s.views c old). inr (known_moves s.views id v w c old at live more z)) (kept.told c l (λ z. d (e ∙ z)))))
      (cases_eq c b))

  pub classes : (slots b class : ℕ) → CanClass me.0 b class → Allows (Rule keeping key) slots id me (class_place me.0.profile b) (λ n. either (n == 0) class n) (TriesClass b (step slots (class_place me.0.profile b) 0 class m.none) me)
  classes slots b class can s (later, kept) sized at small =
      let v = me.0 in
      let p = key.profile in
      let live = can.live in
      let f = kept.seats id v at live in
      let i = class_place v.profile b in
      let is : i ≡ class_place p b = ap (λ (q : Profile). class_place q b) f.profile in
      let n = get_or s.words i 0 in
      let lb : b < p.nano = subst (λ (q : Profile). b < q.nano) f.profile can.block in
      let word : class_word p s.words b ≡ n = ap (λ (x : ℕ). get_or s.words x 0) (sym is) in
      let few : n ≤ 16 = let q = kept.classes.most b lb in omega arith in
      let known : (get_or v.settled b 0 ≡ 0) ⊎ (get_or v.settled b 0 ≡ n) = ⊎_elim (λ (t : get_or v.settled b 0 ≡ 0). inl t) (λ (t : get_or v.settled b 0 ≡ 0 → ⊥). inr (sym (f.settled b t) ∙ word)) (cases_eq (get_or v.settled b 0) 0) in
      let F : ℕ → Type 0 = λ new. (w : View) × (a : Act (Option V)) × Valid s.homes me.1 a × Rule keeping key (stepped s i new id me.1 w a) × TriesClass b (step slots i 0 class m.none) me n (w, carried_after me.1 a) in
      exchanged n 0 class F
      (λ (e : n ≡ 0). (
        settled_first v i b class,
        keeps,
        tt,
        (later, class_kept i b class class (settled_first v i b class).wins v.clashes can is s later kept at refl (inl e)),
        record { carried = refl; first = λ z. refl; again = λ z. absurd (z e); other = λ z. absurd (z e); most = few; known = known },
      ))
      (λ (e : n ≢ 0). ⊎_elim
      (λ (t : n ≡ class). (
        clashed (knowing v b class) i 0 n,
        keeps,
        tt,
        (later, class_kept i b class n v.wins (clashed v i 0 n).clashes can is s later kept at t (inr t)),
        record { carried = refl; first = λ z. absurd (e z); again = λ z y. refl; other = λ z y. absurd (y t); most = few; known = known },
      ))
      (λ (t : n ≡ class → ⊥). (
        clashed v i 0 n,
        keeps,
        tt,
        (later, clash_kept keeping key id me live i 0 n s later kept at),
        record { carried = refl; first = λ z. absurd (e z); again = λ z y. absurd (t y); other = λ z y. refl; most = few; known = known },
      ))
      (cases_eq n class))
