-- The steps on lock words: take-lock, look and free-lock.
use Rattle.std.proofs.Common.{◌≡◌, ◌≢◌, ℕ, ◌+◌, ◌-◌, ◌<◌, ◌≤◌, ◌==◌, true, false, List, [], ◌∷◌, ◌++◌, length, get_or, set, Option, Some, None, refl, sym, ap, ◌∙◌, subst, arith, eq-eqb, ⊎_elim, length-set, append-nil}
use Rattle.std.specs.List.{All, list_any}
use Rattle.std.proofs.lemmas.List.{set-get_or, get_or-set_same}
use Rattle.std.proofs.lemmas.List.Elements.{All-nil, All-cons, All-weaker}
use Rattle.std.proofs.lemmas.Bool.{cases_eq, false≢true}
use lib.Seq.{drop-length}
use prog.Atomic.{either}
use mathlib.Core.Option as m
use mathlib.Core.Option.{some-injective}
use lib.ListN.{get_elem?}
use Rattle.atomic_table.specs.Table as table
use Rattle.atomic_table.specs.Table.{Step, step, Act, keeps, takes, gives, Allows, stepped, Valid, carried_after, put_back}
use Rattle.atomic_table.proofs.Lists.{set_here, exchanged}
use Rattle.mz_base.specs.declared.profile.Profile.{Profile}
use Rattle.mz_events.specs.declared.entry.Entry.{Entry}
use Rattle.mz_events.specs.State.{State, Value, opening, value_at}
use Rattle.mz_events.specs.Changes.{one_for}
use Rattle.mz_events.specs.History.{after_all}
use Rattle.mz_events.specs.Holding.{IsAway, AreAway}
use Rattle.mz_events.specs.Standing.{Keeping, Stands}
use Rattle.mz_book.specs.Keepers.{keeper_count, place_at, keeper_spot, is_among, is_held}
use Rattle.mz_book.specs.Account.{is_live}
use Rattle.mz_book.specs.Calls.{without}
use Rattle.mz_desk.specs.declared.view.SpaceName.{SpaceName}
use Rattle.mz_desk.specs.declared.view.View.{View}
use Rattle.mz_desk.specs.Laws.{DeskLaws}
use Rattle.mz_desk.specs.Words.{lock_word, class_word, light_word, class_place, slot_place}
use Rattle.mz_desk.specs.Views.{Opened, site_at, has_lock, clashed, locked, looked, freed}
use Rattle.mz_desk.specs.Rule.{all_of, state_after, Homes, LeavesAlone, IsAloneSince, SeatKeeps, AtHome, Kept, Rule}
use Rattle.mz_desk.specs.Needs.{Seated, CanLock, CanLook, CanFree}
use Rattle.mz_desk.specs.Steps.{TriesLock, Looks, Frees}
use Rattle.mz_desk.proofs.ListLemmas.{or_either, or_left, or_right, among_append, among_one, one_among, without_less, without_more, set_there, at_length}
use Rattle.mz_desk.proofs.Frames.{known_stay, told_stays, moves, lock_owner, lights_same, classes_same, other_word, locks_same, rely_same, home_else, light_not_lock, class_not_lock}
use Rattle.mz_desk.proofs.Knowing.{owners_part, knows_all, away_less, held_less, since_less, timed_less}

-- a seat that only notes a clash
module _ {V : Type 0} (keeping : V → Keeping) (key : Opened) (id : ℕ) (me : Seated V) where
  pub clash_kept : me.0.live ≡ true → (i x n : ℕ) (s : table.State (Option V) View) (later : List Entry) → Kept keeping key s later → get_elem? s.views id ≡ m.some me.0
      → Kept keeping key (stepped s i (get_or s.words i 0) id me.1 (clashed me.0 i x n) keeps) later
  clash_kept live i x n s later kept at =
      let f = kept.seats id me.0 at live in
      let v = me.0 in
      let w = clashed me.0 i x n in
      subst (λ (ws : List ℕ). Kept keeping key record { words = ws; homes = s.homes; views = set s.views id w } later) (sym (set-get_or s.words i 0))
      (moves keeping key s later id v w s.words s.homes kept at live (refl, refl, refl, live) refl refl refl
      record { profile = f.profile; space = f.space; start = f.start; dealt = f.dealt; caller = f.caller; rest = f.rest; seen = f.seen; away = f.away; noted = f.noted; held = f.held; taking = f.taking; since = All-weaker (IsAloneSince key.profile id (all_of key later) v) (IsAloneSince key.profile id (all_of key later) w) (λ y a. record { there = a.there; within = a.within; alone = a.alone }) v.since f.since; timed = f.timed; owned = f.owned; whose = f.whose; hand = f.hand; lights = f.lights; sized = f.sized; settled = f.settled; known = f.known }
      (λ j ne. rely_same keeping key (state_after key later) s.words s.homes j)
      (locks_same keeping key (state_after key later) s.words s.words s.homes s.views id v w (λ k l. refl) at live refl refl kept.locks)
      (lights_same key.profile (state_after key later) s.words s.words s.views id v w (λ b j l k. refl) at live refl refl kept.lights)
      kept.classes
      (told_stays key s.words s.words s.views id v w (λ b l. refl) at live refl refl kept.told))

  locks_hit : (k : ℕ) → CanLock me.0 k → (s : table.State (Option V) View) (later : List Entry) → Kept keeping key s later → get_elem? s.views id ≡ m.some me.0 → lock_word s.words k ≡ 0
      → Kept keeping key (stepped s (k + 1) (me.0.caller + 1) id me.1 (locked me.0 k (length (all_of key later))) keeps) later
  locks_hit k can s later kept at zero' =
      let v = me.0 in
      let p = key.profile in
      let live = can.idle.live in
      let none = can.idle.none in
      let h = length (all_of key later) in
      let w = locked v k h in
      let f = kept.seats id v at live in
      let lt : k < keeper_count p = subst (λ q. k < keeper_count q) f.profile can.exists in
      let wide : k + 1 < length s.words = let x = kept.words in omega arith in
      let words' : List ℕ = set s.words (k + 1) (v.caller + 1) in
      let mine : lock_word words' k ≡ id + 1 = get_or-set_same s.words (k + 1) (v.caller + 1) 0 wide ∙ ap (λ (n : ℕ). n + 1) f.caller in
      let apart : (i j : ℕ) → lock_word s.words j ≡ i + 1 → j ≢ k = λ i j e y. let z : lock_word s.words j ≡ 0 = ap (lock_word s.words) y ∙ zero' in absurd (omega arith) in
      let else_ : (j : ℕ) → j ≢ k → lock_word words' j ≡ lock_word s.words j = λ j n. other_word s.words (k + 1) (j + 1) (v.caller + 1) (λ e. n (omega arith)) in
      let dark : (b j : ℕ) → light_word p words' b j ≡ light_word p s.words b j = λ b j. other_word s.words (k + 1) (slot_place p b j) (v.caller + 1) (light_not_lock p k b j lt) in
      let class : (b : ℕ) → class_word p words' b ≡ class_word p s.words b = λ b. other_word s.words (k + 1) (class_place p b) (v.caller + 1) (class_not_lock p k b lt) in
      let more : (j : ℕ) → has_lock v j ≡ true → has_lock w j ≡ true = λ j y. ⊎_elim (λ (t : is_among v.held j ≡ true). or_left (is_among v.held j) (is_among (k ∷ []) j) t)
      (λ (t : is_among v.taking j ≡ true). absurd (false≢true (sym (ap (λ xs. is_among xs j) none) ∙ t))) (or_either (is_among v.held j) (is_among v.taking j) y) in
      moves keeping key s later id v w words' s.homes kept at live (refl, refl, refl, live) (length-set s.words (k + 1) (v.caller + 1)) refl (other_word s.words (k + 1) 0 (v.caller + 1) (λ e. absurd (omega arith)))
      record {
        profile = f.profile;
        space = f.space;
        start = f.start;
        dealt = f.dealt;
        caller = f.caller;
        rest = f.rest;
        seen = f.seen;
        away = f.away;
        noted = f.noted;
        held = λ j y. let o = f.held j y in (o.0, else_ j (apart id j o.1) ∙ o.1);
        taking = λ j y. let e = among_one k j y in subst (λ (z : ℕ). (z < keeper_count p) × (lock_word words' z ≡ id + 1) × AtHome keeping key (state_after key later) s.homes z) (sym e) (lt, mine, kept.locks.free k lt zero');
        since = All-cons (IsAloneSince p id (all_of key later) w) (record { keeper = k; from = h }) v.since
            record { there = or_right (is_among v.held k) (is_among (k ∷ []) k) (one_among k); within = omega arith; alone = subst (All (LeavesAlone p id k)) (sym (drop-length (all_of key later))) (All-nil (LeavesAlone p id k)) }
            (All-weaker (IsAloneSince p id (all_of key later) v) (IsAloneSince p id (all_of key later) w) (λ y a. record { there = more y.keeper a.there; within = a.within; alone = a.alone }) v.since f.since);
        timed = λ j y. ⊎_elim
            (λ (t : is_among v.held j ≡ true). or_right (k == j) (list_any (λ x. x.keeper == j) v.since) (f.timed j (or_left (is_among v.held j) (is_among v.taking j) t)))
            (λ (t : is_among (k ∷ []) j ≡ true). or_left (k == j) (list_any (λ x. x.keeper == j) v.since) (eq-eqb k j (sym (among_one k j t))))
            (or_either (is_among v.held j) (is_among (k ∷ []) j) y);
        owned = f.owned;
        whose = f.whose;
        hand = f.hand;
        lights = λ b j y. let o = f.lights b j y in (o.0, o.1, dark b j ∙ o.2);
        sized = f.sized;
        settled = λ b n. class b ∙ f.settled b n;
        known = known_stay p s.words words' v.joined (λ b l n. class b) f.known;
      }
      (λ i ne. record { lock = λ j l e. else_ j (apart i j e) ∙ e; home = λ j l e a. a; light = λ b j lb lj e. dark b j ∙ e; class = λ b l n. class b })
      record {
        free = λ j l z. ⊎_elim
            (λ (t : j ≡ k). let y : id + 1 ≡ 0 = sym mine ∙ (ap (lock_word words') (sym t) ∙ z) in absurd (omega arith))
            (λ (t : j ≡ k → ⊥). kept.locks.free j l (sym (else_ j t) ∙ z))
            (cases_eq j k);
        owned = λ j l z. ⊎_elim
            (λ (t : j ≡ k). record { seat = id; view = w; at = set_there s.views id v w at; live = live; is = ap (lock_word words') t ∙ mine; has_it = or_right (is_among v.held j) (is_among (k ∷ []) j) (ap (is_among (k ∷ [])) t ∙ one_among k) })
            (λ (t : j ≡ k → ⊥). lock_owner s.words words' s.views id v w j (else_ j t) at live (λ o y. more j y) (kept.locks.owned j l (λ y. z (else_ j t ∙ y))))
            (cases_eq j k);
      }
      (lights_same p (state_after key later) s.words words' s.views id v w (λ b j lb lj. dark b j) at live refl refl kept.lights)
      (classes_same key (state_after key later) s.words words' (λ b l. class b) kept.classes)
      (told_stays key s.words words' s.views id v w (λ b l. class b) at live refl refl kept.told)

  locks_miss : (k : ℕ) → CanLock me.0 k → (s : table.State (Option V) View) (later : List Entry) → Kept keeping key s later → get_elem? s.views id ≡ m.some me.0 → lock_word s.words k ≢ 0 → lock_word s.words k ≢ me.0.caller + 1
  locks_miss k can s later kept at some' e =
      let v = me.0 in
      let f = kept.seats id v at can.idle.live in
      let lt : k < keeper_count key.profile = subst (λ q. k < keeper_count q) f.profile can.exists in
      let o = kept.locks.owned k lt some' in
      let is = o.is in
      let c = f.caller in
      let same : o.seat ≡ id = omega arith in
      let vs : v ≡ o.view = some-injective v o.view (sym at ∙ (ap (get_elem? s.views) (sym same) ∙ o.at)) in
      let h : has_lock v k ≡ true = ap (λ (z : View). has_lock z k) vs ∙ o.has_it in
      ⊎_elim (λ (t : is_among v.held k ≡ true). false≢true (sym can.fresh ∙ t)) (λ (t : is_among v.taking k ≡ true). false≢true (sym (ap (λ xs. is_among xs k) can.idle.none) ∙ t)) (or_either (is_among v.held k) (is_among v.taking k) h)

  locks_most : (k : ℕ) → CanLock me.0 k → (s : table.State (Option V) View) (later : List Entry) → Kept keeping key s later → get_elem? s.views id ≡ m.some me.0 → lock_word s.words k ≢ 0 → lock_word s.words k ≤ me.0.profile.callers
  locks_most k can s later kept at some' =
      let f = kept.seats id me.0 at can.idle.live in
      let o = kept.locks.owned k (subst (λ q. k < keeper_count q) f.profile can.exists) some' in
      let is = o.is in
      let there = at_length s.views o.seat o.view o.at in
      let few = kept.few in
      subst (λ q. lock_word s.words k ≤ q.callers) (sym f.profile) (omega arith)

  pub locks : (slots k : ℕ) → CanLock me.0 k → Allows (Rule keeping key) slots id me (k + 1) (λ n. either (n == 0) (me.0.caller + 1) n) (TriesLock (step slots (k + 1) 0 (me.0.caller + 1) m.none) me)
  locks slots k can s (later, kept) sized at small =
      let n = lock_word s.words k in
      let h = length (all_of key later) in
      let F : ℕ → Type 0 = λ new. (w : View) × (a : Act (Option V)) × Valid s.homes me.1 a × Rule keeping key (stepped s (k + 1) new id me.1 w a) × TriesLock (step slots (k + 1) 0 (me.0.caller + 1) m.none) me n (w, carried_after me.1 a) in
      exchanged n 0 (me.0.caller + 1) F
      (λ (e : n ≡ 0). let i : k ≡ k + 1 - 1 = omega arith in (
        locked me.0 k h,
        keeps,
        tt,
        (later, locks_hit k can s later kept at e),
        record { carried = refl; from = h; got = λ z. ap (λ (x : ℕ). locked me.0 x h) i; missed = λ z. absurd (z e); other = λ y. absurd (omega arith); most = omega arith },
      ))
      (λ (e : n ≢ 0). (
        clashed me.0 (k + 1) 0 n,
        keeps,
        tt,
        (later, clash_kept can.idle.live (k + 1) 0 n s later kept at),
        record { carried = refl; from = 0; got = λ z. absurd (e z); missed = λ z. refl; other = locks_miss k can s later kept at e; most = locks_most k can s later kept at e },
      ))

-- look

module _ {V : Type 0} (keeping : V → Keeping) (key : Opened) (L : DeskLaws) (id : ℕ) (me : Seated V) where
  looks_kept : (k : ℕ) → me.0.live ≡ true → me.0.taking ≡ k ∷ [] → (n : ℕ) (s : table.State (Option V) View) (later : List Entry) (kept : Kept keeping key s later) (at : get_elem? s.views id ≡ m.some me.0) (f : SeatKeeps keeping key later s.words s.homes id me.0)
      → Kept keeping key record { words = s.words; homes = set s.homes k m.none; views = set s.views id (looked me.0 f.rest n) } later
  looks_kept k live one n s later kept at f =
      let v = me.0 in
      let p = key.profile in
      let w = looked v f.rest n in
      let homes' : Homes V = set s.homes k m.none in
      let in_taking : is_among v.taking k ≡ true = ap (λ (xs : List ℕ). is_among xs k) one ∙ one_among k in
      let mine = f.taking k in_taking in
      let is : lock_word s.words k ≡ id + 1 = mine.1 in
      let back : (j : ℕ) → has_lock w j ≡ true → has_lock v j ≡ true = λ j y. ⊎_elim (λ (t : is_among (v.held ++ v.taking) j ≡ true). sym (among_append v.held v.taking j) ∙ t) (λ (t : false ≡ true). absurd (false≢true t)) (or_either (is_among (v.held ++ v.taking) j) false y) in
      let on : (j : ℕ) → has_lock v j ≡ true → has_lock w j ≡ true = λ j y. or_left (is_among (v.held ++ v.taking) j) false (among_append v.held v.taking j ∙ y) in
      moves keeping key s later id v w s.words homes' kept at live (refl, refl, refl, live) refl (length-set s.homes k m.none) refl
      record {
        profile = f.profile;
        space = f.space;
        start = f.start;
        dealt = f.dealt;
        caller = f.caller;
        rest = [];
        seen = f.seen ∙ sym (append-nil (v.seen ++ f.rest));
        away = All-nil (IsAway p id (is_held p (v.held ++ v.taking)));
        noted = f.noted;
        held = λ j y. ⊎_elim (λ (t : is_among v.held j ≡ true). f.held j t) (λ (t : is_among v.taking j ≡ true). let o = f.taking j t in (o.0, o.1)) (or_either (is_among v.held j) (is_among v.taking j) (sym (among_append v.held v.taking j) ∙ y));
        taking = λ j y. absurd (false≢true y);
        since = All-weaker (IsAloneSince p id (all_of key later) v) (IsAloneSince p id (all_of key later) w) (λ y a. record { there = on y.keeper a.there; within = a.within; alone = a.alone }) v.since f.since;
        timed = λ j y. f.timed j (back j y);
        owned = λ u b. let o = owners_part s.views id v b at in let e = kept.hands.in_one_hand b ∙ ap (λ es. one_for (is_live (after_all p opening es) b)) f.seen in omega arith;
        whose = f.whose;
        hand = f.hand;
        lights = f.lights;
        sized = f.sized;
        settled = f.settled;
        known = f.known;
      }
      (λ i ne. record { lock = λ j l e. e; home = λ j l e a. home_else keeping key later s.homes k j m.none (λ y. let z : i + 1 ≡ id + 1 = sym e ∙ (ap (lock_word s.words) y ∙ is) in ne (omega arith)) a; light = λ b j lb lj e. e; class = λ b l x. refl })
      record {
        free = λ j l z. home_else keeping key later s.homes k j m.none (λ y. let x : 0 ≡ id + 1 = sym z ∙ (ap (lock_word s.words) y ∙ is) in absurd (omega arith)) (kept.locks.free j l z);
        owned = λ j l z. lock_owner s.words s.words s.views id v w j refl at live (λ e y. on j y) (kept.locks.owned j l z);
      }
      (lights_same p (state_after key later) s.words s.words s.views id v w (λ b j lb lj. refl) at live refl refl kept.lights)
      kept.classes
      (told_stays key s.words s.words s.views id v w (λ b l. refl) at live refl refl kept.told)

  pub looks : (slots k : ℕ) → CanLook me.0 k → Allows (Rule keeping key) slots id me 0 (λ n. n) (Looks keeping (step slots 0 0 0 m.none) me)
  looks slots k can s (later, kept) sized at small =
      let v = me.0 in
      let live = can.live in
      let one = can.taking in
      let f = kept.seats id v at live in
      let head : get_or v.taking 0 0 ≡ k = ap (λ (xs : List ℕ). get_or xs 0 0) one in
      let one' : v.taking ≡ get_or v.taking 0 0 ∷ [] = one ∙ ap (λ (i : ℕ). i ∷ []) (sym head) in
      let j : ℕ = get_or v.taking 0 0 in
      let n : ℕ = get_or s.words 0 0 in
      let in_taking : is_among v.taking j ≡ true = ap (λ (xs : List ℕ). is_among xs j) one' ∙ one_among j in
      let home = (f.taking j in_taking).2 in
      let Q : Profile → SpaceName → List Entry → Type 0 = λ p x es. Stands (keeping home.keeper) (site_at x) p (place_at p j) (value_at (after_all p opening es) (keeper_spot p j)).kept × ((value_at (after_all p opening es) (keeper_spot p j)).duty ≡ None) in
      let q0 : Q key.profile key.space (all_of key later) = (home.stands, home.calm) in
      let q : Q v.profile v.space (v.seen ++ f.rest) = subst (λ p. Q p v.space (v.seen ++ f.rest)) (sym f.profile) (subst (λ x. Q key.profile x (v.seen ++ f.rest)) (sym f.space) (subst (Q key.profile key.space) f.seen q0)) in (
        looked v f.rest n,
        takes j (Some home.keeper),
        home.here,
        (later, subst (λ (ws : List ℕ). Kept keeping key record { words = ws; homes = set s.homes j m.none; views = set s.views id (looked v f.rest n) } later) (sym (set-get_or s.words 0 0)) (looks_kept j live one' n s later kept at f)),
        record {
          others = f.rest;
          away = subst (λ (p : Profile). AreAway p v.caller (is_held p v.held) f.rest) (sym f.profile) (subst (λ (c : ℕ). AreAway key.profile c (is_held key.profile v.held) f.rest) (sym f.caller) f.away);
          view = refl;
          keeper = home.keeper;
          carried = refl;
          stands = q.0;
          calm = q.1;
          knows = knows_all keeping key L s later id v (looked v f.rest n) kept at live refl refl refl refl refl (sym f.seen);
        },
      )

-- free-lock

module _ {V : Type 0} (keeping : V → Keeping) (key : Opened) (L : DeskLaws) (id : ℕ) (me : Seated V) where
  frees_kept : (k : ℕ) (x : V) → CanFree keeping me k x → (s : table.State (Option V) View) (later : List Entry) (kept : Kept keeping key s later) (at : get_elem? s.views id ≡ m.some me.0)
      → Kept keeping key record { words = set s.words (k + 1) 0; homes = set s.homes k (m.some (Some x)); views = set s.views id (freed me.0 k) } later
  frees_kept k x can s later kept at =
      let v = me.0 in
      let p = key.profile in
      let live = can.idle.live in
      let none = can.idle.none in
      let f = kept.seats id v at live in
      let w = freed v k in
      let words' : List ℕ = set s.words (k + 1) 0 in
      let homes' : Homes V = set s.homes k (m.some (Some x)) in
      let mine = f.held k can.held in
      let is : lock_word s.words k ≡ id + 1 = mine.1 in
      let lt : k < keeper_count p = mine.0 in
      let wide : k + 1 < length s.words = let y = kept.words in omega arith in
      let now : lock_word words' k ≡ 0 = get_or-set_same s.words (k + 1) 0 0 wide in
      let else_ : (j : ℕ) → j ≢ k → lock_word words' j ≡ lock_word s.words j = λ j n. other_word s.words (k + 1) (j + 1) 0 (λ e. n (omega arith)) in
      let dark : (b j : ℕ) → light_word p words' b j ≡ light_word p s.words b j = λ b j. other_word s.words (k + 1) (slot_place p b j) 0 (light_not_lock p k b j lt) in
      let class : (b : ℕ) → class_word p words' b ≡ class_word p s.words b = λ b. other_word s.words (k + 1) (class_place p b) 0 (class_not_lock p k b lt) in
      let spot = keeper_spot p k in
      let st = after_all p opening v.seen in
      let heldp : is_held p v.held spot ≡ true = L.held_at p v.held k lt ∙ can.held in
      let same : value_at (state_after key later) spot ≡ value_at st spot =
      ap (λ es. value_at (after_all p opening es) spot) f.seen ∙ (ap (λ (t : State). value_at t spot) (L.after_joined p opening v.seen f.rest) ∙ (L.known_through p id (is_held p v.held) st f.rest f.away).values spot heldp) in
      let Q : Profile → SpaceName → Type 0 = λ q y. Stands (keeping x) (site_at y) q (place_at q k) (value_at (after_all q opening v.seen) (keeper_spot q k)).kept × ((value_at (after_all q opening v.seen) (keeper_spot q k)).duty ≡ None) in
      let q0 : Q v.profile v.space = (can.stands, can.calm) in
      let q : Q p key.space = subst (λ y. Q p y) f.space (subst (λ z. Q z v.space) f.profile q0) in
      let less : (j : ℕ) → has_lock w j ≡ true → (has_lock v j ≡ true) × (j ≢ k) = λ j y. ⊎_elim
      (λ (t : is_among (without k v.held) j ≡ true). let o = without_less k v.held j t in (or_left (is_among v.held j) (is_among v.taking j) o.0, o.1))
      (λ (t : is_among v.taking j ≡ true). absurd (false≢true (sym (ap (λ xs. is_among xs j) none) ∙ t)))
      (or_either (is_among (without k v.held) j) (is_among v.taking j) y) in
      let more : (j : ℕ) → j ≢ k → has_lock v j ≡ true → has_lock w j ≡ true = λ j n y. ⊎_elim
      (λ (t : is_among v.held j ≡ true). or_left (is_among (without k v.held) j) (is_among v.taking j) (without_more k v.held j t n))
      (λ (t : is_among v.taking j ≡ true). or_right (is_among (without k v.held) j) (is_among v.taking j) t)
      (or_either (is_among v.held j) (is_among v.taking j) y) in
      moves keeping key s later id v w words' homes' kept at live (refl, refl, refl, live) (length-set s.words (k + 1) 0) (length-set s.homes k (m.some (Some x))) (other_word s.words (k + 1) 0 0 (λ e. absurd (omega arith)))
      record {
        profile = f.profile;
        space = f.space;
        start = f.start;
        dealt = f.dealt;
        caller = f.caller;
        rest = f.rest;
        seen = f.seen;
        away = away_less p id v.held (without k v.held) f.rest (λ j y. held_less p k v.held j y) f.away;
        noted = f.noted;
        held = λ j y. let o = without_less k v.held j y in let h = f.held j o.0 in (h.0, else_ j o.1 ∙ h.1);
        taking = λ j y. absurd (false≢true (sym (ap (λ xs. is_among xs j) none) ∙ y));
        since = since_less p id (all_of key later) v w k v.since more f.since;
        timed = λ j y. let o = less j y in timed_less k j v.since o.1 (f.timed j o.0);
        owned = f.owned;
        whose = f.whose;
        hand = f.hand;
        lights = λ b j y. let o = f.lights b j y in (o.0, o.1, dark b j ∙ o.2);
        sized = f.sized;
        settled = λ b n. class b ∙ f.settled b n;
        known = known_stay p s.words words' v.joined (λ b l n. class b) f.known;
      }
      (λ i ne.
      let apart : (j : ℕ) → lock_word s.words j ≡ i + 1 → j ≢ k = λ j o y. let z : i + 1 ≡ id + 1 = sym o ∙ (ap (lock_word s.words) y ∙ is) in ne (omega arith) in
      record { lock = λ j l e. else_ j (apart j e) ∙ e; home = λ j l e a. home_else keeping key later s.homes k j (m.some (Some x)) (apart j e) a; light = λ b j lb lj e. dark b j ∙ e; class = λ b l n. class b })
      record {
        free = λ j l z. ⊎_elim
            (λ (t : j ≡ k). subst (λ (i : ℕ). AtHome keeping key (state_after key later) homes' i) (sym t) record {
              keeper = x;
              here = set_here s.homes k (m.some (Some x)) (let y = kept.homes in omega arith);
              stands = subst (λ (u : Value). Stands (keeping x) (site_at key.space) p (place_at p k) u.kept) (sym same) q.0;
              calm = ap (λ (u : Value). u.duty) same ∙ q.1;
            })
            (λ (t : j ≡ k → ⊥). home_else keeping key later s.homes k j (m.some (Some x)) t (kept.locks.free j l (sym (else_ j t) ∙ z)))
            (cases_eq j k);
        owned = λ j l z. ⊎_elim
            (λ (t : j ≡ k). absurd (z (ap (lock_word words') t ∙ now)))
            (λ (t : j ≡ k → ⊥). lock_owner s.words words' s.views id v w j (else_ j t) at live (λ e y. more j t y) (kept.locks.owned j l (λ a. z (else_ j t ∙ a))))
            (cases_eq j k);
      }
      (lights_same p (state_after key later) s.words words' s.views id v w (λ b j lb lj. dark b j) at live refl refl kept.lights)
      (classes_same key (state_after key later) s.words words' (λ b l. class b) kept.classes)
      (told_stays key s.words words' s.views id v w (λ b l. class b) at live refl refl kept.told)

  pub frees : (slots k : ℕ) (x : V) → CanFree keeping me k x → Allows (Rule keeping key) slots id me (k + 1) (λ n. 0) (λ n. Frees (step slots (k + 1) 0 0 m.none) me 0)
  frees slots k x can s (later, kept) sized at small =
      let i : k ≡ k + 1 - 1 = omega arith in (
        freed me.0 k,
        gives,
        tt,
        (later, subst (λ (c : List (ℕ × Option V)). Kept keeping key record { words = set s.words (k + 1) 0; homes = put_back s.homes c; views = set s.views id (freed me.0 k) } later) (sym can.last) (frees_kept k x can s later kept at)),
        record { view = ap (λ (z : ℕ). freed me.0 z) i; carried = refl },
      )
