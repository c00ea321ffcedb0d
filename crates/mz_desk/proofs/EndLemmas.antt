-- Once seat 0 took in all others and holds nothing, no lock and no light is held.
use Rattle.std.proofs.Common.{◌≡◌, ℕ, ◌<◌, ◌≤◌, ◌==◌, true, false, List, [], ◌∷◌, ◌++◌, length, get_or, Option, refl, sym, ap, ◌∙◌, subst, arith, inl, inr, ⊎_elim, zero, suc, append-nil}
use Rattle.std.specs.Prelude.{◌||◌}
use Rattle.std.specs.List.{All, list_any}
use Rattle.std.proofs.lemmas.List.Elements.{All-head, All-tail, All-weaker}
use Rattle.std.proofs.lemmas.Bool.{cases_eq, false≢true, eqb-true}
use mathlib.Core.Option as m
use mathlib.Core.Option.{some-injective}
use lib.ListN.{get_elem?}
use Rattle.atomic_table.specs.Table as table
use Rattle.mz_base.specs.declared.profile.Profile.{Profile}
use Rattle.mz_events.specs.declared.entry.Entry.{Entry}
use Rattle.mz_events.specs.Changes.{one_for}
use Rattle.mz_events.specs.Standing.{Keeping}
use Rattle.mz_book.specs.declared.pair.Pair.{Pair}
use Rattle.mz_book.specs.Keepers.{keeper_count, is_among}
use Rattle.mz_book.specs.Pairs.{hand_among, owners}
use Rattle.mz_book.specs.Lights.{is_slot_live, has_light, light_at}
use Rattle.mz_desk.specs.declared.view.TakenIn.{TakenIn}
use Rattle.mz_desk.specs.declared.view.View.{View}
use Rattle.mz_desk.specs.Words.{lock_word, class_word, light_word}
use Rattle.mz_desk.specs.Views.{Opened, has_lock, knows_class, all_pairs}
use Rattle.mz_desk.specs.Ending.{TookAll, Ended}
use Rattle.mz_desk.specs.Rule.{state_after, AtHome, SeatKeeps, LockOwner, LightOwner, IsSpent, IsTaken, IsKnown, Kept}
use Rattle.mz_desk.proofs.ListLemmas.{at_length, or_either}

-- a seat that was taken in is spent
spent_of : (key : Opened) (views : List View) (later : List Entry) (c : ℕ) (xs : List TakenIn) → list_any (λ x. x.caller == c) xs ≡ true → All (IsTaken key views later) xs → IsSpent views c
spent_of key views later c [] y h = absurd (false≢true y)
spent_of key views later c (x ∷ xs) y h = ⊎_elim
    (λ (q : (x.caller == c) ≡ true). subst (IsSpent views) (eqb-true x.caller c q) (All-head (IsTaken key views later) x xs h).spent)
    (λ (q : list_any (λ (z : TakenIn). z.caller == c) xs ≡ true). spent_of key views later c xs q (All-tail (IsTaken key views later) x xs h))
    (or_either (x.caller == c) (list_any (λ (z : TakenIn). z.caller == c) xs) y)

all_empty : (views : List View) → ((i : ℕ) (u : View) → get_elem? views i ≡ m.some u → u.pairs ≡ []) → all_pairs views ≡ []
all_empty [] f = refl
all_empty (x ∷ xs) f = ap (λ (ps : List Pair). ps ++ all_pairs xs) (f 0 x refl) ∙ all_empty xs (λ i u e. f (suc i) u e)

-- where only the first has pairs, these are all
first_pairs : (views : List View) (v : View) → get_elem? views 0 ≡ m.some v → ((i : ℕ) (u : View) → get_elem? views i ≡ m.some u → 1 ≤ i → u.pairs ≡ []) → all_pairs views ≡ v.pairs
first_pairs [] v e f = absurd (mathlib.Core.Option.some-ne-none v (sym e))
first_pairs (x ∷ xs) v e f = ap (λ (ps : List Pair). x.pairs ++ ps) (all_empty xs (λ i u y. f (suc i) u y (omega arith))) ∙ (append-nil x.pairs ∙ ap (λ (z : View). z.pairs) (some-injective x v e))

module _ {V : Type 0} (keeping : V → Keeping) (key : Opened) (s : table.State (Option V) View) (later : List Entry) (kept : Kept keeping key s later) (id : ℕ) (v : View) (at : get_elem? s.views id ≡ m.some v) (all : TookAll v) where
  abbrev f : SeatKeeps keeping key later s.words s.homes id v
  f = kept.seats id v at all.live

  id0 : id ≡ 0
  id0 = sym f.caller ∙ all.first

  at0 : get_elem? s.views 0 ≡ m.some v
  at0 = ap (get_elem? s.views) (sym id0) ∙ at

  -- each other seat is spent
  others_spent : (i : ℕ) (u : View) → get_elem? s.views i ≡ m.some u → 1 ≤ i → u.live ≡ false
  others_spent i u e l =
      let n = at_length s.views i u e in
      let few = kept.few in
      let p : v.profile.callers ≡ key.profile.callers = ap (λ (q : Profile). q.callers) f.profile in
      let d = spent_of key s.views later i v.joined (all.all i l (omega arith)) (kept.hands.taken id v at all.live) in
      ap (λ (z : View). z.live) (some-injective u d.view (sym e ∙ d.at)) ∙ d.spent

  -- a live seat is this one
  only : (i : ℕ) (u : View) → get_elem? s.views i ≡ m.some u → u.live ≡ true → u ≡ v
  only zero u e l = some-injective u v (sym e ∙ at0)
  only (suc i) u e l = absurd (false≢true (sym (others_spent (suc i) u e (omega arith)) ∙ l))

  no_lock : (k : ℕ) → LockOwner s.words s.views k → ⊥
  no_lock k o =
      let e = only o.seat o.view o.at o.live in
      false≢true (sym (ap (λ (z : View). has_lock z k) e ∙ (ap (λ (xs : List ℕ). is_among xs k || is_among v.taking k) all.no_keeper ∙ ap (λ (xs : List ℕ). is_among xs k) all.none_taking)) ∙ o.has_it)

  no_lit : (b j : ℕ) → LightOwner key.profile (state_after key later) s.words s.views b j → ⊥
  no_lit b j o =
      let e = only o.seat o.view o.at o.live in
      false≢true (sym (ap (λ (z : View). has_light z.lights (light_at b j)) e ∙ ap (λ ls. has_light ls (light_at b j)) all.no_light) ∙ o.has_it)

  home : (k : ℕ) → k < keeper_count key.profile → AtHome keeping key (state_after key later) s.homes k
  home k l = ⊎_elim
      (λ (z : lock_word s.words k ≡ 0). kept.locks.free k l z)
      (λ (n : lock_word s.words k ≡ 0 → ⊥). absurd (no_lock k (kept.locks.owned k l n)))
      (cases_eq (lock_word s.words k) 0)

  dark : (b j : ℕ) → b < key.profile.nano → j < 1024 → light_word key.profile s.words b j ≡ one_for (is_slot_live key.profile (state_after key later) b j)
  dark b j lb lj = ⊎_elim
      (λ (t : light_word key.profile s.words b j ≡ one_for (is_slot_live key.profile (state_after key later) b j)). t)
      (λ (o : LightOwner key.profile (state_after key later) s.words s.views b j). absurd (no_lit b j o))
      (kept.lights.each b j lb lj)

  pairs : all_pairs s.views ≡ v.pairs
  pairs = first_pairs s.views v at0 (λ i u e l. kept.hands.spent i u e (others_spent i u e l))

  pub ends : Ended keeping key v s.words s.homes
  ends = record {
    opened = kept.opened.in_one_hand;
    later = later;
    counts = kept.history.counts;
    lawful = kept.history.lawful;
    below = All-weaker (λ (e : Entry). e.caller < length s.views) (λ (e : Entry). e.caller < key.profile.callers) (λ e l. let few = kept.few in omega arith) later kept.history.below;
    handed = kept.history.handed;
    mine = record { rest = f.rest; seen = f.seen; noted = f.noted ∙ ap (λ (c : ℕ). Rattle.mz_events.specs.Hands.own c later) (sym f.caller); hand = subst (λ (c : ℕ). hand_among c v.pairs ≡ Rattle.mz_events.specs.Hands.hand_through (hand_among c key.pairs) v.noted) (sym f.caller) f.hand; settled = λ b l n. f.settled b n };
    others = λ k d l. let t = kept.hands.taken id v at all.live k d l in record { rest = t.rest; seen = t.seen; noted = t.noted; hand = t.hand; settled = f.known k d l };
    whose = All-weaker (IsTaken key s.views later) (λ (x : TakenIn). All (λ (h : Pair). h.caller ≡ x.caller) x.pairs) (λ x t. t.whose) v.joined (kept.hands.taken id v at all.live);
    in_one_hand = λ b. ap (λ ps. owners ps b) (sym pairs) ∙ kept.hands.in_one_hand b;
    home = home;
    lights = dark;
    classes = kept.classes;
    told = λ b l n. ⊎_elim
        (λ (t : class_word key.profile s.words b ≡ get_or key.classes b 0). inl t)
        (λ (t : IsKnown s.views b (class_word key.profile s.words b)). inr (ap (λ (z : View). knows_class z b (class_word key.profile s.words b)) (sym (only t.seat t.view t.at t.live)) ∙ t.knows))
        (kept.told b l n);
  }
