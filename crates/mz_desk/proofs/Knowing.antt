-- What a seat knows once it has seen the whole history, and what it still knows of less.
use Rattle.std.proofs.Common.{◌≡◌, ◌≢◌, ℕ, ◌+◌, ◌*◌, ◌^◌, ◌≤◌, ◌==◌, Bool, true, false, cond, not, List, [], ◌∷◌, ◌++◌, length, set, Option, refl, sym, ap, ◌∙◌, subst, arith, eq-eqb, ⊎_elim, zero, suc, length-append, mul-le-mul_right}
use Rattle.std.specs.Prelude.{◌||◌, ◌&&◌, filter, map}
use Rattle.std.proofs.lemmas.List.{map-append}
use Rattle.std.specs.List.{All, list_any}
use Rattle.std.proofs.lemmas.List.Elements.{All-nil, All-cons, All-head, All-tail, All-weaker, filter-append}
use Rattle.std.proofs.lemmas.Bool.{false≢true, eqb-true}
use mathlib.Core.Option as m
use mathlib.Core.Option.{some-ne-none, some-injective}
use lib.ListN.{get_elem?}
use Rattle.atomic_table.specs.Table as table
use Rattle.mz_base.specs.declared.profile.Profile.{Profile}
use Rattle.mz_base.specs.Limits.{IsWithinLimits}
use Rattle.mz_base.specs.Space.{Block, same_block, page_of}
use Rattle.mz_events.specs.declared.entry.Entry.{Entry}
use Rattle.mz_events.specs.Places.{Spot, keeper_at, nano_page}
use Rattle.mz_events.specs.State.{opening}
use Rattle.mz_events.specs.Changes.{one_for}
use Rattle.mz_events.specs.History.{AreLawful, after_all}
use Rattle.mz_events.specs.Hands.{own}
use Rattle.mz_events.specs.Holding.{IsAway, AreAway}
use Rattle.mz_events.specs.Standing.{Keeping}
use Rattle.mz_book.specs.declared.pair.Pair.{Pair}
use Rattle.mz_book.specs.Keepers.{keeper_of, is_held}
use Rattle.mz_book.specs.Lights.{page_of_block, slot_number, has_slot}
use Rattle.mz_book.specs.Pairs.{hand_among, owners, block_of}
use Rattle.mz_book.specs.Account.{is_live}
use Rattle.mz_book.specs.Calls.{without}
use Rattle.mz_desk.specs.declared.view.Since.{Since}
use Rattle.mz_desk.specs.declared.view.View.{View}
use Rattle.mz_desk.specs.Laws.{DeskLaws}
use Rattle.mz_desk.specs.Views.{Opened, has_lock, all_pairs}
use Rattle.mz_desk.specs.Rule.{all_of, state_after, IsAloneSince, Kept}
use Rattle.mz_desk.specs.Steps.{Knows}
use Rattle.mz_desk.proofs.Counts.{at_most}
use Rattle.mz_desk.proofs.ListLemmas.{or_left, or_right, or_again, or_either, without_less, at_length}

-- the owners of a block, seat by seat

pub owners_append : (xs ys : List Pair) (b : Block) → owners (xs ++ ys) b ≡ owners xs b + owners ys b
owners_append xs ys b = ap length (filter-append (λ (h : Pair). same_block b (block_of h)) xs ys) ∙ length-append (filter (λ (h : Pair). same_block b (block_of h)) xs) (filter (λ (h : Pair). same_block b (block_of h)) ys)

pub owners_part : (views : List View) (i : ℕ) (v : View) (b : Block) → get_elem? views i ≡ m.some v → owners v.pairs b ≤ owners (all_pairs views) b
owners_part [] i v b e = absurd (some-ne-none v (sym e))
owners_part (x ∷ xs) zero v b e = let a = owners_append x.pairs (all_pairs xs) b in let s = ap (λ (z : View). owners z.pairs b) (some-injective x v e) in omega arith
owners_part (x ∷ xs) (suc i) v b e = let a = owners_append x.pairs (all_pairs xs) b in let r = owners_part xs i v b e in omega arith

pub owners_set : (views : List View) (i : ℕ) (v w : View) (b : Block) → get_elem? views i ≡ m.some v → owners (all_pairs (set views i w)) b + owners v.pairs b ≡ owners (all_pairs views) b + owners w.pairs b
owners_set [] i v w b e = absurd (some-ne-none v (sym e))
owners_set (x ∷ xs) zero v w b e =
    let a = owners_append x.pairs (all_pairs xs) b in
    let c = owners_append w.pairs (all_pairs xs) b in
    let s = ap (λ (z : View). owners z.pairs b) (some-injective x v e) in
    omega arith
owners_set (x ∷ xs) (suc i) v w b e =
    let a = owners_append x.pairs (all_pairs xs) b in
    let c = owners_append x.pairs (all_pairs (set xs i w)) b in
    let r = owners_set xs i v w b e in
    omega arith

-- a hand, seat by seat

pub any_append : {A : Type 0} (test : A → Bool) (xs ys : List A) → list_any test (xs ++ ys) ≡ (list_any test xs || list_any test ys)
any_append test [] ys = refl
any_append test (x ∷ xs) ys = ap (λ b. test x || b) (any_append test xs ys) ∙ or_again (test x) (list_any test xs) (list_any test ys)

pub hand_append : (c : ℕ) (xs ys : List Pair) → hand_among c (xs ++ ys) ≡ hand_among c xs ++ hand_among c ys
hand_append c xs ys = ap (map block_of) (filter-append (λ (h : Pair). h.caller == c) xs ys) ∙ map-append block_of (filter (λ (h : Pair). h.caller == c) xs) (filter (λ (h : Pair). h.caller == c) ys)

pub slot_append : (p : Profile) (c b j : ℕ) (xs ys : List Pair) → has_slot p (hand_among c (xs ++ ys)) b j ≡ (has_slot p (hand_among c xs) b j || has_slot p (hand_among c ys) b j)
slot_append p c b j xs ys = ap (λ bs. has_slot p bs b j) (hand_append c xs ys) ∙ any_append (λ (x : Block). (page_of x.first == page_of_block p b) && (slot_number x == j)) (hand_among c xs) (hand_among c ys)

-- where a slot's pair is in a seat's hand, it is in the hand among all
pub slot_part : (p : Profile) (c b j : ℕ) (views : List View) (i : ℕ) (v : View) → get_elem? views i ≡ m.some v → has_slot p (hand_among c v.pairs) b j ≡ true → has_slot p (hand_among c (all_pairs views)) b j ≡ true
slot_part p c b j [] i v e h = absurd (some-ne-none v (sym e))
slot_part p c b j (x ∷ xs) zero v e h = slot_append p c b j x.pairs (all_pairs xs) ∙ or_left (has_slot p (hand_among c x.pairs) b j) (has_slot p (hand_among c (all_pairs xs)) b j) (ap (λ (z : View). has_slot p (hand_among c z.pairs) b j) (some-injective x v e) ∙ h)
slot_part p c b j (x ∷ xs) (suc i) v e h = slot_append p c b j x.pairs (all_pairs xs) ∙ or_right (has_slot p (hand_among c x.pairs) b j) (has_slot p (hand_among c (all_pairs xs)) b j) (slot_part p c b j xs i v e h)

-- the history is no longer than its callers can make it
pub history_few : {V : Type 0} (keeping : V → Keeping) (key : Opened) (s : table.State (Option V) View) (later : List Entry) → Kept keeping key s later → length (all_of key later) ≤ (key.profile.callers + 1) * 2 ^ 58
history_few keeping key s later kept =
    let n = length s.views in
    let a = at_most (2 ^ 58) n later kept.history.below kept.history.bounded in
    let b : n * 2 ^ 58 ≤ key.profile.callers * 2 ^ 58 = mul-le-mul_right (2 ^ 58) kept.few in
    let c = kept.opened.short in
    let d = length-append key.history later in
    let p : ℕ = n * 2 ^ 58 in
    let a' : length later ≤ p = a in
    let b' : p ≤ key.profile.callers * 2 ^ 58 = b in
    omega arith

-- a view that has seen all, with the pairs of the seat
pub knows_all : {V : Type 0} (keeping : V → Keeping) (key : Opened) (L : DeskLaws) (s : table.State (Option V) View) (later : List Entry) (id : ℕ) (v w : View) → Kept keeping key s later → get_elem? s.views id ≡ m.some v → v.live ≡ true
    → w.profile ≡ v.profile → w.caller ≡ v.caller → w.noted ≡ v.noted → w.pairs ≡ v.pairs → w.settled ≡ v.settled → w.seen ≡ all_of key later → Knows w
knows_all keeping key L s later id v w kept at live profile caller noted pairs settled seen =
    let f = kept.seats id v at live in
    let p = key.profile in
    let is_p : w.profile ≡ p = profile ∙ f.profile in
    let is_c : w.caller ≡ id = caller ∙ f.caller in
    let few = kept.few in
    let lt = at_length s.views id v at in
    let long = history_few keeping key s later kept in
    record {
      limits = subst IsWithinLimits (sym is_p) kept.opened.limits;
      caller = let c = ap (λ (q : Profile). q.callers) is_p in omega arith;
      lawful = subst (λ (q : Profile). AreLawful q opening w.seen) (sym is_p) (subst (AreLawful p opening) (sym seen) kept.history.lawful);
      recorded = record {
        before = own w.caller key.history;
        is = ap (own w.caller) seen ∙ (L.own_joined w.caller key.history later ∙ ap (λ es. own w.caller key.history ++ es) (ap (λ c. own c later) is_c ∙ (sym f.noted ∙ sym noted)));
      };
      counted = let c = ap (λ (q : Profile). (q.callers + 1) * 2 ^ 58) is_p in let l = ap length seen in omega arith;
      owned = λ u b.
          let o = owners_part s.views id v b at in
          let e = kept.hands.in_one_hand b in
          let x = ap (λ ps. owners ps b) pairs in
          let y : after_all w.profile opening w.seen ≡ state_after key later = ap (λ (q : Profile). after_all q opening w.seen) is_p ∙ ap (after_all p opening) seen in
          let z = ap (λ t. one_for (is_live t b)) y in
          omega arith;
      sized = ap length settled ∙ (f.sized ∙ ap (λ (q : Profile). q.nano) (sym is_p));
    }

-- with less held, less is known

pub held_less : (p : Profile) (k : ℕ) (held : List ℕ) (j : Spot) → is_held p (without k held) j ≡ true → is_held p held j ≡ true
held_less p k held (keeper_at q) h = (without_less k held (keeper_of p q) h).0
held_less p k held (nano_page i) h = absurd (false≢true h)

pub away_less : (p : Profile) (c : ℕ) (held less : List ℕ) (es : List Entry) → ((j : Spot) → is_held p less j ≡ true → is_held p held j ≡ true) → AreAway p c (is_held p held) es → AreAway p c (is_held p less) es
away_less p c held less es f h = All-weaker (IsAway p c (is_held p held)) (IsAway p c (is_held p less)) (λ e a. record { other = a.other; no_zone = a.no_zone; untouched = λ j y. a.untouched j (f j y) }) es h

since_case : (p : Profile) (i : ℕ) (history : List Entry) (v w : View) (k : ℕ) (x : Since) (xs : List Since) (b : Bool) → (x.keeper == k) ≡ b → ((j : ℕ) → j ≢ k → has_lock v j ≡ true → has_lock w j ≡ true) → IsAloneSince p i history v x → All (IsAloneSince p i history w) xs
    → All (IsAloneSince p i history w) (cond (not b) (x ∷ xs) xs)
since_case p i history v w k x xs true e more a h = h
since_case p i history v w k x xs false e more a h = All-cons (IsAloneSince p i history w) x xs record { there = more x.keeper (λ y. false≢true (sym e ∙ eq-eqb x.keeper k y)) a.there; within = a.within; alone = a.alone } h

pub since_less : (p : Profile) (i : ℕ) (history : List Entry) (v w : View) (k : ℕ) (xs : List Since) → ((j : ℕ) → j ≢ k → has_lock v j ≡ true → has_lock w j ≡ true) → All (IsAloneSince p i history v) xs
    → All (IsAloneSince p i history w) (filter (λ x. not (x.keeper == k)) xs)
since_less p i history v w k [] more h = All-nil (IsAloneSince p i history w)
since_less p i history v w k (x ∷ xs) more h =
    since_case p i history v w k x (filter (λ y. not (y.keeper == k)) xs) (x.keeper == k) refl more (All-head (IsAloneSince p i history v) x xs h) (since_less p i history v w k xs more (All-tail (IsAloneSince p i history v) x xs h))

timed_case : (k j : ℕ) (x : Since) (xs : List Since) (b : Bool) → (x.keeper == k) ≡ b → j ≢ k → (list_any (λ y. y.keeper == j) xs ≡ true → list_any (λ y. y.keeper == j) (filter (λ y. not (y.keeper == k)) xs) ≡ true)
    → list_any (λ y. y.keeper == j) (x ∷ xs) ≡ true → list_any (λ y. y.keeper == j) (cond (not b) (x ∷ filter (λ y. not (y.keeper == k)) xs) (filter (λ y. not (y.keeper == k)) xs)) ≡ true
timed_case k j x xs true e n f h = ⊎_elim
    (λ (t : (x.keeper == j) ≡ true). absurd (n (sym (eqb-true x.keeper j t) ∙ eqb-true x.keeper k e)))
    f (or_either (x.keeper == j) (list_any (λ (y : Since). y.keeper == j) xs) h)
timed_case k j x xs false e n f h = ⊎_elim
    (λ (t : (x.keeper == j) ≡ true). or_left (x.keeper == j) (list_any (λ (y : Since). y.keeper == j) (filter (λ (y : Since). not (y.keeper == k)) xs)) t)
    (λ (t : list_any (λ (y : Since). y.keeper == j) xs ≡ true). or_right (x.keeper == j) (list_any (λ (y : Since). y.keeper == j) (filter (λ (y : Since). not (y.keeper == k)) xs)) (f t))
    (or_either (x.keeper == j) (list_any (λ (y : Since). y.keeper == j) xs) h)

pub timed_less : (k j : ℕ) (xs : List Since) → j ≢ k → list_any (λ x. x.keeper == j) xs ≡ true → list_any (λ x. x.keeper == j) (filter (λ x. not (x.keeper == k)) xs) ≡ true
timed_less k j [] n h = absurd (false≢true h)
timed_less k j (x ∷ xs) n h = timed_case k j x xs (x.keeper == k) refl n (timed_less k j xs n) h
