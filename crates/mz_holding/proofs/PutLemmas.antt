-- A run that comes among others in order.
use Rattle.std.proofs.Common.{◌≡◌, ℕ, ◌+◌, ◌*◌, ◌<◌, ◌≤◌, ◌⊎◌, Bool, true, List, [], ◌∷◌, ◌++◌, take, drop, refl, sym, subst, ap, ◌∙◌, inl, inr, arith}
use Rattle.std.specs.Prelude.{nat_le, nat_lt, map}
use Rattle.std.specs.List.{All, list_all, insert}
use Rattle.std.proofs.lemmas.Bool.{and_parts, or_cases, or_left, or_right, leb-true, le-leb, lt-ltb, le-ltb, cond-true, cond-false}
use Rattle.std.proofs.lemmas.List.{take-append-drop}
use Rattle.std.proofs.lemmas.List.Elements.{All-cons, All-head, All-tail}
use Rattle.mz_base.specs.declared.range.TheConstants.{PAGE}
use Rattle.mz_base.specs.Space.{Run, block_end, run_end, blocks_apart, runs_apart, bytes_of}
use Rattle.mz_base.specs.Lists.{insert_by, add_run}
use Rattle.mz_holding.specs.declared.held.Held.{Held}
use Rattle.mz_holding.specs.HeldRuns.{run_of_held, live_of_held, live_in_runs, AreRunsInOrder}
use Rattle.mz_holding.proofs.InOrder.{IsIn, all_in, all_from_in}
use Rattle.mz_holding.proofs.PartLemmas.{all_from}
use Rattle.mz_holding.proofs.RunLemmas.{in_some_run, lies_there}

add_none : (r : Run) → add_run r [] ≡ r ∷ []
unfolding insert_by
add_none r = refl

add_before : (r t : Run) (rs : List Run) → r.first < t.first → add_run r (t ∷ rs) ≡ r ∷ t ∷ rs
unfolding insert_by
add_before r t rs less = cond-true (nat_lt r.first t.first) (r ∷ t ∷ rs) (t ∷ insert_by (λ u. u.first) r rs) (lt-ltb r.first t.first less)

add_behind : (r t : Run) (rs : List Run) → t.first ≤ r.first → add_run r (t ∷ rs) ≡ t ∷ add_run r rs
unfolding insert_by
add_behind r t rs more = cond-false (nat_lt r.first t.first) (r ∷ t ∷ rs) (t ∷ insert_by (λ u. u.first) r rs) (le-ltb r.first t.first more)

-- with h between the first ones and the rest
pub runs_put : (xs ys : List Held) (h : Held) → All (λ g. g.first ≤ h.first) xs → All (λ g. h.first < g.first) ys → map run_of_held (xs ++ h ∷ ys) ≡ add_run (run_of_held h) (map run_of_held (xs ++ ys))
runs_put [] [] h low high = sym (add_none (run_of_held h))
runs_put [] (y ∷ ys) h low high = sym (add_before (run_of_held h) (run_of_held y) (map run_of_held ys) (All-head (λ g. h.first < g.first) y ys high))
runs_put (x ∷ xs) ys h low high = ap (λ rs. run_of_held x ∷ rs) (runs_put xs ys h (All-tail (λ g. g.first ≤ h.first) x xs low) high) ∙ sym (add_behind (run_of_held h) (run_of_held x) (map run_of_held (xs ++ ys)) (All-head (λ g. g.first ≤ h.first) x xs low))

pub live_put : (xs ys : List Held) (h : Held) → live_of_held h ≡ [] → live_in_runs (xs ++ h ∷ ys) ≡ live_in_runs (xs ++ ys)
live_put [] ys h none = ap (λ bs. bs ++ live_in_runs ys) none
live_put (x ∷ xs) ys h none = ap (λ bs. live_of_held x ++ bs) (live_put xs ys h none)

all_put : (P : Held → Type 0) (xs ys : List Held) (h : Held) → All P (xs ++ ys) → P h → All P (xs ++ h ∷ ys)
all_put P [] ys h all here = All-cons P h ys here all
all_put P (x ∷ xs) ys h all here = All-cons P x (xs ++ h ∷ ys) (All-head P x (xs ++ ys) all) (all_put P xs ys h (All-tail P x (xs ++ ys) all) here)

order_put : (xs ys : List Held) (h : Held) → AreRunsInOrder (xs ++ ys) → All (λ g. g.first + g.pages ≤ h.first) xs → All (λ g. h.first + h.pages ≤ g.first) ys → AreRunsInOrder (xs ++ h ∷ ys)
order_put [] ys h order low high = (high, order)
order_put (x ∷ xs) ys h order low high = (all_put (λ g. x.first + x.pages ≤ g.first) xs ys h order.0 (All-head (λ g. g.first + g.pages ≤ h.first) x xs low), order_put xs ys h order.1 (All-tail (λ g. g.first + g.pages ≤ h.first) x xs low) high)

in_left : (xs ys : List Held) (g : Held) → IsIn g xs → IsIn g (xs ++ ys)
in_left [] ys g there = absurd there
in_left (x ∷ xs) ys g (inl same) = inl same
in_left (x ∷ xs) ys g (inr later) = inr (in_left xs ys g later)

in_right : (xs ys : List Held) (g : Held) → IsIn g ys → IsIn g (xs ++ ys)
in_right [] ys g there = there
in_right (x ∷ xs) ys g there = inr (in_right xs ys g there)

pub each_run : (test : Run → Bool) (hs : List Held) (g : Held) → list_all test (map run_of_held hs) ≡ true → IsIn g hs → test (run_of_held g) ≡ true
each_run test [] g all there = absurd there
each_run test (x ∷ hs) g all (inl same) = subst (λ y. test (run_of_held y) ≡ true) (sym same) (and_parts (test (run_of_held x)) (list_all test (map run_of_held hs)) all).0
each_run test (x ∷ hs) g all (inr later) = each_run test hs g (and_parts (test (run_of_held x)) (list_all test (map run_of_held hs)) all).1 later

apart_numbers : (g : Held) (r : Run) → runs_apart (run_of_held g) r ≡ true → (g.first + g.pages ≤ r.first) ⊎ (run_end r ≤ g.first)
apart_numbers g r h = elim (or_cases (nat_le (g.first + g.pages) r.first) (nat_le (run_end r) g.first) h) [
  | inl before ↦ inl (leb-true (g.first + g.pages) r.first before)
  | inr behind ↦ inr (leb-true (run_end r) g.first behind)
]

module _ (hs : List Held) (i : ℕ) (h : Held) (order : AreRunsInOrder hs) (low : All (λ g. g.first ≤ h.first) (take i hs)) (high : All (λ g. h.first < g.first) (drop i hs)) (apart : list_all (λ r. runs_apart r (run_of_held h)) (map run_of_held hs) ≡ true) where
  whole : take i hs ++ drop i hs ≡ hs
  whole = take-append-drop i hs

  pub order_inserted : AreRunsInOrder (insert hs i h)
  order_inserted = order_put (take i hs) (drop i hs) h (subst AreRunsInOrder (sym whole) order)
      (all_from_in (λ g. g.first + g.pages ≤ h.first) (take i hs) (λ g there.
      let at : g.first ≤ h.first = all_in (λ x. x.first ≤ h.first) (take i hs) g low there in
      let some = h.sound.0 in
      elim (apart_numbers g (run_of_held h) (each_run (λ r. runs_apart r (run_of_held h)) hs g apart (subst (IsIn g) whole (in_left (take i hs) (drop i hs) g there)))) [ inl before ↦ before | inr behind ↦ absurd (omega arith) ]))
      (all_from_in (λ g. h.first + h.pages ≤ g.first) (drop i hs) (λ g there.
      let at : h.first < g.first = all_in (λ x. h.first < x.first) (drop i hs) g high there in
      elim (apart_numbers g (run_of_held h) (each_run (λ r. runs_apart r (run_of_held h)) hs g apart (subst (IsIn g) whole (in_right (take i hs) (drop i hs) g there)))) [ inl before ↦ absurd (omega arith) | inr behind ↦ behind ]))

  pub runs_inserted : map run_of_held (insert hs i h) ≡ add_run (run_of_held h) (map run_of_held hs)
  runs_inserted = runs_put (take i hs) (drop i hs) h low high ∙ ap (λ xs. add_run (run_of_held h) (map run_of_held xs)) whole

  pub live_inserted : live_of_held h ≡ [] → live_in_runs (insert hs i h) ≡ live_in_runs hs
  live_inserted none = live_put (take i hs) (drop i hs) h none ∙ ap live_in_runs whole

-- the live blocks of runs that are apart from a run are so from its bytes
pub live_apart : (hs : List Held) (r : Run) → list_all (λ t. runs_apart t r) (map run_of_held hs) ≡ true → list_all (λ b. blocks_apart b (bytes_of r)) (live_in_runs hs) ≡ true
live_apart hs r apart = all_from (λ b. blocks_apart b (bytes_of r)) (live_in_runs hs) (λ b there.
    let g = in_some_run hs b there in
    let lies = lies_there g.0 b g.2 in
    let from = lies.0 in
    let to = lies.1 in
    elim (apart_numbers g.0 r (each_run (λ t. runs_apart t r) hs g.0 apart g.1)) [
      | inl before ↦ or_left (nat_le (block_end b) (r.first * PAGE)) (nat_le (r.first * PAGE + r.pages * PAGE) b.first) (le-leb (block_end b) (r.first * PAGE) (omega arith))
      | inr behind ↦ or_right (nat_le (block_end b) (r.first * PAGE)) (nat_le (r.first * PAGE + r.pages * PAGE) b.first) (le-leb (r.first * PAGE + r.pages * PAGE) b.first (omega arith))
    ])
