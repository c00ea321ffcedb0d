-- A run that leaves others in order, with the blocks in it.
use Rattle.std.proofs.Common.{append_assoc, append-nil, ◌≡◌, ℕ, ◌+◌, ◌*◌, ◌<◌, ◌≤◌, ◌⊎◌, true, false, cond, not, List, [], ◌∷◌, ◌++◌, length, take, drop, get_or, zero, suc, refl, sym, subst, ap, ◌∙◌, inl, inr, arith}
use Rattle.std.specs.Prelude.{◌==◌, nat_le, map, filter, sum_by, slice_set, Some, None}
use Rattle.std.specs.List.{All}
use Rattle.std.proofs.lemmas.Bool.{false≢true, and_parts, and_from, and_left, or_cases, or_left, or_right, leb-true, le-leb, eq-eqb, ne_eqb}
use Rattle.std.proofs.lemmas.List.Elements.{All-head, All-tail, All-weaker}
use Rattle.std.proofs.lemmas.List.Sums.{sum_by-cons, sum_by-append}
use Rattle.mz_base.specs.declared.range.TheConstants.{PAGE}
use Rattle.mz_base.specs.Space.{Block, Run, block_end, run_at, blocks_apart, bytes_of, same_run}
use Rattle.mz_base.specs.Lists.{has_block, has_run, drop_run}
use Rattle.mz_events.specs.Changes.{region_at}
use Rattle.mz_holding.specs.declared.held.Held.{Held}
use Rattle.mz_holding.specs.HeldRuns.{run_of_held, live_of_held, live_in_runs, AreRunsInOrder, HasPage}
use Rattle.mz_holding.proofs.InOrder.{IsIn, all_in, all_from_in, any_in}
use Rattle.mz_holding.proofs.GapLemmas.{all_has, bool_same, same_run_is}
use Rattle.mz_holding.proofs.NeighbourLemmas.{spread_bytes, spread_filter}
use Rattle.mz_holding.proofs.SpreadLemmas.{same_spread, has_filter}
use Rattle.mz_holding.proofs.RunLemmas.{contains_in, lies_there, in_some_run, in_run, live_spread, any_map}
use Rattle.mz_holding.proofs.QueryLemmas.{run_here, run_nowhere, region_is}
use Rattle.mz_holding.proofs.SwapLemmas.{RunsBeside, got_in, runs_of_set, live_of_set, used_of_set}

-- the others
abbrev pub others : List Held → ℕ → List Held
others hs i = take i hs ++ drop (suc i) hs

in_others : (hs : List Held) (i : ℕ) (x : Held) → IsIn x (others hs i) → IsIn x hs
in_others [] zero x there = absurd there
in_others [] (suc i) x there = absurd there
in_others (y ∷ hs) zero x there = inr there
in_others (y ∷ hs) (suc i) x (inl same) = inl same
in_others (y ∷ hs) (suc i) x (inr later) = inr (in_others hs i x later)

others_kept : (hs : List Held) (i : ℕ) (h x : Held) → i < length hs → h ≡ get_or hs i h → IsIn x hs → (x ≡ h) ⊎ IsIn x (others hs i)
others_kept [] i h x below is there = absurd there
others_kept (y ∷ hs) zero h x below is (inl same) = inl (same ∙ sym is)
others_kept (y ∷ hs) zero h x below is (inr later) = inr later
others_kept (y ∷ hs) (suc i) h x below is (inl same) = inr (inl same)
others_kept (y ∷ hs) (suc i) h x below is (inr later) = elim (others_kept hs i h x (omega arith) is later) [ inl same ↦ inl same | inr rest ↦ inr (inr rest) ]

others_beside : (hs : List Held) (i : ℕ) (h x : Held) → AreRunsInOrder hs → i < length hs → h ≡ get_or hs i h → IsIn x (others hs i) → RunsBeside x h
others_beside [] i h x order below is there = absurd (omega arith)
others_beside (y ∷ hs) zero h x order below is there = inr (subst (λ (z : Held). z.first + z.pages ≤ x.first) (sym is) (all_in (λ z. y.first + y.pages ≤ z.first) hs x order.0 there))
others_beside (y ∷ hs) (suc i) h x order below is (inl same) = inl (subst (λ (z : Held). z.first + z.pages ≤ h.first) (sym same) (all_in (λ z. y.first + y.pages ≤ z.first) hs h order.0 (got_in hs i h (omega arith) is)))
others_beside (y ∷ hs) (suc i) h x order below is (inr later) = others_beside hs i h x order.1 (omega arith) is later

-- they are in order
pub order_others : (hs : List Held) (i : ℕ) → AreRunsInOrder hs → AreRunsInOrder (others hs i)
order_others [] zero order = tt
order_others [] (suc i) order = tt
order_others (y ∷ hs) zero order = order.1
order_others (y ∷ hs) (suc i) order = (all_from_in (λ g. y.first + y.pages ≤ g.first) (others hs i) (λ g there. all_in (λ z. y.first + y.pages ≤ z.first) hs g order.0 (in_others hs i g there)), order_others hs i order.1)

pub used_others : (hs : List Held) (i : ℕ) (h : Held) → i < length hs → h ≡ get_or hs i h → sum_by (λ x. x.used) (others hs i) + h.used ≡ sum_by (λ x. x.used) hs
used_others [] i h below is = absurd (omega arith)
used_others (y ∷ hs) zero h below is =
    let split = sum_by-cons (λ (x : Held). x.used) y hs in
    let same : h.used ≡ y.used = ap (λ (x : Held). x.used) is in
    omega arith
used_others (y ∷ hs) (suc i) h below is =
    let one = sum_by-cons (λ (x : Held). x.used) y (others hs i) in
    let two = sum_by-cons (λ (x : Held). x.used) y hs in
    let rest = used_others hs i h (omega arith) is in
    omega arith

none_same : (r : Run) (hs : List Held) → All (λ g. r.first < g.first) hs → drop_run r (map run_of_held hs) ≡ map run_of_held hs
none_same r [] more = refl
none_same r (x ∷ hs) more =
    let up : r.first < x.first = All-head (λ g. r.first < g.first) x hs more in
    let other : same_run r (run_of_held x) ≡ false = and_left (r.first == x.first) (r.pages == x.pages) (ne_eqb r.first x.first (λ same. omega arith)) in
    ap (λ t. cond (not t) (run_of_held x ∷ drop_run r (map run_of_held hs)) (drop_run r (map run_of_held hs))) other
    ∙ ap (λ rs. run_of_held x ∷ rs) (none_same r hs (All-tail (λ g. r.first < g.first) x hs more))

pub runs_others : (hs : List Held) (i : ℕ) (h : Held) → AreRunsInOrder hs → i < length hs → h ≡ get_or hs i h → map run_of_held (others hs i) ≡ drop_run (run_of_held h) (map run_of_held hs)
runs_others [] i h order below is = absurd (omega arith)
runs_others (y ∷ hs) zero h order below is =
    let some = y.sound.0 in
    let here : same_run (run_of_held y) (run_of_held y) ≡ true = and_from (y.first == y.first) (y.pages == y.pages) (eq-eqb y.first y.first refl) (eq-eqb y.pages y.pages refl) in
    let kept = none_same (run_of_held y) hs (All-weaker (λ g. y.first + y.pages ≤ g.first) (λ g. y.first < g.first) (λ g k. let m : y.first + y.pages ≤ g.first = k in omega arith) hs order.0) in
    sym (ap (λ (z : Held). drop_run (run_of_held z) (map run_of_held (y ∷ hs))) is
    ∙ ap (λ t. cond (not t) (run_of_held y ∷ drop_run (run_of_held y) (map run_of_held hs)) (drop_run (run_of_held y) (map run_of_held hs))) here
    ∙ kept)
runs_others (y ∷ hs) (suc i) h order below is =
    let up : y.first + y.pages ≤ h.first = all_in (λ g. y.first + y.pages ≤ g.first) hs h order.0 (got_in hs i h (omega arith) is) in
    let some = y.sound.0 in
    let other : same_run (run_of_held h) (run_of_held y) ≡ false = and_left (h.first == y.first) (h.pages == y.pages) (ne_eqb h.first y.first (λ same. omega arith)) in
    ap (λ rs. run_of_held y ∷ rs) (runs_others hs i h order.1 (omega arith) is)
    ∙ sym (ap (λ t. cond (not t) (run_of_held y ∷ drop_run (run_of_held h) (map run_of_held hs)) (drop_run (run_of_held h) (map run_of_held hs))) other)

-- LEFT: the blocks that are left are those apart from its bytes
pub live_others : (hs : List Held) (i : ℕ) (h : Held) → AreRunsInOrder hs → i < length hs → h ≡ get_or hs i h → live_in_runs (others hs i) ≡ filter (λ b. blocks_apart b (bytes_of (run_of_held h))) (live_in_runs hs)
live_others hs i h order below is =
    let test = λ (b : Block). blocks_apart b (bytes_of (run_of_held h)) in
    same_spread (live_in_runs (others hs i)) (filter test (live_in_runs hs)) (live_spread (others hs i) (order_others hs i order)) (spread_filter test (live_in_runs hs) (live_spread hs order)) (λ c.
    bool_same (has_block (live_in_runs (others hs i)) c) (has_block (filter test (live_in_runs hs)) c)
    (λ there.
    let x = in_some_run (others hs i) c there in
    let lies = lies_there x.0 c x.2 in
    let from = lies.0 in
    let to = lies.1 in
    has_filter test (live_in_runs hs) c ∙ and_from (has_block (live_in_runs hs) c) (test c) (in_run hs x.0 c (in_others hs i x.0 x.1) x.2) (elim (others_beside hs i h x.0 order below is x.1) [
      | inl before ↦ or_left (nat_le (block_end c) (h.first * PAGE)) (nat_le (h.first * PAGE + h.pages * PAGE) c.first) (le-leb (block_end c) (h.first * PAGE) (omega arith))
      | inr behind ↦ or_right (nat_le (block_end c) (h.first * PAGE)) (nat_le (h.first * PAGE + h.pages * PAGE) c.first) (le-leb (h.first * PAGE + h.pages * PAGE) c.first (omega arith))
    ]))
    (λ there.
    let parts = and_parts (has_block (live_in_runs hs) c) (test c) (sym (has_filter test (live_in_runs hs) c) ∙ there) in
    let x = in_some_run hs c parts.0 in
    let one : 1 ≤ c.size = all_has (λ b. 1 ≤ b.size) (live_in_runs hs) c (spread_bytes (live_in_runs hs) (live_spread hs order)) parts.0 in
    elim (others_kept hs i h x.0 below is x.1) [
      | inr rest ↦ in_run (others hs i) x.0 c rest x.2
      | inl mine ↦
          let lies = lies_there h c (subst (λ (z : Held). has_block (live_of_held z) c ≡ true) mine x.2) in
          let from = lies.0 in
          let to = lies.1 in
          absurd (elim (or_cases (nat_le (block_end c) (h.first * PAGE)) (nat_le (h.first * PAGE + h.pages * PAGE) c.first) parts.1) [
            | inl before ↦ let low = leb-true (block_end c) (h.first * PAGE) before in omega arith
            | inr behind ↦ let high = leb-true (h.first * PAGE + h.pages * PAGE) c.first behind in omega arith
          ])
    ]))

-- these runs and the rest are the same as all, so far as a copy goes
pub record IsCopy (xs rest hs : List Held) : Type 0 where
  pub runs : map run_of_held xs ++ map run_of_held rest ≡ map run_of_held hs
  pub live : live_in_runs xs ++ live_in_runs rest ≡ live_in_runs hs
  pub used : sum_by (λ h. h.used) xs + sum_by (λ h. h.used) rest ≡ sum_by (λ h. h.used) hs

runs_more : (xs : List Held) (h : Held) (rest : List Held) → map run_of_held (xs ++ h ∷ []) ++ map run_of_held rest ≡ map run_of_held xs ++ run_of_held h ∷ map run_of_held rest
runs_more [] h rest = refl
runs_more (x ∷ xs) h rest = ap (λ rs. run_of_held x ∷ rs) (runs_more xs h rest)

live_more : (xs : List Held) (h : Held) (rest : List Block) → live_in_runs (xs ++ h ∷ []) ++ rest ≡ live_in_runs xs ++ (live_of_held h ++ rest)
live_more [] h rest = ap (λ bs. bs ++ rest) (append-nil (live_of_held h))
live_more (x ∷ xs) h rest = append_assoc (live_of_held x) (live_in_runs (xs ++ h ∷ [])) rest ∙ ap (λ bs. live_of_held x ++ bs) (live_more xs h rest) ∙ sym (append_assoc (live_of_held x) (live_in_runs xs) (live_of_held h ++ rest))

split_at : (hs : List Held) (i : ℕ) (h : Held) → i < length hs → h ≡ get_or hs i h → drop i hs ≡ h ∷ drop (suc i) hs
split_at [] i h below is = absurd (omega arith)
split_at (x ∷ hs) zero h below is = ap (λ y. y ∷ hs) (sym is)
split_at (x ∷ hs) (suc i) h below is = split_at hs i h (omega arith) is

pub copy_more : (xs hs : List Held) (h g : Held) (i : ℕ) → IsCopy xs (drop i hs) hs → i < length hs → h ≡ get_or hs i h → run_of_held g ≡ run_of_held h → live_of_held g ≡ live_of_held h → g.used ≡ h.used → IsCopy (xs ++ g ∷ []) (drop (i + 1) hs) hs
copy_more xs hs h g i copy below at run live used =
    let rest = drop (suc i) hs in
    let is = split_at hs i h below at in
    let sums = sum_by-append (λ (x : Held). x.used) xs (g ∷ []) in
    let one = sum_by-cons (λ (x : Held). x.used) g [] in
    let two = sum_by-cons (λ (x : Held). x.used) h rest in
    let all = copy.used in
    let split = ap (sum_by (λ (x : Held). x.used)) is in
    subst (λ j. IsCopy (xs ++ g ∷ []) (drop j hs) hs) (next i) (record {
      runs = runs_more xs g rest ∙ ap (λ r. map run_of_held xs ++ r ∷ map run_of_held rest) run ∙ ap (λ ys. map run_of_held xs ++ map run_of_held ys) (sym is) ∙ copy.runs;
      live = live_more xs g (live_in_runs rest) ∙ ap (λ bs. live_in_runs xs ++ (bs ++ live_in_runs rest)) live ∙ ap (λ ys. live_in_runs xs ++ live_in_runs ys) (sym is) ∙ copy.live;
      used = omega arith;
    })
  where
    next : (j : ℕ) → suc j ≡ j + 1
    next j = omega arith

-- the run of the others that has a run's first page is that run
pub found_run : (hs : List Held) (h g : Held) (page : ℕ) → page ≡ g.first → AreRunsInOrder hs → HasPage hs page (Some h) → has_run (map run_of_held hs) (run_of_held g) ≡ true → run_of_held g ≡ run_of_held h
found_run hs h g page at order has there =
    let here = subst (λ i. HasPage hs i (Some h)) at has in
    same_run_is (run_of_held g) (run_of_held h) (run_here hs h g.first g.pages order (contains_in hs h here.0) here.1 here.2 ∙ there)

pub some_found : (hs : List Held) (g : Held) (page : ℕ) → page ≡ g.first → has_run (map run_of_held hs) (run_of_held g) ≡ true → HasPage hs page None → ⊥
some_found hs g page at there none = false≢true (run_nowhere hs g.first g.pages (subst (λ i. HasPage hs i None) at none) ∙ there)

-- a run of the others is the one at its first page
pub region_named : (hs : List Held) (first w : ℕ) → AreRunsInOrder hs → has_run (map run_of_held hs) (run_at first w) ≡ true → region_at (map run_of_held hs) first ≡ run_at first w
region_named hs first w order there =
    let g = any_in (λ x. same_run (run_at first w) (run_of_held x)) hs (sym (any_map (same_run (run_at first w)) hs) ∙ there) in
    let same = same_run_is (run_at first w) (run_of_held g.0) g.2 in
    sym (region_is hs g.0 first order g.1 (ap (λ (r : Run). r.first) (sym same))) ∙ sym same

-- other runs that are the same, and have the same blocks
pub record AreSame (gs hs : List Held) : Type 0 where
  pub runs : map run_of_held gs ≡ map run_of_held hs
  pub live : live_in_runs gs ≡ live_in_runs hs
  pub used : sum_by (λ h. h.used) gs ≡ sum_by (λ h. h.used) hs

pub same_all : (hs : List Held) → AreSame hs hs
same_all hs = record { runs = refl; live = refl; used = refl }

pub same_set : (gs hs : List Held) (i : ℕ) (h g : Held) → AreSame gs hs → i < length gs → h ≡ get_or gs i h → run_of_held g ≡ run_of_held h → live_of_held g ≡ live_of_held h → g.used ≡ h.used → AreSame (slice_set gs i g) hs
same_set gs hs i h g same below is run live used =
    let all = used_of_set gs i h g below is in
    let old = same.used in
    record {
      runs = runs_of_set gs i h g below is run ∙ same.runs;
      live = live_of_set gs i h g below is live ∙ same.live;
      used = omega arith;
    }
