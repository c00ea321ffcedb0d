-- The live blocks of a place, as those of one of its runs change.
use Rattle.std.proofs.Common.{◌≡◌, ℕ, ◌+◌, ◌*◌, ◌<◌, ◌≤◌, ◌⊎◌, true, not, List, [], ◌∷◌, ◌++◌, length, get_or, zero, suc, refl, sym, subst, ap, ◌∙◌, inl, inr, arith}
use Rattle.std.specs.Prelude.{◌||◌, ◌==◌, nat_le, map, fold, sum_by, slice_set}
use Rattle.std.specs.List.{All, list_any, list_all}
use Rattle.std.proofs.lemmas.Bool.{and_parts, and_from, or_cases, or_left, or_right, cases_Bool, leb-true}
use Rattle.std.proofs.lemmas.List.Elements.{All-nil, All-cons, All-head, All-tail}
use Rattle.std.proofs.lemmas.List.Sums.{sum_by-cons}
use Rattle.mz_base.specs.declared.range.TheConstants.{PAGE}
use Rattle.mz_base.specs.Space.{Block, Run, block_at, block_end, blocks_apart, bytes_of, same_block}
use Rattle.mz_base.specs.Lists.{has_block, add_block, drop_block, size_sum}
use Rattle.mz_base.specs.Room.{lies_in}
use Rattle.mz_holding.specs.declared.held.Held.{Held}
use Rattle.mz_holding.specs.Gaps.{far}
use Rattle.mz_holding.specs.HeldRuns.{run_of_held, live_of_held, live_in_runs, AreRunsInOrder}
use Rattle.mz_holding.proofs.InOrder.{IsIn, all_in, any_in}
use Rattle.mz_holding.proofs.GapLemmas.{same_is, same_self, bool_same, all_has, all_from_has}
use Rattle.mz_holding.proofs.NeighbourLemmas.{Apart, spread_add, spread_filter, spread_bytes}
use Rattle.mz_holding.proofs.SpreadLemmas.{same_spread, spread_fold, has_add, has_filter, has_fold}
use Rattle.mz_holding.proofs.PartLemmas.{IsOutside, all_at}
use Rattle.mz_holding.proofs.RunLemmas.{in_some_run, in_run, part_of_run, lies_there, live_spread, any_map}
use Rattle.mz_holding.proofs.ChangeLemmas.{spread_resized}

-- runs in order, as runs
abbrev RunsInOrder : List Run → Type 0
RunsInOrder [] = Unit {0}
RunsInOrder (r ∷ rs) = All (λ t. r.first + r.pages ≤ t.first) rs × RunsInOrder rs

to_all : (m : ℕ) (hs : List Held) → All (λ g. m ≤ g.first) hs → All (λ (t : Run). m ≤ t.first) (map run_of_held hs)
to_all m [] h = All-nil (λ (t : Run). m ≤ t.first)
to_all m (x ∷ hs) h = All-cons (λ (t : Run). m ≤ t.first) (run_of_held x) (map run_of_held hs) (All-head (λ g. m ≤ g.first) x hs h) (to_all m hs (All-tail (λ g. m ≤ g.first) x hs h))

of_all : (m : ℕ) (hs : List Held) → All (λ (t : Run). m ≤ t.first) (map run_of_held hs) → All (λ g. m ≤ g.first) hs
of_all m [] h = All-nil (λ (g : Held). m ≤ g.first)
of_all m (x ∷ hs) h = All-cons (λ (g : Held). m ≤ g.first) x hs (All-head (λ (t : Run). m ≤ t.first) (run_of_held x) (map run_of_held hs) h) (of_all m hs (All-tail (λ (t : Run). m ≤ t.first) (run_of_held x) (map run_of_held hs) h))

to_runs : (hs : List Held) → AreRunsInOrder hs → RunsInOrder (map run_of_held hs)
to_runs [] order = tt
to_runs (x ∷ hs) order = (to_all (x.first + x.pages) hs order.0, to_runs hs order.1)

of_runs : (hs : List Held) → RunsInOrder (map run_of_held hs) → AreRunsInOrder hs
of_runs [] order = tt
of_runs (x ∷ hs) order = (of_all (x.first + x.pages) hs order.0, of_runs hs order.1)

-- the same runs are in order too
pub order_of_same : (hs gs : List Held) → map run_of_held gs ≡ map run_of_held hs → AreRunsInOrder hs → AreRunsInOrder gs
order_of_same hs gs same order = of_runs gs (subst RunsInOrder (sym same) (to_runs hs order))

pub runs_of_set : (hs : List Held) (i : ℕ) (h g : Held) → i < length hs → h ≡ get_or hs i h → run_of_held g ≡ run_of_held h → map run_of_held (slice_set hs i g) ≡ map run_of_held hs
runs_of_set [] i h g below is same = absurd (omega arith)
runs_of_set (x ∷ hs) zero h g below is same = ap (λ r. r ∷ map run_of_held hs) (same ∙ ap run_of_held is)
runs_of_set (x ∷ hs) (suc i) h g below is same = ap (λ rs. run_of_held x ∷ rs) (runs_of_set hs i h g (omega arith) is same)

pub used_of_set : (hs : List Held) (i : ℕ) (h g : Held) → i < length hs → h ≡ get_or hs i h → sum_by (λ x. x.used) (slice_set hs i g) + h.used ≡ sum_by (λ x. x.used) hs + g.used
used_of_set [] i h g below is = absurd (omega arith)
used_of_set (x ∷ hs) zero h g below is =
    let one = sum_by-cons (λ (y : Held). y.used) g hs in
    let two = sum_by-cons (λ (y : Held). y.used) x hs in
    let same : h.used ≡ x.used = ap (λ (y : Held). y.used) is in
    omega arith
used_of_set (x ∷ hs) (suc i) h g below is =
    let one = sum_by-cons (λ (y : Held). y.used) x (slice_set hs i g) in
    let two = sum_by-cons (λ (y : Held). y.used) x hs in
    let rest = used_of_set hs i h g (omega arith) is in
    omega arith

pub live_of_set : (hs : List Held) (i : ℕ) (h g : Held) → i < length hs → h ≡ get_or hs i h → live_of_held g ≡ live_of_held h → live_in_runs (slice_set hs i g) ≡ live_in_runs hs
live_of_set [] i h g below is same = absurd (omega arith)
live_of_set (x ∷ hs) zero h g below is same = ap (λ bs. bs ++ live_in_runs hs) (same ∙ ap live_of_held is)
live_of_set (x ∷ hs) (suc i) h g below is same = ap (λ bs. live_of_held x ++ bs) (live_of_set hs i h g (omega arith) is same)

-- bytes of a run end below the greatest number
pub fits_run : (h : Held) (a n : ℕ) → lies_in (run_of_held h) a (a + n) ≡ true → a + n ≤ far
fits_run h a n lies =
    let to = leb-true (a + n) ((h.first + h.pages) * PAGE) (and_parts (nat_le (h.first * PAGE) a) (nat_le (a + n) ((h.first + h.pages) * PAGE)) lies).1 in
    let limit = h.sound.1 in
    omega arith

-- apart as runs
abbrev pub RunsBeside : Held → Held → Type 0
RunsBeside g h = (g.first + g.pages ≤ h.first) ⊎ (h.first + h.pages ≤ g.first)

pub got_in : (hs : List Held) (i : ℕ) (h : Held) → i < length hs → h ≡ get_or hs i h → IsIn h hs
got_in [] i h below is = absurd (omega arith)
got_in (x ∷ hs) zero h below is = inl is
got_in (x ∷ hs) (suc i) h below is = inr (got_in hs i h (omega arith) is)

-- what stands in the list once one is put in the place of another
pub set_there : (hs : List Held) (i : ℕ) (g : Held) → i < length hs → IsIn g (slice_set hs i g)
set_there [] i g below = absurd (omega arith)
set_there (x ∷ hs) zero g below = inl refl
set_there (x ∷ hs) (suc i) g below = inr (set_there hs i g (omega arith))

pub set_kept : (hs : List Held) (i : ℕ) (h g x : Held) → i < length hs → h ≡ get_or hs i h → IsIn x hs → (x ≡ h) ⊎ IsIn x (slice_set hs i g)
set_kept [] i h g x below is there = absurd there
set_kept (y ∷ hs) zero h g x below is (inl same) = inl (same ∙ sym is)
set_kept (y ∷ hs) zero h g x below is (inr later) = inr (inr later)
set_kept (y ∷ hs) (suc i) h g x below is (inl same) = inr (inl same)
set_kept (y ∷ hs) (suc i) h g x below is (inr later) = elim (set_kept hs i h g x (omega arith) is later) [ inl same ↦ inl same | inr rest ↦ inr (inr rest) ]

pub set_others : (hs : List Held) (i : ℕ) (h g x : Held) → AreRunsInOrder hs → i < length hs → h ≡ get_or hs i h → IsIn x (slice_set hs i g) → (x ≡ g) ⊎ (IsIn x hs × RunsBeside x h)
set_others [] i h g x order below is there = absurd (omega arith)
set_others (y ∷ hs) zero h g x order below is (inl same) = inl same
set_others (y ∷ hs) zero h g x order below is (inr later) = inr (inr later, inr (subst (λ (z : Held). z.first + z.pages ≤ x.first) (sym is) (all_in (λ z. y.first + y.pages ≤ z.first) hs x order.0 later)))
set_others (y ∷ hs) (suc i) h g x order below is (inl same) = inr (inl same, inl (subst (λ (z : Held). z.first + z.pages ≤ h.first) (sym same) (all_in (λ z. y.first + y.pages ≤ z.first) hs h order.0 (got_in hs i h (omega arith) is))))
set_others (y ∷ hs) (suc i) h g x order below is (inr later) = elim (set_others hs i h g x order.1 (omega arith) is later) [ inl same ↦ inl same | inr rest ↦ inr (inr rest.0, rest.1) ]

module _ (hs : List Held) (i : ℕ) (h g : Held) (order : AreRunsInOrder hs) (below : i < length hs) (is : h ≡ get_or hs i h) (same : run_of_held g ≡ run_of_held h) where
  abbrev big : List Block
  big = live_in_runs hs

  abbrev new : List Block
  new = live_in_runs (slice_set hs i g)

  isin : IsIn h hs
  isin = got_in hs i h below is

  abbrev Outside : Block → Type 0
  Outside c = IsOutside (h.first * PAGE) ((h.first + h.pages) * PAGE) c

  order_new : AreRunsInOrder (slice_set hs i g)
  order_new = order_of_same hs (slice_set hs i g) (runs_of_set hs i h g below is same) order

  new_own : (c : Block) → has_block new c ≡ true → (has_block (live_of_held g) c ≡ true) ⊎ ((has_block big c ≡ true) × Outside c)
  new_own c there =
      let x = in_some_run (slice_set hs i g) c there in
      let lies = lies_there x.0 c x.2 in
      let from = lies.0 in
      let to = lies.1 in
      elim (set_others hs i h g x.0 order below is x.1) [
        | inl here ↦ inl (subst (λ z. has_block (live_of_held z) c ≡ true) here x.2)
        | inr other ↦ inr (in_run hs x.0 c other.0 x.2, elim other.1 [ inl before ↦ inl (omega arith) | inr behind ↦ inr (omega arith) ])
      ]

  own_new : (c : Block) → has_block (live_of_held g) c ≡ true → has_block new c ≡ true
  own_new c there = in_run (slice_set hs i g) g c (set_there hs i g below) there

  out_new : (c : Block) → has_block big c ≡ true → Outside c → has_block new c ≡ true
  out_new c there out =
      let x = in_some_run hs c there in
      let one : 1 ≤ c.size = all_has (λ b. 1 ≤ b.size) big c (spread_bytes big (live_spread hs order)) there in
      elim (set_kept hs i h g x.0 below is x.1) [
        | inr rest ↦ in_run (slice_set hs i g) x.0 c rest x.2
        | inl mine ↦
            let lies = lies_there h c (subst (λ z. has_block (live_of_held z) c ≡ true) mine x.2) in
            let from = lies.0 in
            let to = lies.1 in
            absurd (elim out [ inl before ↦ omega arith | inr behind ↦ omega arith ])
      ]

  old_own : (c : Block) → has_block big c ≡ true → (has_block (live_of_held h) c ≡ true) ⊎ Outside c
  old_own c there = (part_of_run hs h order isin).back c there

  inside : (c : Block) → has_block (live_of_held h) c ≡ true → has_block big c ≡ true
  inside c there = in_run hs h c isin there

  -- ADD: where one run gains a block, the place does
  pub live_added : (b : Block) → live_of_held g ≡ add_block b (live_of_held h) → 1 ≤ b.size → block_end b ≤ far → Apart big b → new ≡ add_block b big
  live_added b gained some fits apart = same_spread new (add_block b big) (live_spread (slice_set hs i g) order_new) (spread_add b big some fits apart (live_spread hs order)) (λ c.
      bool_same (has_block new c) (has_block (add_block b big) c)
      (λ there. has_add b big c ∙ elim (new_own c there) [
        | inl mine ↦ elim (or_cases (same_block c b) (has_block (live_of_held h) c) (sym (has_add b (live_of_held h) c) ∙ ap (λ bs. has_block bs c) (sym gained) ∙ mine)) [
          | inl here ↦ or_left (same_block c b) (has_block big c) here
          | inr old ↦ or_right (same_block c b) (has_block big c) (inside c old)
        ]
        | inr other ↦ or_right (same_block c b) (has_block big c) other.0
      ])
      (λ there. elim (or_cases (same_block c b) (has_block big c) (sym (has_add b big c) ∙ there)) [
        | inl here ↦ own_new c (ap (λ bs. has_block bs c) gained ∙ has_add b (live_of_held h) c ∙ or_left (same_block c b) (has_block (live_of_held h) c) here)
        | inr old ↦ elim (old_own c old) [
          | inl mine ↦ own_new c (ap (λ bs. has_block bs c) gained ∙ has_add b (live_of_held h) c ∙ or_right (same_block c b) (has_block (live_of_held h) c) mine)
          | inr out ↦ out_new c old out
        ]
      ]))

  -- DROP: where one run loses a block of its own, the place does
  pub live_dropped : (b : Block) → live_of_held g ≡ drop_block b (live_of_held h) → has_block (live_of_held h) b ≡ true → new ≡ drop_block b big
  live_dropped b lost there_b =
      let test = λ (c : Block). not (same_block b c) in
      same_spread new (drop_block b big) (live_spread (slice_set hs i g) order_new) (spread_filter test big (live_spread hs order)) (λ c.
      bool_same (has_block new c) (has_block (drop_block b big) c)
      (λ there. has_filter test big c ∙ elim (new_own c there) [
        | inl mine ↦ let parts = and_parts (has_block (live_of_held h) c) (test c) (sym (has_filter test (live_of_held h) c) ∙ ap (λ bs. has_block bs c) (sym lost) ∙ mine) in and_from (has_block big c) (test c) (inside c parts.0) parts.1
        | inr other ↦ and_from (has_block big c) (test c) other.0 (elim (cases_Bool (same_block b c)) [
          | inr no_ ↦ ap not no_
          | inl yes_ ↦ absurd (none_outside c (subst (λ d. has_block (live_of_held h) d ≡ true) (same_is b c yes_) there_b) other.1)
        ])
      ])
      (λ there.
      let parts = and_parts (has_block big c) (test c) (sym (has_filter test big c) ∙ there) in
      elim (old_own c parts.0) [
        | inl mine ↦ own_new c (ap (λ bs. has_block bs c) lost ∙ has_filter test (live_of_held h) c ∙ and_from (has_block (live_of_held h) c) (test c) mine parts.1)
        | inr out ↦ out_new c parts.0 out
      ]))
    where
      none_outside : (c : Block) → has_block (live_of_held h) c ≡ true → Outside c → ⊥
      none_outside c mine out =
          let lies = lies_there h c mine in
          let from = lies.0 in
          let to = lies.1 in
          let one : 1 ≤ c.size = all_has (λ b. 1 ≤ b.size) (live_of_held h) c (spread_bytes (live_of_held h) h.blocks.spread) mine in
          elim out [ inl before ↦ omega arith | inr behind ↦ omega arith ]

  -- RESIZE: where one run gives a block of its own another size, the place does
  pub live_resized : (a n m : ℕ) → live_of_held g ≡ add_block (block_at a m) (drop_block (block_at a n) (live_of_held h)) → 1 ≤ m → a + m ≤ far → has_block (live_of_held h) (block_at a n) ≡ true → list_all (λ c. (c.first == a) || blocks_apart c (block_at a m)) big ≡ true → new ≡ add_block (block_at a m) (drop_block (block_at a n) big)
  live_resized a n m changed some fits there_b apart =
      let test = λ (c : Block). not (same_block (block_at a n) c) in
      same_spread new (add_block (block_at a m) (drop_block (block_at a n) big)) (live_spread (slice_set hs i g) order_new) (spread_resized big a n m (live_spread hs order) some fits (inside (block_at a n) there_b) apart) (λ c.
      bool_same (has_block new c) (has_block (add_block (block_at a m) (drop_block (block_at a n) big)) c)
      (λ there. has_add (block_at a m) (drop_block (block_at a n) big) c ∙ elim (new_own c there) [
        | inl mine ↦ elim (or_cases (same_block c (block_at a m)) (has_block (drop_block (block_at a n) (live_of_held h)) c) (sym (has_add (block_at a m) (drop_block (block_at a n) (live_of_held h)) c) ∙ ap (λ bs. has_block bs c) (sym changed) ∙ mine)) [
          | inl here ↦ or_left (same_block c (block_at a m)) (has_block (drop_block (block_at a n) big) c) here
          | inr old ↦
              let parts = and_parts (has_block (live_of_held h) c) (test c) (sym (has_filter test (live_of_held h) c) ∙ old) in
              or_right (same_block c (block_at a m)) (has_block (drop_block (block_at a n) big) c) (has_filter test big c ∙ and_from (has_block big c) (test c) (inside c parts.0) parts.1)
        ]
        | inr other ↦ or_right (same_block c (block_at a m)) (has_block (drop_block (block_at a n) big) c) (has_filter test big c ∙ and_from (has_block big c) (test c) other.0 (elim (cases_Bool (same_block (block_at a n) c)) [
          | inr no_ ↦ ap not no_
          | inl yes_ ↦ absurd (none_outside c (subst (λ d. has_block (live_of_held h) d ≡ true) (same_is (block_at a n) c yes_) there_b) other.1)
        ]))
      ])
      (λ there. elim (or_cases (same_block c (block_at a m)) (has_block (drop_block (block_at a n) big) c) (sym (has_add (block_at a m) (drop_block (block_at a n) big) c) ∙ there)) [
        | inl here ↦ own_new c (ap (λ bs. has_block bs c) changed ∙ has_add (block_at a m) (drop_block (block_at a n) (live_of_held h)) c ∙ or_left (same_block c (block_at a m)) (has_block (drop_block (block_at a n) (live_of_held h)) c) here)
        | inr old ↦
            let parts = and_parts (has_block big c) (test c) (sym (has_filter test big c) ∙ old) in
            elim (old_own c parts.0) [
              | inl mine ↦ own_new c (ap (λ bs. has_block bs c) changed ∙ has_add (block_at a m) (drop_block (block_at a n) (live_of_held h)) c ∙ or_right (same_block c (block_at a m)) (has_block (drop_block (block_at a n) (live_of_held h)) c) (has_filter test (live_of_held h) c ∙ and_from (has_block (live_of_held h) c) (test c) mine parts.1))
              | inr out ↦ out_new c parts.0 out
            ]
      ]))
    where
      none_outside : (c : Block) → has_block (live_of_held h) c ≡ true → Outside c → ⊥
      none_outside c mine out =
          let lies = lies_there h c mine in
          let from = lies.0 in
          let to = lies.1 in
          let one : 1 ≤ c.size = all_has (λ b. 1 ≤ b.size) (live_of_held h) c (spread_bytes (live_of_held h) h.blocks.spread) mine in
          elim out [ inl before ↦ omega arith | inr behind ↦ omega arith ]

  -- FILL: where a run that has none gets blocks, the place gets them, one after another
  module _ (unused : list_all (λ b. blocks_apart b (bytes_of (run_of_held g))) (live_in_runs hs) ≡ true) where
    outside : (c : Block) → has_block big c ≡ true → (block_end c ≤ g.first * PAGE) ⊎ ((g.first + g.pages) * PAGE ≤ c.first)
    outside c there = elim (or_cases (nat_le (block_end c) (g.first * PAGE)) (nat_le (g.first * PAGE + g.pages * PAGE) c.first) (all_at (λ b. blocks_apart b (bytes_of (run_of_held g))) big c unused there)) [
      | inl before ↦ inl (leb-true (block_end c) (g.first * PAGE) before)
      | inr behind ↦ let more = leb-true (g.first * PAGE + g.pages * PAGE) c.first behind in inr (omega arith)
    ]

    outside_old : (c : Block) → has_block big c ≡ true → Outside c
    outside_old c there = subst (λ (r : Run). (block_end c ≤ r.first * PAGE) ⊎ ((r.first + r.pages) * PAGE ≤ c.first)) same (outside c there)

    beside_it : (m : Block) → has_block (live_of_held g) m ≡ true → All (λ c. (block_end c ≤ m.first) ⊎ (block_end m ≤ c.first)) big
    beside_it m mine =
        let lies = lies_there g m mine in
        let from = lies.0 in
        let to = lies.1 in
        all_from_has (λ c. (block_end c ≤ m.first) ⊎ (block_end m ≤ c.first)) big (λ c there. elim (outside c there) [ inl before ↦ inl (omega arith) | inr behind ↦ inr (omega arith) ])

    pub live_filled : new ≡ fold (λ bs b. add_block b bs) big (live_of_held g)
    live_filled = same_spread new (fold (λ bs b. add_block b bs) big (live_of_held g)) (live_spread (slice_set hs i g) order_new) (spread_fold (live_of_held g) big g.blocks.spread (live_spread hs order) beside_it) (λ c.
        bool_same (has_block new c) (has_block (fold (λ bs b. add_block b bs) big (live_of_held g)) c)
        (λ there. has_fold (live_of_held g) big c ∙ elim (new_own c there) [
          | inl mine ↦ or_left (has_block (live_of_held g) c) (has_block big c) mine
          | inr other ↦ or_right (has_block (live_of_held g) c) (has_block big c) other.0
        ])
        (λ there. elim (or_cases (has_block (live_of_held g) c) (has_block big c) (sym (has_fold (live_of_held g) big c) ∙ there)) [
          | inl mine ↦ own_new c mine
          | inr old ↦ out_new c old (outside_old c old)
        ]))

    none_own : (c : Block) → has_block (live_of_held h) c ≡ true → ⊥
    none_own c mine =
        let lies = lies_there h c mine in
        let from = lies.0 in
        let to = lies.1 in
        let one : 1 ≤ c.size = all_has (λ b. 1 ≤ b.size) (live_of_held h) c (spread_bytes (live_of_held h) h.blocks.spread) mine in
        elim (outside_old c (inside c mine)) [ inl before ↦ omega arith | inr behind ↦ omega arith ]

    pub used_filled : sum_by (λ x. x.used) (slice_set hs i g) ≡ sum_by (λ x. x.used) hs + g.used
    used_filled =
        let none : h.used ≡ 0 = h.sound.3 ∙ empty_sum (live_of_held h) none_own in
        let all = used_of_set hs i h g below is in
        omega arith
      where
        empty_sum : (bs : List Block) → ((c : Block) → has_block bs c ≡ true → ⊥) → size_sum bs ≡ 0
        empty_sum [] none = refl
        empty_sum (b ∷ bs) none = absurd (none b (or_left (same_block b b) (has_block bs b) (same_self b)))

-- bytes that lie in one of the runs end below the greatest number
pub lies_far : (hs : List Held) (a n : ℕ) → list_any (λ r. lies_in r a (a + n)) (map run_of_held hs) ≡ true → a + n ≤ far
lies_far hs a n lies = let g = any_in (λ x. lies_in (run_of_held x) a (a + n)) hs (sym (any_map (λ r. lies_in r a (a + n)) hs) ∙ lies) in fits_run g.0 a n g.2
