-- How long the idle runs of a run are at most, as blocks come, end and change.
use Rattle.std.proofs.Common.{◌≡◌, ℕ, ◌+◌, ◌-◌, ◌*◌, ◌<◌, ◌≤◌, ◌⊎◌, Bool, true, false, not, List, [], ◌∷◌, refl, sym, subst, ap, ◌∙◌, inl, inr, arith}
use Rattle.std.specs.Prelude.{IsTrue, ◌==◌, map, max}
use Rattle.std.specs.List.{All, list_any}
use Rattle.std.proofs.lemmas.Bool.{or_cases, or_left, or_right, and_parts, and_from, false≢true, false_from_ne_true, cases_Bool, cases_lt, eq-eqb, eqb-true}
use Rattle.std.proofs.lemmas.List.Elements.{All-nil, All-cons, All-weaker}
use Rattle.mz_base.specs.declared.range.TheConstants.{PAGE}
use Rattle.mz_base.specs.Space.{Block, Run, block_at, run_at, block_end, run_end, least_multiple, same_block}
use Rattle.mz_base.specs.Lists.{has_block, add_block, drop_block}
use Rattle.mz_base.specs.Room.{lies_in, starts, has_room_from, has_room}
use Rattle.mz_holding.specs.Gaps.{IsGap, AreSpread}
use Rattle.mz_holding.specs.LiveBlocks.{IsIdleBound, IsHeld, page_limit}
use Rattle.mz_holding.proofs.GapLemmas.{multiple-above, same_is, same_self, all_has, all_from_has, ends_pass}
use Rattle.mz_holding.proofs.NeighbourLemmas.{spread_bytes, spread_filter}
use Rattle.mz_holding.proofs.SpreadLemmas.{has_add, has_filter, pairwise}
use Rattle.mz_holding.proofs.WalkLemmas.{room_parts, room_from}

-- the n bytes from x lie in the run and meet none of the blocks
pub record IsIdle (r : Run) (live : List Block) (x n : ℕ) : Type 0 where
  pub from : r.first * PAGE ≤ x
  pub to : x + n ≤ run_end r * PAGE
  pub clear : All (λ c. (block_end c ≤ x) ⊎ (x + n ≤ c.first)) live

-- where there is room for n bytes, n bytes are idle
idle_of_room : (r : Run) (live : List Block) (n al : ℕ) → AreSpread live → 1 ≤ n → 1 ≤ al → has_room r live n al ≡ true → (x : ℕ) × IsIdle r live x n
idle_of_room r live n al spread some whole room = elim (or_cases (has_room_from r live n al (r.first * PAGE)) (list_any (has_room_from r live n al) (map block_end live)) room) [
  | inl here ↦ (r.first * PAGE, idle_from (r.first * PAGE) here)
  | inr later ↦ let c = ends_pass (has_room_from r live n al) live later in (block_end c.0, idle_from (block_end c.0) c.2)
]
  where
    idle_from : (x : ℕ) → has_room_from r live n al x ≡ true → IsIdle r live x n
    idle_from x h =
        let parts = room_parts r live n al some whole spread x h in
        let up = multiple-above al x whole in
        let fits = parts.1 in
        record {
          from = parts.0;
          to = omega arith;
          clear = All-weaker (λ c. (block_end c ≤ x) ⊎ (least_multiple al x + n ≤ c.first)) (λ c. (block_end c ≤ x) ⊎ (x + n ≤ c.first)) (λ c k. elim k [ inl before ↦ inl before | inr behind ↦ inr (omega arith) ]) live parts.2;
        }

-- the last start at or below x
record IsStart (start x : ℕ) (live : List Block) (s : ℕ) : Type 0 where
  pub at : list_any (λ y. y == s) (start ∷ map block_end live) ≡ true
  pub low : s ≤ x
  pub from : start ≤ s
  pub last : All (λ c. block_end c ≤ x → block_end c ≤ s) live

last_start : (start x : ℕ) (live : List Block) → start ≤ x → (s : ℕ) × IsStart start x live s
last_start start x [] from = (start, record { at = or_left (start == start) false (eq-eqb start start refl); low = from; from = omega arith; last = All-nil (λ (c : Block). block_end c ≤ x → block_end c ≤ start) })
last_start start x (c ∷ live) from =
    let rest = last_start start x live from in
    let s = rest.0 in
    let low = rest.1.low in
    let up = rest.1.from in
    elim (cases_lt x (block_end c)) [
      | inl above ↦ (s, record { at = skip s (rest.1.at); low = low; from = up; last = All-cons (λ d. block_end d ≤ x → block_end d ≤ s) c live (λ below. absurd (omega arith)) rest.1.last })
      | inr below ↦ elim (cases_lt s (block_end c)) [
        | inl more ↦ (
          block_end c,
          record {
            at = or_right (start == block_end c) (list_any (λ y. y == block_end c) (block_end c ∷ map block_end live)) (or_left (block_end c == block_end c) (list_any (λ y. y == block_end c) (map block_end live)) (eq-eqb (block_end c) (block_end c) refl));
            low = below;
            from = omega arith;
            last = All-cons (λ d. block_end d ≤ x → block_end d ≤ block_end c) c live (λ k. omega arith) (All-weaker (λ d. block_end d ≤ x → block_end d ≤ s) (λ d. block_end d ≤ x → block_end d ≤ block_end c) (λ d k l. let m : block_end d ≤ s = k l in omega arith) live rest.1.last);
          },
        )
        | inr less ↦ (s, record { at = skip s (rest.1.at); low = low; from = up; last = All-cons (λ d. block_end d ≤ x → block_end d ≤ s) c live (λ k. less) rest.1.last })
      ]
    ]
  where
    skip : (s : ℕ) → list_any (λ y. y == s) (start ∷ map block_end live) ≡ true → list_any (λ y. y == s) (start ∷ block_end c ∷ map block_end live) ≡ true
    skip s h = elim (or_cases (start == s) (list_any (λ y. y == s) (map block_end live)) h) [
      | inl here ↦ or_left (start == s) (list_any (λ y. y == s) (block_end c ∷ map block_end live)) here
      | inr later ↦ or_right (start == s) (list_any (λ y. y == s) (block_end c ∷ map block_end live)) (or_right (block_end c == s) (list_any (λ y. y == s) (map block_end live)) later)
    ]

member : (p : ℕ → Bool) (s : ℕ) (xs : List ℕ) → list_any (λ y. y == s) xs ≡ true → p s ≡ true → list_any p xs ≡ true
member p s [] h yes_ = absurd (false≢true h)
member p s (x ∷ xs) h yes_ = elim (or_cases (x == s) (list_any (λ y. y == s) xs) h) [
  | inl here ↦ or_left (p x) (list_any p xs) (subst (λ t. p t ≡ true) (sym (eqb-true x s here)) yes_)
  | inr later ↦ or_right (p x) (list_any p xs) (member p s xs later yes_)
]

-- and the other way round, at the alignment 1
room_of_idle : (r : Run) (live : List Block) (n x : ℕ) → AreSpread live → 1 ≤ n → IsIdle r live x n → has_room r live n 1 ≡ true
room_of_idle r live n x spread some idle =
    let start = last_start (r.first * PAGE) x live idle.from in
    let s = start.0 in
    let low = start.1.low in
    let to = idle.to in
    let one : least_multiple 1 s ≡ s = omega arith in
    member (has_room_from r live n 1) s (starts r live) start.1.at
    (room_from r live n 1 some (omega arith) spread s start.1.from (omega arith) (all_from_has (λ c. (block_end c ≤ s) ⊎ (least_multiple 1 s + n ≤ c.first)) live (λ c there. elim (all_has (λ d. (block_end d ≤ x) ⊎ (x + n ≤ d.first)) live c idle.clear there) [
      | inl before ↦ inl (all_has (λ d. block_end d ≤ x → block_end d ≤ s) live c start.1.last there before)
      | inr behind ↦ inr (omega arith)
    ])))

-- fewer bytes from there are idle too
idle_less : (r : Run) (live : List Block) (x n m : ℕ) → m ≤ n → IsIdle r live x n → IsIdle r live x m
idle_less r live x n m less idle = let to = idle.to in record {
  from = idle.from;
  to = omega arith;
  clear = All-weaker (λ c. (block_end c ≤ x) ⊎ (x + n ≤ c.first)) (λ c. (block_end c ≤ x) ⊎ (x + m ≤ c.first)) (λ c k. elim k [ inl before ↦ inl before | inr behind ↦ inr (omega arith) ]) live idle.clear;
}

module _ (f w most : ℕ) (live : List Block) (spread : AreSpread live) (bound : IsIdleBound f w most live) where
  -- no more bytes than the bound are idle
  none_longer : (x n : ℕ) → most < n → IsIdle (run_at f w) live x n → ⊥
  none_longer x n more idle = false≢true (sym bound ∙ room_of_idle (run_at f w) live (most + 1) x spread (omega arith) (idle_less (run_at f w) live x n (most + 1) (omega arith) idle))

  -- SHORT: there is no room for more bytes than the bound
  pub no_room_above : (n al : ℕ) → most < n → 1 ≤ al → has_room (run_at f w) live n al ≡ false
  no_room_above n al more whole = false_from_ne_true (has_room (run_at f w) live n al) (λ room. let idle = idle_of_room (run_at f w) live n al spread (omega arith) whole room in none_longer idle.0 n more idle.1)

  -- ADD: where a block comes, the bound stays
  pub bound_added : (b : Block) → AreSpread (add_block b live) → IsIdleBound f w most (add_block b live)
  bound_added b after = false_from_ne_true (has_room (run_at f w) (add_block b live) (most + 1) 1) (λ room.
      let idle = idle_of_room (run_at f w) (add_block b live) (most + 1) 1 after (omega arith) (omega arith) room in
      let x = idle.0 in
      none_longer x (most + 1) (omega arith) (record {
        from = idle.1.from;
        to = idle.1.to;
        clear = all_from_has (λ c. (block_end c ≤ x) ⊎ (x + (most + 1) ≤ c.first)) live (λ c there. all_has (λ d. (block_end d ≤ x) ⊎ (x + (most + 1) ≤ d.first)) (add_block b live) c idle.1.clear (has_add b live c ∙ or_right (same_block c b) (has_block live c) there));
      }))

  -- HOLE: where bytes of the block b become idle around g, the gap at g counts too
  module _ (b : Block) (new : List Block) (g low high : ℕ) (after : AreSpread new) (kept : (c : Block) → has_block live c ≡ true → (c ≡ b) ⊎ (has_block new c ≡ true)) (gap : IsGap (f * PAGE) ((f + w) * PAGE) new g low high) (behind : (c : Block) → has_block new c ≡ true → g ≤ c.first → block_end b ≤ c.first) (over : (x n : ℕ) → IsIdle (run_at f w) new x n → x < block_end b → b.first < x + n → g ≤ x + n) where
    no_longer : (x n : ℕ) → most < n → high - low < n → IsIdle (run_at f w) new x n → ⊥
    no_longer x n more longer idle =
        let from = idle.from in
        let to = idle.to in
        elim (cases_lt x (block_end b)) [
          | inr past ↦ none_longer x n more (old_idle (inl past))
          | inl before ↦ elim (cases_lt b.first (x + n)) [
            | inr short ↦ none_longer x n more (old_idle (inr short))
            | inl reach ↦
                let beyond = over x n idle before reach in
                let up : low ≤ x = elim gap.below [
                  | inl none ↦ omega arith
                  | inr at ↦ let is = at.3 in let less = at.2 in elim (clear_of at.0 at.1) [ inl ends ↦ omega arith | inr begins ↦ absurd (omega arith) ]
                ] in
                let down : x + n ≤ high = elim gap.above [
                  | inl none ↦ omega arith
                  | inr at ↦ let is = at.3 in let past = behind at.0 at.1 at.2 in elim (clear_of at.0 at.1) [ inl ends ↦ absurd (omega arith) | inr begins ↦ omega arith ]
                ] in
                omega arith
          ]
        ]
      where
        clear_of : (c : Block) → has_block new c ≡ true → (block_end c ≤ x) ⊎ (x + n ≤ c.first)
        clear_of c there = all_has (λ d. (block_end d ≤ x) ⊎ (x + n ≤ d.first)) new c idle.clear there

        old_idle : (block_end b ≤ x) ⊎ (x + n ≤ b.first) → IsIdle (run_at f w) live x n
        old_idle apart = record {
          from = idle.from;
          to = idle.to;
          clear = all_from_has (λ c. (block_end c ≤ x) ⊎ (x + n ≤ c.first)) live (λ c there. elim (kept c there) [
            | inl same ↦ subst (λ (d : Block). (block_end d ≤ x) ⊎ (x + n ≤ d.first)) (sym same) apart
            | inr still ↦ clear_of c still
          ]);
        }

    bound_widened : IsIdleBound f w (max most (high - low)) new
    bound_widened = false_from_ne_true (has_room (run_at f w) new (max most (high - low) + 1) 1) (λ room.
        let idle = idle_of_room (run_at f w) new (max most (high - low) + 1) 1 after (omega arith) (omega arith) room in
        no_longer idle.0 (max most (high - low) + 1) (omega arith) (omega arith) idle.1)

  -- what stands in the list without a block
  dropped_kept : (b c : Block) → has_block live c ≡ true → (c ≡ b) ⊎ (has_block (drop_block b live) c ≡ true)
  dropped_kept b c there = elim (cases_Bool (same_block b c)) [
    | inl same ↦ inl (sym (same_is b c same))
    | inr other ↦ inr (has_filter (λ d. not (same_block b d)) live c ∙ and_from (has_block live c) (not (same_block b c)) there (ap not other))
  ]

  dropped_behind : (b c : Block) → has_block live b ≡ true → has_block (drop_block b live) c ≡ true → b.first ≤ c.first → block_end b ≤ c.first
  dropped_behind b c here there more =
      let parts = and_parts (has_block live c) (not (same_block b c)) (sym (has_filter (λ d. not (same_block b d)) live c) ∙ there) in
      let one : 1 ≤ b.size = all_has (λ d. 1 ≤ d.size) live b (spread_bytes live spread) here in
      let two : 1 ≤ c.size = all_has (λ d. 1 ≤ d.size) live c (spread_bytes live spread) parts.0 in
      elim (pairwise live b c spread here parts.0) [
        | inl same ↦ absurd (false≢true (sym (ap not (same_self b)) ∙ ap (λ d. not (same_block b d)) same ∙ parts.1))
        | inr apart ↦ elim apart [ inl before ↦ before | inr after ↦ absurd (omega arith) ]
      ]

  -- DROP: where a block ends, the gap that it leaves counts too
  pub bound_dropped : (b : Block) (low high : ℕ) → has_block live b ≡ true → IsGap (f * PAGE) ((f + w) * PAGE) (drop_block b live) b.first low high → IsIdleBound f w (max most (high - low)) (drop_block b live)
  bound_dropped b low high there gap = bound_widened b (drop_block b live) b.first low high (spread_filter (λ c. not (same_block b c)) live spread) (dropped_kept b) gap (λ c still more. dropped_behind b c there still more) (λ x n idle before reach. omega arith)

  -- RESIZE: where a block gets another size, the gap behind it counts too
  pub bound_resized : (a n m low high : ℕ) → has_block live (block_at a n) ≡ true → 1 ≤ m → AreSpread (add_block (block_at a m) (drop_block (block_at a n) live)) → IsGap (f * PAGE) ((f + w) * PAGE) (add_block (block_at a m) (drop_block (block_at a n) live)) (a + 1) low high → IsIdleBound f w (max most (high - low)) (add_block (block_at a m) (drop_block (block_at a n) live))
  bound_resized a n m low high there some after gap = bound_widened (block_at a n) new (a + 1) low high after
      (λ c old. elim (dropped_kept (block_at a n) c old) [ inl same ↦ inl same | inr still ↦ inr (has_add (block_at a m) (drop_block (block_at a n) live) c ∙ or_right (same_block c (block_at a m)) (has_block (drop_block (block_at a n) live) c) still) ])
      gap
      (λ c still more. elim (or_cases (same_block c (block_at a m)) (has_block (drop_block (block_at a n) live) c) (sym (has_add (block_at a m) (drop_block (block_at a n) live) c) ∙ still)) [
        | inl same ↦ let first = first_same c same in absurd (omega arith)
        | inr old ↦ dropped_behind (block_at a n) c there old (omega arith)
      ])
      (λ x k idle before reach. elim (all_has (λ d. (block_end d ≤ x) ⊎ (x + k ≤ d.first)) new (block_at a m) idle.clear (has_add (block_at a m) (drop_block (block_at a n) live) (block_at a m) ∙ or_left (same_block (block_at a m) (block_at a m)) (has_block (drop_block (block_at a n) live) (block_at a m)) (same_self (block_at a m)))) [ inl ends ↦ omega arith | inr begins ↦ absurd (omega arith) ])
    where
      new : List Block
      new = add_block (block_at a m) (drop_block (block_at a n) live)

      first_same : (c : Block) → same_block c (block_at a m) ≡ true → c.first ≡ a
      first_same c same = eqb-true c.first a (and_parts (c.first == a) (c.size == m) same).0

-- EMPTY: a run without blocks has its own bytes
pub bound_empty : (f w : ℕ) → IsIdleBound f w (w * PAGE) []
bound_empty f w = false_from_ne_true (has_room (run_at f w) [] (w * PAGE + 1) 1) (λ room.
    let idle = idle_of_room (run_at f w) [] (w * PAGE + 1) 1 tt (omega arith) (omega arith) room in
    let from = idle.1.from in
    let to = idle.1.to in
    omega arith)

pub held_empty : (f w : ℕ) → 1 ≤ w → f + w ≤ page_limit → IsHeld f w 0 []
held_empty f w some fits = (some, fits, All-nil (λ (b : Block). IsTrue (lies_in (run_at f w) b.first (block_end b))), refl)
