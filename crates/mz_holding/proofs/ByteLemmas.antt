-- Sums over live blocks, as blocks come and go.
use Rattle.std.proofs.Common.{◌≡◌, ℕ, ◌+◌, ◌<◌, ◌≤◌, true, false, cond, List, [], ◌∷◌, ap, ◌∙◌, inl, inr, arith, not}
use Rattle.std.specs.Prelude.{sum_by, ◌==◌}
use Rattle.std.proofs.lemmas.Bool.{or_cases, false≢true, cases_lt, and_left, ne_eqb}
use Rattle.std.proofs.lemmas.List.Elements.{All-weaker}
use Rattle.std.proofs.lemmas.List.Sums.{sum_by-cons}
use Rattle.mz_base.specs.Space.{Block, block_end, same_block}
use Rattle.mz_base.specs.Lists.{has_block, add_block, drop_block}
use Rattle.mz_holding.specs.Gaps.{AreSpread}
use Rattle.mz_holding.proofs.GapLemmas.{same_is, all_has}
use Rattle.mz_holding.proofs.NeighbourLemmas.{add_none, add_before, add_behind, none_dropped}

-- any sum, of weights
pub sum_add : (w : Block → ℕ) (b : Block) (bs : List Block) → sum_by w (add_block b bs) ≡ w b + sum_by w bs
sum_add w b [] = ap (sum_by w) (add_none b) ∙ sum_by-cons w b []
sum_add w b (c ∷ bs) = elim (cases_lt b.first c.first) [
  | inl less ↦ ap (sum_by w) (add_before b c bs less) ∙ sum_by-cons w b (c ∷ bs)
  | inr more ↦
      let rest = sum_add w b bs in
      let is = ap (sum_by w) (add_behind b c bs more) in
      let one = sum_by-cons w c (add_block b bs) in
      let two = sum_by-cons w c bs in
      omega arith
]

pub sum_drop : (w : Block → ℕ) (b : Block) (bs : List Block) → AreSpread bs → has_block bs b ≡ true → sum_by w (drop_block b bs) + w b ≡ sum_by w bs
sum_drop w b [] h there = absurd (false≢true there)
sum_drop w b (c ∷ bs) h there =
    let one = h.0 in
    let split = sum_by-cons w c bs in
    elim (or_cases (same_block b c) (has_block bs b) there) [
      | inl here ↦
          let is = same_is b c here in
          let weight : w b ≡ w c = ap w is in
          let first : b.first ≡ c.first = ap (λ (d : Block). d.first) is in
          let rest : drop_block b bs ≡ bs = none_dropped bs b (All-weaker (λ d. block_end c ≤ d.first) (λ d. b.first < d.first) (λ d k. let m : block_end c ≤ d.first = k in omega arith) bs h.2) in
          let step : sum_by w (drop_block b (c ∷ bs)) ≡ sum_by w bs = ap (λ t. sum_by w (cond (not t) (c ∷ drop_block b bs) (drop_block b bs))) here ∙ ap (sum_by w) rest in
          omega arith
      | inr later ↦
          let past : block_end c ≤ b.first = all_has (λ d. block_end c ≤ d.first) bs b h.2 later in
          let other : same_block b c ≡ false = and_left (b.first == c.first) (b.size == c.size) (ne_eqb b.first c.first (λ same. omega arith)) in
          let step : sum_by w (drop_block b (c ∷ bs)) ≡ w c + sum_by w (drop_block b bs) = ap (λ t. sum_by w (cond (not t) (c ∷ drop_block b bs) (drop_block b bs))) other ∙ sum_by-cons w c (drop_block b bs) in
          let rest = sum_drop w b bs h.3 later in
          omega arith
    ]
