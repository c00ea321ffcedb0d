-- Live blocks as one is added, ends or gets another size.
use Rattle.std.proofs.Common.{◌≡◌, ℕ, ◌+◌, ◌-◌, ◌*◌, ◌≤◌, true, not, List, sym, ap, ◌∙◌, inl, inr, arith}
use Rattle.std.specs.Prelude.{IsTrue, ◌||◌, ◌==◌, nat_le}
use Rattle.std.specs.List.{All, list_all}
use Rattle.std.proofs.lemmas.Bool.{and_parts, or_cases, false≢true, leb-true, eqb-true}
use Rattle.std.proofs.lemmas.List.Elements.{All-filter}
use Rattle.mz_base.specs.Space.{Block, block_at, run_at, block_end, blocks_apart, same_block}
use Rattle.mz_base.specs.Room.{lies_in}
use Rattle.mz_base.specs.Lists.{has_block, add_block, drop_block, size_sum}
use Rattle.mz_holding.specs.Gaps.{AreSpread, far}
use Rattle.mz_holding.specs.LiveBlocks.{IsHeld}
use Rattle.mz_holding.proofs.GapLemmas.{same_self, all_has}
use Rattle.mz_holding.proofs.NeighbourLemmas.{Apart, all_add, spread_add, spread_filter, spread_bytes}
use Rattle.mz_holding.proofs.SpreadLemmas.{has_filter, pairwise}
use Rattle.mz_holding.proofs.PartLemmas.{all_at, all_from}
use Rattle.mz_holding.proofs.HeldLemmas.{bytes_within}
use Rattle.mz_holding.proofs.ByteLemmas.{sum_add, sum_drop}

-- without the block that begins there, the others are apart
pub apart_without : (bs : List Block) (a n m : ℕ) → AreSpread bs → has_block bs (block_at a n) ≡ true → list_all (λ c. (c.first == a) || blocks_apart c (block_at a m)) bs ≡ true → Apart (drop_block (block_at a n) bs) (block_at a m)
apart_without bs a n m spread there apart = all_from (λ c. blocks_apart c (block_at a m)) (drop_block (block_at a n) bs) (λ c left.
    let parts = and_parts (has_block bs c) (not (same_block (block_at a n) c)) (sym (has_filter (λ d. not (same_block (block_at a n) d)) bs c) ∙ left) in
    elim (or_cases (c.first == a) (blocks_apart c (block_at a m)) (all_at (λ d. (d.first == a) || blocks_apart d (block_at a m)) bs c apart parts.0)) [
      | inr yes_ ↦ yes_
      | inl at ↦
          let first = eqb-true c.first a at in
          let one : 1 ≤ c.size = all_has (λ d. 1 ≤ d.size) bs c (spread_bytes bs spread) parts.0 in
          let two : 1 ≤ n = all_has (λ d. 1 ≤ d.size) bs (block_at a n) (spread_bytes bs spread) there in
          absurd (elim (pairwise bs c (block_at a n) spread parts.0 there) [
            | inl same ↦ false≢true (sym (ap not (same_self (block_at a n))) ∙ ap (λ d. not (same_block (block_at a n) d)) (sym same) ∙ parts.1)
            | inr beside ↦ elim beside [ inl before ↦ omega arith | inr behind ↦ omega arith ]
          ])
    ])

pub spread_resized : (bs : List Block) (a n m : ℕ) → AreSpread bs → 1 ≤ m → a + m ≤ far → has_block bs (block_at a n) ≡ true → list_all (λ c. (c.first == a) || blocks_apart c (block_at a m)) bs ≡ true → AreSpread (add_block (block_at a m) (drop_block (block_at a n) bs))
spread_resized bs a n m spread some fits there apart = spread_add (block_at a m) (drop_block (block_at a n) bs) some fits (apart_without bs a n m spread there apart) (spread_filter (λ c. not (same_block (block_at a n) c)) bs spread)

module _ (f w used : ℕ) (live : List Block) (held : IsHeld f w used live) (spread : AreSpread live) where
  abbrev lies : Block → Type 0
  lies b = IsTrue (lies_in (run_at f w) b.first (block_end b))

  lies_numbers : (b : Block) → lies b → (f * 16384 ≤ b.first) × (block_end b ≤ (f + w) * 16384)
  lies_numbers b h = let parts = and_parts (nat_le (f * 16384) b.first) (nat_le (block_end b) ((f + w) * 16384)) h in (leb-true (f * 16384) b.first parts.0, leb-true (block_end b) ((f + w) * 16384) parts.1)

  sum_fits : (bs : List Block) → AreSpread bs → All lies bs → size_sum bs ≤ w * 16384
  sum_fits bs apart all = let fits = bytes_within (f * 16384) ((f + w) * 16384) bs apart (omega arith) (λ c there. lies_numbers c (all_has lies bs c all there)) in omega arith

  module _ (a n : ℕ) (some : 1 ≤ n) (here : lies (block_at a n)) (apart : Apart live (block_at a n)) where
    pub fits_far : a + n ≤ far
    fits_far = let limit = held.1 in let to = (lies_numbers (block_at a n) here).1 in omega arith

    pub held_add : IsHeld f w (used + n) (add_block (block_at a n) live)
    held_add = let sum = sum_add (λ (b : Block). b.size) (block_at a n) live in let is = held.3 in (held.0, held.1, all_add lies (block_at a n) live here held.2, omega arith)

    pub add_fits : used + n ≤ w * 16384
    add_fits = let more = held_add in let is = more.3 in let fits = sum_fits (add_block (block_at a n) live) (spread_add (block_at a n) live some fits_far apart spread) more.2 in omega arith

  module _ (a n : ℕ) (there : has_block live (block_at a n) ≡ true) where
    pub drop_fits : n ≤ used
    drop_fits = let sum = sum_drop (λ (b : Block). b.size) (block_at a n) live spread there in let is = held.3 in omega arith

    pub held_drop : IsHeld f w (used - n) (drop_block (block_at a n) live)
    held_drop = let sum = sum_drop (λ (b : Block). b.size) (block_at a n) live spread there in let is = held.3 in (held.0, held.1, All-filter (λ c. not (same_block (block_at a n) c)) lies live held.2, omega arith)
