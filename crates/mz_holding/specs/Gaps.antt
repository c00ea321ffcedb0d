-- What two neighbours say of live blocks: every test over a list of blocks turns on no more. This project's own.
use Rattle.std.specs.Prelude.{ℕ, ◌+◌, ◌≡◌, ◌<◌, ◌≤◌, ◌⊎◌, ◌==◌, List, [], ◌∷◌, ◌++◌, map, Option, Some, None, IsTrue, if◌then◌else◌}
use Rattle.std.specs.List.{All}
use Rattle.std.proofs.Props.{props}
use mathlib.Core.HLevel.{Unit-prop}
use Rattle.mz_base.specs.Space.{Block, block_at, block_end}
use Rattle.mz_base.specs.Lists.{has_block}

-- the greatest number of 64 bits: no block ends above it
abbrev pub far : ℕ
far = 18446744073709551615

-- in ascending order and apart, each with a byte at least
abbrev pub AreSpread : List Block → Type 0
AreSpread [] = Unit {0}
AreSpread (b ∷ bs) = (1 ≤ b.size) × (block_end b ≤ far) × All (λ c. block_end b ≤ c.first) bs × AreSpread bs

-- and so in one way at most
pub spread_once : (bs : List Block) → IsProp (AreSpread bs)
spread_once [] = Unit-prop
spread_once (b ∷ bs) = let rest = spread_once bs in hlevel (rest, props)

-- The gap at the address a between the blocks of a stretch, which begins at start and ends at end. No block reaches into the
-- bytes from low to high; and the gap is as long as can be: low is at or below start, or is where a block ends that begins
-- below a, and high is at or above end, or is where a block begins at or above a.
pub record IsGap (start end : ℕ) (live : List Block) (a low high : ℕ) : Type 0 where
  pub none : All (λ c. (block_end c ≤ low) ⊎ (high ≤ c.first)) live
  pub below : (low ≤ start) ⊎ ((c : Block) × IsTrue (has_block live c) × (c.first < a) × (block_end c ≡ low))
  pub above : (end ≤ high) ⊎ ((c : Block) × IsTrue (has_block live c) × (a ≤ c.first) × (c.first ≡ high))

-- pairs of an address and a size as blocks
abbrev pub block_of_pair : (ℕ × ℕ) → Block
block_of_pair e = block_at e.0 e.1

abbrev pub blocks_of_pairs : List (ℕ × ℕ) → List Block
blocks_of_pairs es = map block_of_pair es

-- the size of the block that begins at the address, where one does
abbrev pub size_found : List Block → ℕ → Option ℕ
size_found [] a = None
size_found (b ∷ bs) a = if b.first == a then Some b.size else size_found bs a

-- where the pair below ends, and where the pair above begins
abbrev pub end_or_none : Option (ℕ × ℕ) → ℕ
end_or_none None = 0
end_or_none (Some e) = e.0 + e.1

abbrev pub first_or_far : Option (ℕ × ℕ) → ℕ
first_or_far None = far
first_or_far (Some e) = e.0

-- the first or the last of a list, where there is one
abbrev pub IsFirstOf : {A : Type 0} → List A → Option A → Type 0
IsFirstOf xs None = xs ≡ []
IsFirstOf {A} xs (Some x) = (ys : List A) × (xs ≡ x ∷ ys)

abbrev pub IsLastOf : {A : Type 0} → List A → Option A → Type 0
IsLastOf xs None = xs ≡ []
IsLastOf {A} xs (Some x) = (ys : List A) × (xs ≡ ys ++ x ∷ [])
