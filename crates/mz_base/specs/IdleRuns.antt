-- What an idle run of a stretch of bytes is, in words. A stretch is given by its first address, start, and the address after
-- it, end: a run of pages is one, and so is a region.
use Rattle.std.specs.Prelude.{ℕ, ◌+◌, ◌≡◌, ◌<◌, ◌≤◌, List, ◌⊎◌}
use Rattle.std.specs.List.{All}
use Rattle.mz_base.specs.Space.{Block, block_end, least_multiple}

-- each of these blocks ends at or before x, or begins at or above y
abbrev pub MeetsNone : List Block → ℕ → ℕ → Type 0
MeetsNone live x y = All (λ b. (block_end b ≤ x) ⊎ (y ≤ b.first)) live

-- the bytes from x to y are some bytes of the stretch, and lie in none of these blocks
pub record IsIdle (start end : ℕ) (live : List Block) (x y : ℕ) : Type 0 where
  pub some : x < y
  pub not_below : start ≤ x
  pub not_above : y ≤ end
  pub meets_none : MeetsNone live x y

-- an idle run is within the stretch, meets no live block, and can't be made longer
pub record IsIdleRun (start end : ℕ) (live : List Block) (x y : ℕ) : Type 0 where
  pub idle : IsIdle start end live x y
  pub longest : (v z : ℕ) → v ≤ x → y ≤ z → IsIdle start end live v z → (v ≡ x) × (y ≡ z)

-- some idle run has room for n bytes at al
abbrev pub IsRoom : ℕ → ℕ → List Block → ℕ → ℕ → Type 0
IsRoom start end live n al = (x : ℕ) × (y : ℕ) × IsIdleRun start end live x y × (least_multiple al x + n ≤ y)

-- the block is at the front at al of some idle run that has room for it
abbrev pub IsFront : ℕ → ℕ → List Block → Block → ℕ → Type 0
IsFront start end live b al = (x : ℕ) × (y : ℕ) × IsIdleRun start end live x y × (least_multiple al x ≡ b.first) × (block_end b ≤ y)
