-- What a page of nano keeps, as code has it.
use Rattle.std.specs.Prelude.{ℕ, ◌≡◌, ◌+◌, ◌≤◌, List, IsTrue}
use Rattle.std.specs.List.{All, list_all}
use Rattle.mz_base.specs.Space.{Block, block_at, blocks_apart}
use Rattle.mz_holding.specs.Gaps.{far}

-- each of these blocks has this size
abbrev pub AllOfSize : ℕ → List Block → Type 0
AllOfSize size live = All (λ b. b.size ≡ size) live

-- a block of n bytes at a is some bytes of the space, apart from these, and of their size
pub record IsSlotAmong (live : List Block) (a n : ℕ) : Type 0 where
  pub some : 1 ≤ n
  pub fits : a + n ≤ far
  pub apart : IsTrue (list_all (λ c. blocks_apart c (block_at a n)) live)
  pub size : AllOfSize n live
