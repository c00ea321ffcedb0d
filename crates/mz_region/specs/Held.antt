-- The facts that every blank and every region keeps. This project's own.
use Rattle.std.specs.Prelude.{◌≡◌, ℕ, ◌+◌, ◌*◌, ◌%◌, ◌^◌, ◌<◌, ◌≤◌, List, Bool, false, length, replicate}
use Rattle.std.specs.Int.{IsPowerOfTwo}
use Rattle.mz_base.specs.Lists.{size_sum}
use Rattle.mz_ground.specs.Views.{GroundView}
use Rattle.mz_region.specs.Quanta.{blocks_of, FitTogether}

-- all of a blank's bits and flags are clear, one for each of N quanta, of a number of bytes that is a power of two
pub record IsBlank (Q N : ℕ) (begins used lent : List Bool) : Type 0 where
  pub power : IsPowerOfTwo Q
  pub none_begins : begins ≡ replicate N false
  pub none_used : used ≡ replicate N false
  pub none_lent : lent ≡ replicate N false

-- A region of N quanta of Q bytes: its bits fit together, the quanta in use are those that its ground has lent, and its
-- counts are those of its live blocks.
pub record IsHeld (Q N a : ℕ) (begins used : List Bool) (ground : GroundView) (bytes count : ℕ) : Type 0 where
  pub power : IsPowerOfTwo Q
  pub at : a % (Q * N) ≡ 0
  pub inside : a + Q * N ≤ ground.space.size
  pub small : ground.space.size < 2 ^ 63
  pub quanta : length used ≡ N
  pub bits : FitTogether false begins used
  pub based : ground.first ≡ a
  pub lent : ground.lent ≡ used
  pub sum : bytes ≡ size_sum (blocks_of Q a begins used)
  pub counted : count ≡ length (blocks_of Q a begins used)
