-- What pages keep of their parts. This project's own.
use Rattle.std.specs.Prelude.{◌≡◌, ℕ, ◌+◌, ◌*◌, ◌^◌, ◌<◌, List, Bool, length, map, not}
use Rattle.mz_base.specs.declared.range.TheConstants.{PAGE}
use Rattle.mz_ground.specs.Views.{GroundView}
use Rattle.mz_pages.specs.Pages.{free_count}

-- the pages that are out are those that the ground has lent, and free is the number of the others
pub record IsKept (ground : GroundView) (out : List Bool) (first free : ℕ) : Type 0 where
  pub lent : ground.lent ≡ out
  pub at : ground.first ≡ first * PAGE
  pub small : (first + length out) * PAGE < 2 ^ 63
  pub count : free ≡ free_count (map not out)
