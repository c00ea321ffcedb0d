-- What the definitions of sizes and multiples mean: each gives the least number of its kind, and a
-- good size is there where its block has room. This project's own.
use Rattle.std.specs.Prelude.{◌≡◌, ℕ, ◌*◌, ◌%◌, ◌<◌, ◌≤◌, max, IsTrue}
use Rattle.mz_base.specs.declared.range.Range.{Range}
use Rattle.mz_base.specs.declared.profile.Profile.{Profile}
use Rattle.mz_base.specs.Sizes.{is_size, unit_of}
use Rattle.mz_base.specs.Space.{Block, block_end, IsAddress}

-- k units hold n, and no fewer do
pub record IsLeastCount (unit n k : ℕ) : Type 0 where
  pub holds : n ≤ k * unit
  pub least : (j : ℕ) → n ≤ j * unit → k ≤ j

-- m is the least multiple of al at or above x
pub record IsLeastMultiple (al x m : ℕ) : Type 0 where
  pub multiple : m % al ≡ 0
  pub above : x ≤ m
  pub least : (y : ℕ) → y % al ≡ 0 → x ≤ y → m ≤ y

-- s is a size of the range r, holds n bytes and at least 1, and no lesser multiple of the unit does
pub record IsLeastSize (r : Range) (n s : ℕ) : Type 0 where
  pub size : IsTrue (is_size r s)
  pub holds : max n 1 ≤ s
  pub least : (t : ℕ) → t % unit_of r ≡ 0 → max n 1 ≤ t → s ≤ t

-- each byte of the block has an address of the profile's space
abbrev pub LiesInSpace : Profile → Block → Type 0
LiesInSpace p b = (a : ℕ) → b.first ≤ a → a < block_end b → IsAddress p a
