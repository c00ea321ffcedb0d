-- The byte space: addresses, blocks and runs as numbers. This project's own.
use Rattle.std.specs.Prelude.{ℕ, ◌+◌, ◌-◌, ◌*◌, ◌/◌, ◌<◌, ◌==◌, Bool, nat_le, ◌&&◌, ◌||◌}
use Rattle.mz_base.specs.declared.range.TheConstants.{PAGE}
use Rattle.mz_base.specs.declared.profile.Profile.{Profile}

-- an address of the profile's space: a number below its bytes
abbrev pub IsAddress : Profile → ℕ → Type 0
IsAddress p a = a < p.pages * PAGE

-- A block is its first address and its size in bytes.
pub record Block : Type 0 where
  pub first : ℕ
  pub size : ℕ

-- A run is its first page and its number of pages.
pub record Run : Type 0 where
  pub first : ℕ
  pub pages : ℕ

abbrev pub block_at : ℕ → ℕ → Block
block_at a n = record { first = a; size = n }

abbrev pub run_at : ℕ → ℕ → Run
run_at f w = record { first = f; pages = w }

-- the address after a block
abbrev pub block_end : Block → ℕ
block_end b = b.first + b.size

-- the page after a run
abbrev pub run_end : Run → ℕ
run_end r = r.first + r.pages

-- two blocks are apart where one ends at or before the start of the other
abbrev pub blocks_apart : Block → Block → Bool
blocks_apart b c = nat_le (block_end b) c.first || nat_le (block_end c) b.first

-- and two runs likewise
abbrev pub runs_apart : Run → Run → Bool
runs_apart r s = nat_le (run_end r) s.first || nat_le (run_end s) r.first

-- two blocks are the same pair
abbrev pub same_block : Block → Block → Bool
same_block b c = (b.first == c.first) && (b.size == c.size)

abbrev pub same_run : Run → Run → Bool
same_run r s = (r.first == s.first) && (r.pages == s.pages)

-- the bytes of a run
abbrev pub bytes_of : Run → Block
bytes_of r = record { first = r.first * PAGE; size = r.pages * PAGE }

-- the page in which an address lies
abbrev pub page_of : ℕ → ℕ
page_of a = a / PAGE

-- how many units it takes to hold n
abbrev pub units_for : ℕ → ℕ → ℕ
units_for unit n = (n + unit - 1) / unit

-- the least multiple of al at or above x
abbrev pub least_multiple : ℕ → ℕ → ℕ
least_multiple al x = units_for al x * al
