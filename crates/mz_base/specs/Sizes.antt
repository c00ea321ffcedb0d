-- The table of sizes. The units of nano, tiny and small, and the limits 1008 and 256, are
-- libmalloc's; the rest is this project's own.
use Rattle.std.specs.Prelude.{ℕ, ◌*◌, ◌%◌, ◌==◌, Bool, false, nat_le, ◌&&◌, max, Option, Some, None, if◌then◌else◌}
use Rattle.mz_base.specs.declared.range.TheConstants.{PAGE}
use Rattle.mz_base.specs.declared.range.Range.{Range}
use Rattle.mz_base.specs.declared.range.Range.TheVariants.{Nano, Tiny, Small, Medium, Large}
use Rattle.mz_base.specs.declared.profile.Profile.{Profile}
use Rattle.mz_base.specs.Space.{units_for}

-- the range that serves a request of n bytes, nano left aside
abbrev pub route_of : ℕ → Range
route_of n = if nat_le n 1008 then Tiny else (if nat_le n 32768 then Small else Large)

-- a range counts sizes in units of so many bytes
abbrev pub unit_of : Range → ℕ
unit_of Nano = 16
unit_of Tiny = 16
unit_of Small = 512
unit_of Medium = 32768
unit_of Large = PAGE

-- the units for n bytes; a request of 0 bytes counts as 1 byte
abbrev pub units_of : ℕ → ℕ
units_of n = units_for (unit_of (route_of n)) (max n 1)

-- the size of the block that a request of n bytes gets
abbrev pub good_size_of : ℕ → ℕ
good_size_of n = units_of n * unit_of (route_of n)

-- the same, where the space is as large as that
abbrev pub good_size_within : Profile → ℕ → Option ℕ
good_size_within p n = if nat_le (good_size_of n) (p.pages * PAGE) then Some (good_size_of n) else None

-- s is a multiple of the range's unit, from the least size of the range to the greatest
abbrev pub is_size_between : ℕ → ℕ → ℕ → ℕ → Bool
is_size_between unit least most s = (s % unit == 0) && nat_le least s && nat_le s most

-- s is a size of a block of this range
abbrev pub is_size : Range → ℕ → Bool
is_size Nano s = is_size_between 16 16 256 s
is_size Tiny s = is_size_between 16 16 1008 s
is_size Small s = is_size_between 512 1024 32768 s
is_size Medium s = false
is_size Large s = (s % PAGE == 0) && nat_le 49152 s

-- w pages are a run of this range: a region of tiny or small, or the pages of one large block
abbrev pub is_run_length : Range → ℕ → Bool
is_run_length Nano w = false
is_run_length Tiny w = w == 64
is_run_length Small w = w == 512
is_run_length Medium w = false
is_run_length Large w = nat_le 3 w
