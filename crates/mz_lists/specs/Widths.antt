-- The widths that numbers are kept in. This project's own.
use Rattle.std.specs.Prelude.{ℕ, ◌^◌, List}
use Rattle.mz_lists.specs.declared.numbers.Words.{Words}
use Rattle.mz_lists.specs.declared.numbers.Words.TheVariants.{Short, Long}

-- the numbers
abbrev pub items_of : Words → List ℕ
items_of (Short words) = words.items
items_of (Long words) = words.items

-- the least number that doesn't fit
abbrev pub limit_of : Words → ℕ
limit_of (Short words) = 2 ^ 16
limit_of (Long words) = 2 ^ 32
