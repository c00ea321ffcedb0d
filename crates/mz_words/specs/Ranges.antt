-- Ranges as words. This project's own.
use Rattle.std.specs.Prelude.{ℕ, Bool, true, false, List, Option, Some, None, codes, if◌then◌else◌}
use Rattle.std.specs.Str.{bytes_eq}
use Rattle.mz_base.specs.declared.range.Range.{Range}
use Rattle.mz_base.specs.declared.range.Range.TheVariants as range

abbrev pub range_word : Range → List ℕ
range_word range.Nano = codes "nano"
range_word range.Tiny = codes "tiny"
range_word range.Small = codes "small"
range_word range.Medium = codes "medium"
range_word range.Large = codes "large"

-- medium is no range of a listed block
abbrev pub is_listed_range : Range → Bool
is_listed_range range.Medium = false
is_listed_range range.Nano = true
is_listed_range range.Tiny = true
is_listed_range range.Small = true
is_listed_range range.Large = true

-- the range that a word is
abbrev pub range_of : List ℕ → Option Range
range_of w =
    if bytes_eq w (codes "nano") then Some range.Nano
    else if bytes_eq w (codes "tiny") then Some range.Tiny
    else if bytes_eq w (codes "small") then Some range.Small
    else if bytes_eq w (codes "large") then Some range.Large
    else None
