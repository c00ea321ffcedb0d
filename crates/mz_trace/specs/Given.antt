-- The names under which blocks were given, in order. This follows the code.
use Rattle.std.specs.Prelude.{ℕ, Bool, List}
use Rattle.std.specs.List.{list_any}
use Rattle.std.specs.Ordering.{nat_cmp}
use Rattle.std.specs.Cmp.Lexicographic.{slice_cmp}
use Rattle.std.specs.BTreeMap.{is_at}
use Rattle.std.specs.BTreeSet.{insert_key}

-- the name is one of them
abbrev pub has_name : List (List ℕ) → List ℕ → Bool
has_name names name = list_any (is_at (slice_cmp nat_cmp name)) names

-- one more name, at its place in the order
abbrev pub with_name : List (List ℕ) → List ℕ → List (List ℕ)
with_name names name = insert_key (slice_cmp nat_cmp) names name
