-- A plain list of lengths by place, 0 where there is no member. Tests have one beside free lists. This project's own.
use Rattle.std.specs.Prelude.{◌≡◌, ℕ, ◌==◌, List, Option, Some, None, length, slice_index, if◌then◌else◌}
use Rattle.std.specs.FinMap as map
use Rattle.mz_lists.specs.Members.{ListsView}

-- the length that it has at a place
abbrev pub plain_at : List ℕ → ℕ → Option ℕ
plain_at plain q = if slice_index plain q == 0 then None else Some (slice_index plain q)

-- it has a length for each quantum, and the same members
pub record IsAlike (v : ListsView) (plain : List ℕ) : Type 0 where
  pub count : length plain ≡ v.quanta
  pub same : (q : ℕ) → map.get v.members q ≡ plain_at plain q
