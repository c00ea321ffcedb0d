-- The free pages as code keeps them: the runs that are taken, ascending. This project's own.
use Rattle.std.specs.Prelude.{ℕ, ◌+◌, ◌^◌, Bool, nat_lt, nat_le, ◌&&◌, ◌==◌, not, List, [], ◌∷◌, map, min, Option, Some, None, if◌then◌else◌}
use Rattle.mz_base.specs.Space.{Run, run_at, least_multiple}
use Rattle.mz_base.specs.Lists.{insert_by}
use Rattle.mz_holding.specs.declared.pages.Taken.{Taken}

-- a run that is taken, as a run
abbrev pub as_run : Taken → Run
as_run t = run_at t.first t.pages

abbrev pub runs_of : List Taken → List Run
runs_of ts = map as_run ts

-- each has a page, and begins at or above the end of those before it, the first at or above x; all end below 2^63
abbrev pub are_orderly : ℕ → List Taken → Bool
are_orderly x [] = nat_lt x (2 ^ 63)
are_orderly x (t ∷ ts) = nat_le x t.first && nat_le 1 t.pages && are_orderly (t.first + t.pages) ts

-- one more, before the first that begins above it
abbrev pub insert_taken : Taken → List Taken → List Taken
insert_taken t ts = insert_by (λ u. u.first) t ts

-- the run isn't this one
abbrev pub is_other : ℕ → ℕ → Taken → Bool
is_other first pages t = not ((first == t.first) && (pages == t.pages))

-- the least multiple of al at or above x, where w pages from there end at or below the limit
abbrev pub front_below : ℕ → ℕ → ℕ → ℕ → Option ℕ
front_below limit w al x = if nat_le (least_multiple al x + w) limit then Some (least_multiple al x) else None

-- the first page of the lowest run of w pages at a multiple of al that lies above x and below top, and between the runs
unfoldable pub lowest_between : ℕ → ℕ → ℕ → ℕ → List Taken → Option ℕ
lowest_between top w al x [] = front_below top w al x
lowest_between top w al x (t ∷ ts) = if nat_le (least_multiple al x + w) (min t.first top) then Some (least_multiple al x) else lowest_between top w al (t.first + t.pages) ts
