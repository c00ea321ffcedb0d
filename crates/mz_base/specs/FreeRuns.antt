-- What free runs of pages are, in words.
use Rattle.std.specs.Prelude.{ℕ, ◌%◌, ◌≡◌, ◌≤◌, List, IsTrue}
use Rattle.mz_base.specs.Space.{Run, run_at}
use Rattle.mz_base.specs.Room.{is_free}

-- some run of w pages at a multiple of al is free
abbrev pub IsSomeFree : ℕ → List Run → ℕ → ℕ → Type 0
IsSomeFree top taken w al = (f : ℕ) × (f % al ≡ 0) × IsTrue (is_free top taken (run_at f w))

-- the run is free at a multiple of al, and no free run of its length at a multiple of al is lower
pub record IsLowestFree (top : ℕ) (taken : List Run) (r : Run) (al : ℕ) : Type 0 where
  pub aligned : r.first % al ≡ 0
  pub free : IsTrue (is_free top taken r)
  pub lowest : (f : ℕ) → f % al ≡ 0 → IsTrue (is_free top taken (run_at f r.pages)) → r.first ≤ f
