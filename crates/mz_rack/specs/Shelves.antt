-- Regions of one range, with their quantum. This project's own.
use Rattle.std.specs.Prelude.{◌≡◌, ℕ, ◌*◌, ◌/◌, ◌%◌, ◌^◌, ◌≤◌, ◌==◌, ◌&&◌, nat_lt, Bool, IsTrue}
use Rattle.std.specs.List.{list_all}
use Rattle.mz_base.specs.declared.range.TheConstants.{PAGE}
use Rattle.mz_base.specs.Space.{Run, run_end}
use Rattle.mz_events.specs.Standing.{RegionsKept}

-- regions of N quanta of Q bytes are some whole pages, 512 at most
pub record IsShape (Q N : ℕ) : Type 0 where
  pub some : 1 ≤ Q * N / PAGE
  pub whole : Q * N % PAGE ≡ 0
  pub few : Q * N ≤ 512 * PAGE

-- a run of so many pages at a multiple of them, whose addresses fit the machine
abbrev pub is_formed : ℕ → Run → Bool
is_formed w r = (r.pages == w) && (r.first % w == 0) && nat_lt (run_end r * PAGE) (2 ^ 63)

-- what is kept are regions of N quanta of Q bytes, each at a multiple of its length
pub record IsShelf (Q N : ℕ) (v : RegionsKept) : Type 0 where
  pub shape : IsShape Q N
  pub quantum : v.quantum ≡ Q
  pub pages : v.pages ≡ Q * N / PAGE
  pub formed : IsTrue (list_all (is_formed v.pages) v.kept.runs)
