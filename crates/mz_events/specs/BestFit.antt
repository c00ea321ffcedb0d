-- What the best fit for w pages is, in words.
use Rattle.std.specs.Prelude.{ℕ, ◌≡◌, ◌<◌, ◌≤◌, List, ◌∷◌, ◌++◌, IsTrue}
use Rattle.std.specs.List.{All}
use Rattle.mz_base.specs.Space.{Run}
use Rattle.mz_events.specs.Room.{run_fits}

-- The best fit is a cached run that fits: each run that fits and was freed before it has more pages, and
-- each that was freed after it has no fewer.
pub record IsBestFit (cached : List Run) (w : ℕ) (r : Run) : Type 0 where
  pub before : List Run
  pub behind : List Run
  pub stands : cached ≡ before ++ r ∷ behind
  pub is_fit : IsTrue (run_fits w r)
  pub more : All (λ t. IsTrue (run_fits w t) → r.pages < t.pages) before
  pub no_fewer : All (λ t. IsTrue (run_fits w t) → r.pages ≤ t.pages) behind
