-- Of runs that fit, the one that serves best, as a search from the last to the first finds it. This project's own.
use Rattle.std.specs.Prelude.{◌≡◌, ℕ, ◌<◌, ◌≤◌, nat_lt, List, length, map, drop, Option, Some, None, MatchOption, if◌then◌else◌}
use Rattle.std.specs.List.{HoldsAt}
use Rattle.mz_ground.specs.Views.{SpanView}
use Rattle.mz_events.specs.Room.{best_fit}
use Rattle.mz_large.specs.Large.{run_of_span}

-- of two places, each with the pages of its run, the one with fewer pages, and of equals the second
abbrev pub fewer_of : Option (ℕ × ℕ) → ℕ × ℕ → ℕ × ℕ
fewer_of None other = other
fewer_of (Some first) other = if nat_lt first.1 other.1 then first else other

-- best is the place, with the pages, of the best fit among the runs from the i-th on
pub record IsBestFrom (spans : List SpanView) (w i : ℕ) (best : Option (ℕ × ℕ)) : Type 0 where
  pub within : i ≤ length spans
  pub says : MatchOption best (best_fit (map run_of_span (drop i spans)) w ≡ None)
      (λ p. (p.0 < length spans) × HoldsAt (λ s. (best_fit (map run_of_span (drop i spans)) w ≡ Some (run_of_span s)) × ((run_of_span s).pages ≡ p.1)) spans p.0)
