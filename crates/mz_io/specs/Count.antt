-- Counts of faults, and when one has risen. This project's own.
use Rattle.std.specs.Prelude.{ℕ, ◌+◌, ◌-◌, ◌^◌, ◌≤◌, min, Result, OnErr}

-- one more, in a count that stays once it stands at the greatest u64
abbrev pub one_more : ℕ → ℕ
one_more n = min (n + 1) (2 ^ 64 - 1)

-- some more, in such a count
abbrev pub more_by : ℕ → ℕ → ℕ
more_by k n = min (n + k) (2 ^ 64 - 1)

-- A count has risen: it is greater now, or stands at the greatest u64.
abbrev pub Rose : ℕ → ℕ → Type 0
Rose before now = one_more before ≤ now

-- the count of faults hasn't fallen, and the call failed only if it rose
pub record HasCause {T E : Type 0} (before now : ℕ) (result : Result T E) : Type 0 where
  pub kept : before ≤ now
  pub failed : OnErr result (Rose before now)
