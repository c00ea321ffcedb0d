-- Where a line stands in its run: what comes before it, and what it finds. This project's own.
use Rattle.std.specs.Prelude.{ℕ, ◌+◌, List, [], ◌∷◌, length, drop, max, min}
use Rattle.mz_base.specs.declared.profile.Profile.{Profile}
use Rattle.mz_events.specs.declared.entry.Entry.{Entry}
use Rattle.mz_events.specs.Hands.{own}
use Rattle.mz_events.specs.State.{State}
use Rattle.mz_record.specs.Moments.{state_at}
use Rattle.mz_lawful.specs.Standing.{Standing}

-- The profile and all entries of the run, in order of their tickets; those that have to come before the line, with lower
-- tickets; and what stands when the line is reached. Before a line at the start of a round come all earlier rounds and the
-- lines at the start of this one before it; before a caller's command all earlier rounds, the lines at the start of this
-- one, and the caller's own commands before it.
pub record Setting : Type 0 where
  pub profile : Profile
  pub history : List Entry
  pub before : List Entry
  pub standing : Standing

-- the least number above all tickets of these entries
abbrev pub above : List Entry → ℕ
above [] = 0
above (e ∷ es) = max (e.ticket + 1) (above es)

-- the least of their tickets, or n where that is less
abbrev pub least_ticket : ℕ → List Entry → ℕ
least_ticket n [] = n
least_ticket n (e ∷ es) = min e.ticket (least_ticket n es)

-- the tickets that have to come before the line are below this one
abbrev pub low : Setting → ℕ
low s = above s.before

-- the state after all entries that have to come before the line
abbrev pub now : Setting → State
now s = state_at s.profile s.history (low s)

-- A caller's entries from its line on: those of the history but the first ones, as many as it has before the line. Where its tickets rise,
-- as they do if all its records fit, those before the line are just its first ones.
abbrev pub own_from : Setting → ℕ → List Entry
own_from s c = drop (length (own c s.before)) (own c s.history)

-- the tickets of those are not below this one
abbrev pub high : Setting → ℕ → ℕ
high s c = least_ticket (length s.history) (own_from s c)
