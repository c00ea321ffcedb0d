-- What a search over a region's bits finds. This project's own.
use Rattle.std.specs.Prelude.{◌≡◌, ℕ, ◌+◌, ◌-◌, ◌≤◌, ◌⊎◌, List, Bool, true, false, length}
use Rattle.std.specs.List.{AllWithin, HoldsAt}
use Rattle.mz_base.specs.Space.{least_multiple}

-- The first quantum at or behind the place i at a multiple of step, where the region's first quantum is the base-th of its space.
abbrev pub front_from : ℕ → ℕ → ℕ → ℕ
front_from base step i = least_multiple step (base + i) - base

-- the quanta from the place i to the end of the n from its front are there, and idle
pub record IsRoomAt (used : List Bool) (base step n i : ℕ) : Type 0 where
  pub within : front_from base step i + n ≤ length used
  pub idle : AllWithin (λ u. u ≡ false) used i (front_from base step i + n)

-- q is the front of an idle run with room for n quanta
pub record IsFrontAt (used : List Bool) (base step n q : ℕ) : Type 0 where
  pub start : ℕ
  pub begins : (start ≡ 0) ⊎ ((1 ≤ start) × HoldsAt (λ u. u ≡ true) used (start - 1))
  pub room : IsRoomAt used base step n start
  pub front : q ≡ front_from base step start
