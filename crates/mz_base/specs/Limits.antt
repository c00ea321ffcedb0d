-- The limits of a profile. All are this project's own.
use Rattle.std.specs.Prelude.{ℕ, ◌≤◌}
use Rattle.mz_base.specs.declared.profile.Profile.{Profile}

abbrev pub IsFrom : ℕ → ℕ → ℕ → Type 0
IsFrom least most n = (least ≤ n) × (n ≤ most)

-- each number of the profile is within its limits
pub record IsWithinLimits (p : Profile) : Type 0 where
  pub pages : IsFrom 1 16384 p.pages
  pub callers : IsFrom 1 16 p.callers
  pub magazines : IsFrom 1 16 p.magazines
  pub nano : IsFrom 0 1024 p.nano
  pub nano_within : p.nano ≤ p.pages
  pub most_gen : IsFrom 1 68719476735 p.most_gen
  pub zones : IsFrom 1 4 p.zones
