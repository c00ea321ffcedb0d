-- Free runs of pages. Pages are numbered from the start of their space; place 0 of the list free is page first. This project's own.
use Rattle.std.specs.Prelude.{◌≡◌, ℕ, ◌+◌, ◌-◌, ◌%◌, ◌≤◌, List, Bool, true, length}
use Rattle.std.specs.List.{AllWithin}

-- the w pages from page f on are pages of the list, and all of them are free
pub record IsFree (first : ℕ) (free : List Bool) (f w : ℕ) : Type 0 where
  pub above : first ≤ f
  pub below : f + w ≤ first + length free
  pub each : AllWithin (λ b. b ≡ true) free (f - first) (f - first + w)

-- no run of w pages at a multiple of al is free
abbrev pub HasNoFree : ℕ → List Bool → ℕ → ℕ → Type 0
HasNoFree first free w al = (g : ℕ) → g % al ≡ 0 → ¬ IsFree first free g w

-- f is the first page of the lowest that is
pub record IsLowestFree (first : ℕ) (free : List Bool) (w al f : ℕ) : Type 0 where
  pub aligned : f % al ≡ 0
  pub is_free : IsFree first free f w
  pub lowest : (g : ℕ) → g % al ≡ 0 → IsFree first free g w → f ≤ g
