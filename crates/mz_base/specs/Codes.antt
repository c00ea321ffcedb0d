-- Blocks and runs as numbers, so that a ghost field can store them; and that the limits of a profile hold in one way.
use Rattle.std.specs.Prelude.{ℕ, ◌≤◌, refl}
use Rattle.std.specs.Coded.{Coded, code_by, coded×, coded_ℕ, ×_prop, le_prop}
use Rattle.std.proofs.Common.{ap}
use Rattle.mz_base.specs.declared.profile.Profile.{Profile}
use Rattle.mz_base.specs.Space.{Block, Run}
use Rattle.mz_base.specs.Limits.{IsFrom, IsWithinLimits}

-- a block is stored as the pair of its fields
abbrev pub block_code : Coded Block
block_code = code_by (ℕ × ℕ) (coded× coded_ℕ coded_ℕ) (λ b. (b.first, b.size)) (λ p. record { first = p.0; size = p.1 }) (λ _. refl)

-- and so is a run
abbrev pub run_code : Coded Run
run_code = code_by (ℕ × ℕ) (coded× coded_ℕ coded_ℕ) (λ r. (r.first, r.pages)) (λ p. record { first = p.0; pages = p.1 }) (λ _. refl)

from_prop : (least most n : ℕ) → IsProp (IsFrom least most n)
from_prop least most n = ×_prop le_prop le_prop

-- the limits, as one product
abbrev LimitParts : Profile → Type 0
LimitParts p = IsFrom 1 16384 p.pages × (IsFrom 1 16 p.callers × (IsFrom 1 16 p.magazines × (IsFrom 0 1024 p.nano × ((p.nano ≤ p.pages) × (IsFrom 1 68719476735 p.most_gen × IsFrom 1 4 p.zones)))))

limit_parts : (p : Profile) → IsProp (LimitParts p)
limit_parts p =
    ×_prop (from_prop 1 16384 p.pages) (×_prop (from_prop 1 16 p.callers) (×_prop (from_prop 1 16 p.magazines) (×_prop (from_prop 0 1024 p.nano)
    (×_prop le_prop (×_prop (from_prop 1 68719476735 p.most_gen) (from_prop 1 4 p.zones))))))

abbrev parts_of : (p : Profile) → IsWithinLimits p → LimitParts p
parts_of p h = (h.pages, (h.callers, (h.magazines, (h.nano, (h.nano_within, (h.most_gen, h.zones))))))

abbrev of_parts : (p : Profile) → LimitParts p → IsWithinLimits p
of_parts p h = record { pages = h.0; callers = h.1.0; magazines = h.1.1.0; nano = h.1.1.1.0; nano_within = h.1.1.1.1.0; most_gen = h.1.1.1.1.1.0; zones = h.1.1.1.1.1.1 }

-- a profile is within its limits in one way at most
pub limits_once : (p : Profile) → IsProp (IsWithinLimits p)
limits_once p = λ x y. ap (of_parts p) (limit_parts p (parts_of p x) (parts_of p y))
