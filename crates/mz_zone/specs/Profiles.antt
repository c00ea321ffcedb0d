-- Profiles as numbers, so that a ghost field can compare them.
use Rattle.std.specs.Prelude.{ℕ, refl}
use Rattle.std.specs.Coded.{Coded, code_by, coded×, coded_ℕ}
use Rattle.mz_base.specs.declared.profile.Profile.{Profile}

-- a profile is stored as the tuple of its fields
abbrev pub profile_code : Coded Profile
profile_code =
    code_by (ℕ × (ℕ × (ℕ × (ℕ × (ℕ × ℕ))))) (coded× coded_ℕ (coded× coded_ℕ (coded× coded_ℕ (coded× coded_ℕ (coded× coded_ℕ coded_ℕ)))))
    (λ p. (p.pages, (p.callers, (p.magazines, (p.nano, (p.most_gen, p.zones))))))
    (λ t. record { pages = t.0; callers = t.1.0; magazines = t.1.1.0; nano = t.1.1.1.0; most_gen = t.1.1.1.1.0; zones = t.1.1.1.1.1 })
    (λ _. refl)
