-- Which space a span belongs to. This project's own.
use Rattle.std.specs.Prelude.{ℕ, refl}
use Rattle.std.specs.Coded.{Coded, code_by, coded×, coded_ℕ}

-- one space: the name of its tickets, in which block of memory and where there its first byte lies, and how many bytes it has
pub record Site : Type 0 where
  pub name : ℕ
  pub block : ℕ
  pub origin : ℕ
  pub size : ℕ

-- it is stored as the tuple of its fields
abbrev pub site_code : Coded Site
site_code =
    code_by (ℕ × (ℕ × (ℕ × ℕ))) (coded× coded_ℕ (coded× coded_ℕ (coded× coded_ℕ coded_ℕ)))
    (λ s. (s.name, (s.block, (s.origin, s.size)))) (λ p. record { name = p.0; block = p.1.0; origin = p.1.1.0; size = p.1.1.1 }) (λ _. refl)
