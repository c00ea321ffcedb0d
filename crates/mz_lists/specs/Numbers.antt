-- Numbers by place, as contracts see them. This project's own.
use Rattle.std.specs.Prelude.{ℕ, List, refl}
use Rattle.std.specs.Coded.{Coded, code_by, coded×, coded_list, coded_ℕ}

-- numbers by place, and the limit that each of them stays below
pub record NumbersView : Type 0 where
  pub items : List ℕ
  pub limit : ℕ

-- they are stored as the pair of these
abbrev pub numbers_code : Coded NumbersView
numbers_code =
    code_by (List ℕ × ℕ) (coded× (coded_list coded_ℕ) coded_ℕ) (λ n. (n.items, n.limit)) (λ p. record { items = p.0; limit = p.1 }) (λ _. refl)
