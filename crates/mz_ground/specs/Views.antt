-- What a clause sees of a span and of a ground. This project's own.
use Rattle.std.specs.Prelude.{◌≡◌, ℕ, ◌+◌, ◌≤◌, ◌⊎◌, List, Bool, ◌++◌, length, take, drop, refl}
use Rattle.std.specs.Coded.{Coded, code_by, coded×, coded_list, coded_ℕ, coded_bool}
use Rattle.mz_base.specs.Site.{Site, site_code}

-- a span: its space, its first address there, and its bytes
pub record SpanView : Type 0 where
  pub space : Site
  pub first : ℕ
  pub bytes : List ℕ

-- it is stored as the tuple of its fields
abbrev pub span_code : Coded SpanView
span_code =
    code_by (Site × (ℕ × List ℕ)) (coded× site_code (coded× coded_ℕ (coded_list coded_ℕ)))
    (λ h. (h.space, (h.first, h.bytes))) (λ p. record { space = p.0; first = p.1.0; bytes = p.1.1 }) (λ _. refl)

-- a ground: its space, its first address there, for each quantum whether it is lent, and its bytes. A lent quantum's bytes are those it was lent with
pub record GroundView : Type 0 where
  pub space : Site
  pub first : ℕ
  pub lent : List Bool
  pub bytes : List ℕ

-- it is stored as the tuple of its fields
abbrev pub ground_code : Coded GroundView
ground_code =
    code_by (Site × (ℕ × (List Bool × List ℕ))) (coded× site_code (coded× coded_ℕ (coded× (coded_list coded_bool) (coded_list coded_ℕ))))
    (λ g. (g.space, (g.first, (g.lent, g.bytes)))) (λ p. record { space = p.0; first = p.1.0; lent = p.1.1.0; bytes = p.1.1.1 }) (λ _. refl)

-- no address is in both the m bytes from a on and the n bytes from b on
abbrev pub AreApart : ℕ → ℕ → ℕ → ℕ → Type 0
AreApart a m b n = (m ≡ 0) ⊎ ((n ≡ 0) ⊎ ((a + m ≤ b) ⊎ (b + n ≤ a)))

-- s with ws written over its bytes
abbrev pub with_bytes : SpanView → List ℕ → SpanView
with_bytes s ws = record s { bytes = take (length s.bytes) (ws ++ drop (length ws) s.bytes) }
