-- What a clause sees of a lot. This project's own.
use Rattle.std.specs.Prelude.{ℕ, List, refl}
use Rattle.std.specs.Coded.{Coded, code_by, coded×, coded_ℕ}
use Rattle.mz_ground.specs.Views.{SpanView, span_code, with_bytes}

-- the number of its zone, and its span
pub record LotView : Type 0 where
  pub zone : ℕ
  pub span : SpanView

-- it is stored as the tuple of its fields
abbrev pub lot_code : Coded LotView
lot_code = code_by (ℕ × SpanView) (coded× coded_ℕ span_code) (λ l. (l.zone, l.span)) (λ p. record { zone = p.0; span = p.1 }) (λ _. refl)

-- the lot with ws written over its bytes
abbrev pub with_lot_bytes : LotView → List ℕ → LotView
with_lot_bytes l ws = record l { span = with_bytes l.span ws }
