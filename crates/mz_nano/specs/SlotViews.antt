-- What a clause sees of a slot with its bytes. This project's own.
use Rattle.std.specs.Prelude.{◌≡◌, ℕ, ◌+◌, ◌*◌, ◌<◌, ◌≤◌, List, length, refl}
use Rattle.std.specs.Coded.{Coded, code_by, coded×, coded_ℕ}
use Rattle.mz_ground.specs.Views.{SpanView, span_code, with_bytes}
use Rattle.mz_nano.specs.Rule.{slots}

-- a slot by its block, its number there and its class, the first address of its nano's span, and its own span
pub record SlotView : Type 0 where
  pub block : ℕ
  pub slot : ℕ
  pub class : ℕ
  pub base : ℕ
  pub span : SpanView

-- it is stored as the tuple of its fields
abbrev pub slot_code : Coded SlotView
slot_code =
    code_by (ℕ × (ℕ × (ℕ × (ℕ × SpanView)))) (coded× coded_ℕ (coded× coded_ℕ (coded× coded_ℕ (coded× coded_ℕ span_code))))
    (λ s. (s.block, (s.slot, (s.class, (s.base, s.span))))) (λ p. record { block = p.0; slot = p.1.0; class = p.1.1.0; base = p.1.1.1.0; span = p.1.1.1.1 }) (λ _. refl)

-- it is one of the slots of its class, and the span is that of the slot in the pages that begin at the base
pub record IsPlaced (s : SlotView) : Type 0 where
  pub class_ : (1 ≤ s.class) × (s.class ≤ 16)
  pub slot : s.slot < slots s.class
  pub first : s.span.first ≡ s.base + s.block * 16384 + 16 * s.class * s.slot
  pub size : length s.span.bytes ≡ 16 * s.class

-- s with ws written over its bytes
abbrev pub with_slot_bytes : SlotView → List ℕ → SlotView
with_slot_bytes s ws = record s { span = with_bytes s.span ws }
