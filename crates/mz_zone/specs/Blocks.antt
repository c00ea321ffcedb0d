-- What contracts see of a block. That a block is in the hand of one caller is this project's own.
use Rattle.std.specs.Prelude.{◌≡◌, ℕ, ◌+◌, ◌*◌, ◌<◌, ◌≤◌, List, ◌∷◌, length, Option, None, Some}
use Rattle.mz_base.specs.Space.{Block, block_at}
use Rattle.mz_ground.specs.Views.{SpanView, with_bytes}
use Rattle.mz_rack.specs.Lots.{LotView}
use Rattle.mz_nano.specs.declared.view.Held.{Held}
use Rattle.mz_nano.specs.Lists.{without}
use Rattle.mz_nano.specs.Rule.{held, slots}
use Rattle.mz_nano.specs.SlotViews.{SlotView}

-- the number of its zone, and its span
pub record BlockView : Type 0 where
  pub zone : ℕ
  pub span : SpanView
  -- its slot, where it is a block of nano
  pub slot : Option Held
  -- the first address of its nano's span, where it is one, and else 0
  pub base : ℕ

abbrev pub of_lot : LotView → BlockView
of_lot l = record { zone = l.zone; span = l.span; slot = None; base = 0 }

-- all of nano is of zone 0
abbrev pub of_slot : SlotView → BlockView
of_slot s = record { zone = 0; span = s.span; slot = Some (held s.block s.slot s.class); base = s.base }

-- The block is that of a slot: the slot is one of its class, and the span is all of it in the pages that begin at the base.
pub record IsAtSlot (b : BlockView) (h : Held) : Type 0 where
  pub zone : b.zone ≡ 0
  pub class_ : (1 ≤ h.class) × (h.class ≤ 16)
  pub slot : h.slot < slots h.class
  pub first : b.span.first ≡ b.base + h.block * 16384 + 16 * h.class * h.slot
  pub size : length b.span.bytes ≡ 16 * h.class

-- where there is a slot
abbrev pub IsAtSlotIf : BlockView → Option Held → Type 0
IsAtSlotIf b None = Unit {0}
IsAtSlotIf b (Some h) = IsAtSlot b h

-- a block of nano is that of its slot
abbrev pub IsAtItsSlot : BlockView → Type 0
IsAtItsSlot b = IsAtSlotIf b b.slot

-- the block that it is, by address and size
abbrev pub block_of : BlockView → Block
block_of b = block_at b.span.first (length b.span.bytes)

-- b with ws written over its bytes
abbrev pub with_block_bytes : BlockView → List ℕ → BlockView
with_block_bytes b ws = record b { span = with_bytes b.span ws }

-- b with other bytes: its zone, its first address and its slot are those of b
abbrev pub at_its_place : BlockView → List ℕ → BlockView
at_its_place b bytes = record b { span = record b.span { bytes = bytes } }

-- a seat's hand with the slot of a block, where it is a block of nano
abbrev pub slot_added : Option Held → List Held → List Held
slot_added None hand = hand
slot_added (Some h) hand = h ∷ hand

abbrev pub hand_with : BlockView → List Held → List Held
hand_with b hand = slot_added b.slot hand

-- and without it
abbrev pub slot_dropped : Option Held → List Held → List Held
slot_dropped None hand = hand
slot_dropped (Some h) hand = without h.block h.slot hand

abbrev pub hand_without : BlockView → List Held → List Held
hand_without b hand = slot_dropped b.slot hand
