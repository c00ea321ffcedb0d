-- A table whose seats are all in, with empty hands.
use Rattle.std.specs.Prelude.{◌≡◌, ℕ, ◌+◌, ◌-◌, ◌*◌, ◌==◌, ◌<◌, ◌≤◌, Bool, true, false, if◌then◌else◌, nat_lt, List, slice_index, slice_index_or, Option, Some}
use mathlib.Core.Option as m
use lib.ListN.{get_elem?}
use Rattle.atomic_table.specs.declared.owned.Closed.{Closed}
use Rattle.std.specs.declared.alloc.Global.{Global}
use Rattle.core.specs.Mem.Slots.{slots_items, slots_len}
use Rattle.mz_ground.specs.Views.{SpanView}
use Rattle.mz_nanoword.specs.Words.{word_of}
use Rattle.mz_nano.specs.declared.view.Geometry.{Geometry}
use Rattle.mz_nano.specs.Rule.{IsPiece, slots}

-- how many places of a block have a span, and where each begins in its page
abbrev pub pieces : ℕ → ℕ
pieces w = if (word_of w).state == 0 then 1 else slots (word_of w).state + 1

abbrev pub begins : ℕ → ℕ → ℕ
begins w j = if (word_of w).state == 0 then (if j == 0 then 0 else 16384) else (if nat_lt (slots (word_of w).state) j then 16384 else 16 * (word_of w).state * j)

pub record PieceAt (key : Geometry) (b w j : ℕ) (xs : List (Option SpanView)) : Type 0 where
  pub span : SpanView
  pub here : get_elem? xs (b * 1025 + j) ≡ m.some (Some span)
  pub piece : IsPiece key b (begins w j) (begins w (j + 1) - begins w j) span
  pub rises : begins w j ≤ begins w (j + 1)

pub record EndedBlock (key : Geometry) (b w : ℕ) (xs : List (Option SpanView)) : Type 0 where
  pub few : pieces w ≤ 1025
  pub start : begins w 0 ≡ 0
  pub end : begins w (pieces w) ≡ 16384
  pub each : (j : ℕ) → j < pieces w → PieceAt key b w j xs
  pub state : (word_of w).state ≤ 16
  pub small : w < 9223372036854775808

abbrev pub Ended : Geometry → List ℕ → List (Option SpanView) → Type 0
Ended key ws xs = (b : ℕ) → b < key.blocks → EndedBlock key b (slice_index ws b) xs

-- the places below `done` are taken
pub record TakenTo (done n : ℕ) (fs : List Bool) : Type 0 where
  pub below : (k : ℕ) → k < done → slice_index_or fs k false ≡ false
  pub above : (k : ℕ) → done ≤ k → k < n → slice_index_or fs k false ≡ true

-- only which places are taken has changed
pub record Steady (a b : Closed (Option SpanView) Global) : Type 0 where
  pub items : slots_items b.slots ≡ slots_items a.slots
  pub len : slots_len b.slots ≡ slots_len a.slots
  pub words : b.words ≡ a.words
