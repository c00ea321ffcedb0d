-- The places of the table at the start.
use Rattle.std.specs.Prelude.{◌≡◌, ℕ, ◌+◌, ◌*◌, ◌<◌, ◌≤◌, List, length, Option, Some, None}
use mathlib.Core.Option as m
use lib.ListN.{get_elem?}
use Rattle.mz_ground.specs.Views.{SpanView}
use Rattle.mz_nano.specs.declared.view.Geometry.{Geometry}
use Rattle.mz_nano.specs.Rule.{IsPiece}

-- the first k pages, each in the first place of its block
pub record Laid (key : Geometry) (k : ℕ) (xs : List (Option SpanView)) : Type 0 where
  pub len : length xs ≡ k * 1025
  pub page : (b : ℕ) → b < k → (s : SpanView) × (get_elem? xs (b * 1025) ≡ m.some (Some s)) × IsPiece key b 0 16384 s
  pub bare : (b j : ℕ) → b < k → 1 ≤ j → j ≤ 1024 → get_elem? xs (b * 1025 + j) ≡ m.some None
