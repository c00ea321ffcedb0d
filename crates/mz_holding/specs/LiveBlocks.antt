-- What the engine's live blocks are, and when a run holds some. This project's own.
use Rattle.std.specs.Prelude.{ℕ, ◌+◌, ◌≡◌, ◌≤◌, false, List, IsTrue}
use Rattle.std.specs.List.{All}
use Rattle.std.specs.Coded.{Coded-set, coded_bool}
use Rattle.std.proofs.Props.{props}
use Rattle.mz_base.specs.Space.{Block, run_at, block_end}
use Rattle.mz_base.specs.Room.{lies_in, has_room}
use Rattle.mz_base.specs.Lists.{size_sum}
use Rattle.mz_holding.specs.declared.blocks.Blocks.{Blocks}
use Rattle.mz_holding.specs.Gaps.{blocks_of_pairs}

-- the blocks of a map from address to size
abbrev pub live_of : Blocks → List Block
live_of b = blocks_of_pairs b.sizes.entries

-- pages enough for any space: no run that is kept ends above it
abbrev pub page_limit : ℕ
page_limit = 16777216

-- a run of some pages within the limit holds these blocks, of so many bytes
abbrev pub IsHeld : ℕ → ℕ → ℕ → List Block → Type 0
IsHeld f w used live =
    (1 ≤ w) × (f + w ≤ page_limit) × All (λ b. IsTrue (lies_in (run_at f w) b.first (block_end b))) live × (used ≡ size_sum live)

-- and does so in one way at most
pub held_once : (f w used : ℕ) (live : List Block) → IsProp (IsHeld f w used live)
held_once f w used live = hlevel props

-- no idle run of a run has more bytes than these
abbrev pub IsIdleBound : ℕ → ℕ → ℕ → List Block → Type 0
IsIdleBound f w most live = has_room (run_at f w) live (most + 1) 1 ≡ false

-- and so in one way at most
pub bound_once : (f w most : ℕ) (live : List Block) → IsProp (IsIdleBound f w most live)
bound_once f w most live = Coded-set coded_bool _ _
