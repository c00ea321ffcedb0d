-- Blocks of whole pages in the order of their addresses. This project's own.
use Rattle.std.specs.Prelude.{◌≡◌, ℕ, ◌/◌, ◌%◌, ◌<◌, ◌≤◌, List, [], ◌∷◌, length, refl}
use Rattle.std.specs.List.{AllWithin}
use Rattle.std.specs.Coded.{Coded, code_by, coded×, coded_list, coded_ℕ}
use Rattle.mz_base.specs.declared.range.TheConstants.{PAGE}
use Rattle.mz_base.specs.Space.{Block, block_end}
use Rattle.mz_base.specs.Codes.{block_code}

-- the block is some whole pages
pub record IsPaged (b : Block) : Type 0 where
  pub first : b.first % PAGE ≡ 0
  pub size : b.size % PAGE ≡ 0
  pub some : PAGE ≤ b.size

-- Blocks are tiled from x to end: each is some whole pages, and begins at or behind the end of the one before, the first at
-- or behind x; the last ends at or before end.
abbrev pub IsTiled : ℕ → ℕ → List Block → Type 0
IsTiled end x [] = x ≤ end
IsTiled end x (b ∷ bs) = (x ≤ b.first) × IsPaged b × IsTiled end (block_end b) bs

-- blocks, and for how many there is room
pub record BlocksView : Type 0 where
  pub room : ℕ
  pub blocks : List Block

-- they are stored as the pair of these
abbrev pub blocks_code : Coded BlocksView
blocks_code = code_by (ℕ × List Block) (coded× coded_ℕ (coded_list block_code)) (λ v. (v.room, v.blocks)) (λ p. record { room = p.0; blocks = p.1 }) (λ _. refl)

-- The blocks with a first address below t stand before the place, and the others behind it.
pub record IsPlaceOf (blocks : List Block) (t place : ℕ) : Type 0 where
  pub within : place ≤ length blocks
  pub before : AllWithin (λ c. c.first < t) blocks 0 place
  pub behind : AllWithin (λ c. t ≤ c.first) blocks place (length blocks)

-- The blocks that begin in this page or before it stand before the place, and the others behind it.
pub record IsPlaceBehind (blocks : List Block) (page place : ℕ) : Type 0 where
  pub within : place ≤ length blocks
  pub before : AllWithin (λ c. c.first / PAGE ≤ page) blocks 0 place
  pub behind : AllWithin (λ c. page < c.first / PAGE) blocks place (length blocks)
