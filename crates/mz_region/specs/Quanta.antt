-- How a region's bits stand for its live blocks: for each quantum, whether a block begins there, and whether it is in use.
-- This project's own.
use Rattle.std.specs.Prelude.{◌≡◌, ℕ, ◌+◌, ◌*◌, List, [], ◌∷◌, Bool, true, false, not, ◌&&◌, if◌then◌else◌}
use Rattle.mz_base.specs.Space.{Block, block_at}

-- how many of the first quanta go on with a block that begins before them: they are in use, and no block begins there
unfoldable pub rest_of : List Bool → List Bool → ℕ
rest_of [] used = 0
rest_of (b ∷ begins) [] = 0
rest_of (b ∷ begins) (u ∷ used) = if u && not b then 1 + rest_of begins used else 0

-- the blocks in these quanta of Q bytes, of which the first is at the address a: each is a quantum at which a block begins,
-- with those that go on with it
unfoldable pub blocks_of : ℕ → ℕ → List Bool → List Bool → List Block
blocks_of Q a [] used = []
blocks_of Q a (b ∷ begins) [] = []
blocks_of Q a (b ∷ begins) (u ∷ used) =
    if b then block_at a (Q * (1 + rest_of begins used)) ∷ blocks_of Q (a + Q) begins used else blocks_of Q (a + Q) begins used

-- The bits fit together: there are as many of both, a quantum at which a block begins is in use, and each other one in use
-- follows one in use. Whether the quantum before these is in use is told.
abbrev pub FitTogether : Bool → List Bool → List Bool → Type 0
FitTogether before [] [] = Unit {0}
FitTogether before [] (u ∷ used) = ⊥
FitTogether before (b ∷ begins) [] = ⊥
FitTogether before (b ∷ begins) (u ∷ used) = (b ≡ true → u ≡ true) × (u ≡ true → b ≡ false → before ≡ true) × FitTogether u begins used
