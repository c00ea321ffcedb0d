-- Lists of blocks and of runs: which are there, with one more, without one. The lists that states and regions
-- keep are ascending. This project's own.
use Rattle.std.specs.Prelude.{ℕ, ◌*◌, ◌==◌, Bool, nat_lt, not, List, [], ◌∷◌, filter, find, sum_by, Some, None, if◌then◌else◌}
use Rattle.std.specs.List.{list_any}
use Rattle.mz_base.specs.declared.range.TheConstants.{PAGE}
use Rattle.mz_base.specs.Space.{Block, Run, block_end, same_block, same_run}
use Rattle.mz_base.specs.Room.{lies_in}

-- the run, or the block, is one of these
abbrev pub has_run : List Run → Run → Bool
has_run rs r = list_any (same_run r) rs

abbrev pub has_block : List Block → Block → Bool
has_block bs b = list_any (same_block b) bs

-- the list with x before the first element of a greater key
unfoldable pub insert_by : {A : Type 0} → (A → ℕ) → A → List A → List A
insert_by key x [] = x ∷ []
insert_by key x (y ∷ ys) = if nat_lt (key x) (key y) then x ∷ y ∷ ys else y ∷ insert_by key x ys

-- the runs with this one among them, by first page
abbrev pub add_run : Run → List Run → List Run
add_run r rs = insert_by (λ t. t.first) r rs

-- the runs without this one
abbrev pub drop_run : Run → List Run → List Run
drop_run r rs = filter (λ t. not (same_run r t)) rs

-- the blocks with this one among them, by address
abbrev pub add_block : Block → List Block → List Block
add_block b bs = insert_by (λ c. c.first) b bs

-- the blocks without this one
abbrev pub drop_block : Block → List Block → List Block
drop_block b bs = filter (λ c. not (same_block b c)) bs

-- the size of the block that begins at the address a, and 0 where none does
abbrev pub size_at : List Block → ℕ → ℕ
size_at bs a = elim (find (λ b. b.first == a) bs) [ None ↦ 0 | Some b ↦ b.size ]

-- the blocks that lie in the run
abbrev pub blocks_in : List Block → Run → List Block
blocks_in live r = filter (λ b. lies_in r b.first (block_end b)) live

-- the bytes of these blocks
abbrev pub size_sum : List Block → ℕ
size_sum live = sum_by (λ b. b.size) live

-- the bytes of a run
abbrev pub run_bytes : Run → ℕ
run_bytes r = r.pages * PAGE
