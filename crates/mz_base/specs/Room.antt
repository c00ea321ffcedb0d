-- Idle runs of quanta, and free runs of pages, as tests. That a free block is joined with its free neighbours is
-- libmalloc's; all else is this project's own. `IdleRuns` and `FreeRuns` say in words what these tests find.
use Rattle.std.specs.Prelude.{ℕ, ◌+◌, ◌-◌, ◌*◌, ◌%◌, ◌==◌, Bool, nat_le, ◌&&◌, ◌||◌, not, List, [], ◌∷◌, map}
use Rattle.std.specs.List.{list_any, list_all}
use Rattle.mz_base.specs.declared.range.TheConstants.{PAGE}
use Rattle.mz_base.specs.Space.{Block, Run, block_at, run_at, block_end, run_end, blocks_apart, runs_apart, least_multiple}

-- A stretch of bytes is given by its first address, start, and the address after it, end. The bytes from x to y lie in it.
abbrev pub lies_within : ℕ → ℕ → ℕ → ℕ → Bool
lies_within start end x y = nat_le start x && nat_le y end

-- the bytes from x to y lie in the stretch, and in none of these blocks
abbrev pub is_idle : ℕ → ℕ → List Block → ℕ → ℕ → Bool
is_idle start end live x y = lies_within start end x y && list_all (λ b. blocks_apart b (block_at x (y - x))) live

-- Where an idle run of a stretch can begin: at its first byte, and behind each of the blocks.
abbrev pub starts_from : ℕ → List Block → List ℕ
starts_from start live = start ∷ map block_end live

-- The idle run that begins at x has room for n bytes at al: they are idle from x to the end of the n
-- bytes from the least multiple of al at or above x, which is its front.
abbrev pub has_room_within_from : ℕ → ℕ → List Block → ℕ → ℕ → ℕ → Bool
has_room_within_from start end live n al x = is_idle start end live x (least_multiple al x + n)

-- some idle run of the stretch has room for n bytes at al
abbrev pub has_room_within : ℕ → ℕ → List Block → ℕ → ℕ → Bool
has_room_within start end live n al = list_any (has_room_within_from start end live n al) (starts_from start live)

-- the block is at the front at al of an idle run of the stretch that has room for it
abbrev pub is_front_within : ℕ → ℕ → List Block → Block → ℕ → Bool
is_front_within start end live b al =
    list_any (λ x. (least_multiple al x == b.first) && has_room_within_from start end live b.size al x) (starts_from start live)

-- the same of a run of pages: the bytes from x to y lie in it
abbrev pub lies_in : Run → ℕ → ℕ → Bool
lies_in r x y = lies_within (r.first * PAGE) (run_end r * PAGE) x y

-- where its idle runs can begin
abbrev pub starts : Run → List Block → List ℕ
starts r live = starts_from (r.first * PAGE) live

-- the one that begins at x has room
abbrev pub has_room_from : Run → List Block → ℕ → ℕ → ℕ → Bool
has_room_from r live n al x = has_room_within_from (r.first * PAGE) (run_end r * PAGE) live n al x

-- some idle run of r has room for n bytes at al
abbrev pub has_room : Run → List Block → ℕ → ℕ → Bool
has_room r live n al = has_room_within (r.first * PAGE) (run_end r * PAGE) live n al

-- some idle run of these runs has room for n bytes at al
abbrev pub any_has_room : List Run → List Block → ℕ → ℕ → Bool
any_has_room rs live n al = list_any (λ r. has_room r live n al) rs

-- the block is at the front at al of an idle run of r that has room for it
abbrev pub is_front_of : Run → List Block → Block → ℕ → Bool
is_front_of r live b al = is_front_within (r.first * PAGE) (run_end r * PAGE) live b al

-- the same of some of these runs
abbrev pub is_at_front : List Run → List Block → Block → ℕ → Bool
is_at_front rs live b al = list_any (λ r. is_front_of r live b al) rs

-- the run's pages lie below top, and in none of the runs that are taken
abbrev pub is_free : ℕ → List Run → Run → Bool
is_free top taken r = nat_le (run_end r) top && list_all (λ t. runs_apart t r) taken

-- Where a free run of pages can begin: at page 0, and behind each run that is taken.
abbrev pub page_starts : List Run → List ℕ
page_starts taken = 0 ∷ map run_end taken

-- the w pages from the least multiple of al at or above x
abbrev pub run_from : ℕ → ℕ → ℕ → Run
run_from w al x = run_at (least_multiple al x) w

-- some free run has w pages at a multiple of al
abbrev pub has_free : ℕ → List Run → ℕ → ℕ → Bool
has_free top taken w al = list_any (λ x. is_free top taken (run_from w al x)) (page_starts taken)

-- r is the lowest free run of its length at al
abbrev pub is_lowest_free : ℕ → List Run → Run → ℕ → Bool
is_lowest_free top taken r al =
    (r.first % al == 0) && is_free top taken r
    && list_all (λ x. nat_le r.first (least_multiple al x) || not (is_free top taken (run_from r.pages al x))) (page_starts taken)
