-- Which blocks count as live where room is looked for, and which cached runs fit. The last freed block and the cache are
-- after libmalloc; the two readings and the fit are this project's own.
use Rattle.std.specs.Prelude.{ℕ, ◌-◌, Bool, nat_lt, nat_le, ◌&&◌, List, [], ◌∷◌, ◌++◌, Option, Some, None, if◌then◌else◌}
use Rattle.std.specs.List.{list_any}
use Rattle.std.specs.Option.{option_to_list}
use Rattle.mz_base.specs.Space.{Block, Run}
use Rattle.mz_events.specs.State.{Kept}

-- the blocks that count as live in the wide reading: the last freed block is idle
abbrev pub wide : Kept → List Block
wide k = k.live

-- and in the narrow reading: the last freed block counts as live
abbrev pub narrow : Kept → List Block
narrow k = option_to_list k.last_freed ++ k.live

-- a cached run fits w pages where it has them and wastes fewer than w
abbrev pub run_fits : ℕ → Run → Bool
run_fits w r = nat_le w r.pages && nat_lt (r.pages - w) w

-- some cached run fits w pages
abbrev pub any_fits : List Run → ℕ → Bool
any_fits cached w = list_any (run_fits w) cached

-- of two runs that fit the one with fewer pages, and of equals the first
abbrev pub better : Run → Option Run → Run
better r None = r
better r (Some t) = if nat_lt t.pages r.pages then t else r

-- the best fit for w pages among the cached runs, which stand in order of freeing
unfoldable pub best_fit : List Run → ℕ → Option Run
best_fit [] w = None
best_fit (r ∷ rs) w = if run_fits w r then Some (better r (best_fit rs w)) else best_fit rs w
