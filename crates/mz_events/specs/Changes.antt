-- What an event makes of what a place keeps. That a freed block is kept aside as the last one, and a freed large run in
-- a cache, is after libmalloc; all else is this project's own.
use Rattle.std.specs.Prelude.{ℕ, ◌+◌, ◌-◌, ◌==◌, Bool, not, List, [], ◌∷◌, ◌++◌, filter, fold, Option, Some, None, if◌then◌else◌}
use Rattle.mz_base.specs.Space.{Block, Run, run_at, blocks_apart, bytes_of, same_block, page_of}
use Rattle.mz_base.specs.Lists.{add_run, drop_run, add_block, drop_block}
use Rattle.mz_events.specs.declared.place.Place.{Place}
use Rattle.mz_events.specs.Places.{is_magazine, is_large, is_tiny, is_small}
use Rattle.mz_events.specs.State.{Kept}

-- the run of a large block
abbrev pub run_of : Block → Run
run_of b = run_at (page_of b.first) (page_of b.size)

-- the last freed block, where it is apart from this block
abbrev pub still_freed : Block → Option Block → Option Block
still_freed b None = None
still_freed b (Some f) = if blocks_apart f b then Some f else None

-- the place with a new block, whose run is no longer cached; a last freed block that it overlaps is none
abbrev pub with_block : Block → Kept → Kept
with_block b k = record k {
  live = add_block b k.live;
  last_freed = still_freed b k.last_freed;
  cached = filter (λ r. not (same_block b (bytes_of r))) k.cached;
}

-- The place without a block that ends: in a magazine it is the last freed block, in large its run is the newest
-- cached one.
abbrev pub without_block : Place → Block → Kept → Kept
without_block q b k = record k {
  live = drop_block b k.live;
  last_freed = if is_magazine q then Some b else None;
  cached = if is_large q then k.cached ++ run_of b ∷ [] else k.cached;
}

-- the place with c instead of the block b; a last freed block that c overlaps is none
abbrev pub resized : Block → Block → Kept → Kept
resized b c k = record k {
  live = add_block c (drop_block b k.live);
  last_freed = still_freed c k.last_freed;
}

-- the place with a run that it takes from the free pages
abbrev pub with_run : Run → Kept → Kept
with_run r k = record k { runs = add_run r k.runs }

-- the place without the run, with all that lies in it
abbrev pub without_run : Run → Kept → Kept
without_run r k = record k {
  runs = drop_run r k.runs;
  live = filter (λ b. blocks_apart b (bytes_of r)) k.live;
  last_freed = still_freed (bytes_of r) k.last_freed;
  cached = drop_run r k.cached;
}

-- the place with a region that comes from another place, and the live blocks in it
abbrev pub with_region : Run → List Block → Kept → Kept
with_region r live k = record k { runs = add_run r k.runs; live = fold (λ bs b. add_block b bs) k.live live }

-- 1 where the test holds: the regions of each range are counted as they are taken and come back
abbrev pub one_for : Bool → ℕ
one_for b = if b then 1 else 0

-- the free pages without the run, which goes to q
abbrev pub pages_without : Place → Run → Kept → Kept
pages_without q r p = record p {
  taken = add_run r p.taken;
  tiny_regions = p.tiny_regions + one_for (is_tiny q);
  small_regions = p.small_regions + one_for (is_small q);
}

-- the free pages with the run again, which comes from q
abbrev pub pages_with : Place → Run → Kept → Kept
pages_with q r p = record p {
  taken = drop_run r p.taken;
  tiny_regions = p.tiny_regions - one_for (is_tiny q);
  small_regions = p.small_regions - one_for (is_small q);
}

-- the region of a place that begins at this page
abbrev pub region_at : List Run → ℕ → Run
region_at [] f = run_at f 0
region_at (r ∷ rs) f = if r.first == f then r else region_at rs f
