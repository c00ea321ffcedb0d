-- What a keeper of large runs keeps. This project's own.
use Rattle.std.specs.Prelude.{◌≡◌, ℕ, ◌+◌, ◌^◌, ◌≤◌, List, [], ◌∷◌, length, map, fold, Option, Some, None, IsTrue, refl}
use Rattle.std.specs.List.{All, list_all}
use Rattle.std.specs.Coded.{Coded, code_by, coded×, coded_ℕ, coded_list, coded_option}
use Rattle.mz_base.specs.Space.{Block, Run, block_at, bytes_of, blocks_apart}
use Rattle.mz_base.specs.Lists.{has_run, add_block}
use Rattle.mz_base.specs.Site.{Site, site_code}
use Rattle.mz_ground.specs.Views.{SpanView, span_code}
use Rattle.mz_events.specs.State.{Kept}
use Rattle.mz_events.specs.Codes.{kept_code}
use Rattle.mz_events.specs.Changes.{run_of, with_block, without_run}
use Rattle.mz_events.specs.Standing.{LargeKept}
use Rattle.mz_large.specs.Blocks.{IsTiled}

-- the bytes of a span as a block, and as a run of pages
abbrev pub block_of : SpanView → Block
block_of s = block_at s.first (length s.bytes)

abbrev pub run_of_span : SpanView → Run
run_of_span s = run_of (block_of s)

-- the space of spans, where there are some
abbrev pub space_of : List SpanView → Option Site
space_of [] = None
space_of (s ∷ ss) = Some s.space

-- the blocks of all runs: the live ones and those of the cached runs
abbrev pub all_blocks : List Block → List SpanView → List Block
all_blocks live cached = fold (λ bs s. add_block (block_of s) bs) live cached

-- what large keeps that has room for so many runs, these live blocks and these cached runs, the one freed first before the others
abbrev pub keeping_of : ℕ → List Block → List SpanView → LargeKept
keeping_of room live cached = record {
  room = room;
  space = space_of cached;
  kept = record {
    runs = map run_of (all_blocks live cached);
    live = live;
    last_freed = None;
    cached = map run_of_span cached;
    taken = [];
    tiny_regions = 0;
    small_regions = 0;
  };
}

-- it is stored as the tuple of its fields
abbrev pub large_code : Coded LargeKept
large_code =
    code_by (ℕ × (Option Site × Kept)) (coded× coded_ℕ (coded× (coded_option site_code) kept_code)) (λ v. (v.room, (v.space, v.kept)))
    (λ p. record { room = p.0; space = p.1.0; kept = p.1.1 }) (λ _. refl)

-- cached spans are stored as a list
abbrev pub spans_code : Coded (List SpanView)
spans_code = coded_list span_code

-- What holds of it: the blocks of all runs are whole pages apart from each other, there is room for them, and the cached
-- runs are of one space.
pub record IsLarge (room : ℕ) (live : List Block) (cached : List SpanView) : Type 0 where
  pub tiled : IsTiled (2 ^ 63) 0 (all_blocks live cached)
  pub few : length live + length cached ≤ room
  pub one_space : All (λ s. space_of cached ≡ Some s.space) cached

-- the span is all of a cached run, which holds no live block
pub record IsCached (v : LargeKept) (s : SpanView) : Type 0 where
  pub space : v.space ≡ Some s.space
  pub whole : bytes_of (run_of_span s) ≡ block_of s
  pub cached : IsTrue (has_run v.kept.cached (run_of_span s))
  pub run : IsTrue (has_run v.kept.runs (run_of_span s))
  pub apart : IsTrue (list_all (λ b. blocks_apart b (block_of s)) v.kept.live)

-- the space, as long as there are cached runs
abbrev pub space_while : List Run → Option Site → Option Site
space_while [] space = None
space_while (r ∷ rs) space = space

-- the span of a cached run is handed out, and the run is no longer one of large
pub record HandsOut (old : LargeKept) (s : SpanView) (new : LargeKept) : Type 0 where
  pub cached : IsCached old s
  pub left : new ≡ record old { space = space_while new.kept.cached old.space; kept = without_run (run_of_span s) old.kept }

-- the span of a cached run is handed out, and is a live block
pub record Reuses (old : LargeKept) (s : SpanView) (new : LargeKept) : Type 0 where
  pub cached : IsCached old s
  pub left : new ≡ record old { space = space_while new.kept.cached old.space; kept = with_block (block_of s) old.kept }
