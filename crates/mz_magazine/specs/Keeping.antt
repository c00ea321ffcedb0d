-- What a row of regions and a last freed block are, as a keeper of regions keeps them. This project's own.
use Rattle.std.specs.Prelude.{◌≡◌, ℕ, ◌+◌, ◌*◌, ◌/◌, ◌%◌, ◌<◌, Bool, true, [], map, Option, MatchOption, refl}
use Rattle.std.specs.Coded.{Coded, code_by, coded×, coded_ℕ, coded_bool, coded_option}
use Rattle.std.specs.Option.{option_map}
use Rattle.mz_base.specs.declared.range.TheConstants.{PAGE}
use Rattle.mz_base.specs.Space.{Block, Run, block_at, run_at}
use Rattle.mz_base.specs.Site.{Site, site_code}
use Rattle.mz_events.specs.State.{Kept}
use Rattle.mz_events.specs.Codes.{kept_code}
use Rattle.mz_events.specs.Standing.{RegionsKept}
use Rattle.mz_magazine.specs.Row.{RowView, is_idle_in}

-- A region of N quanta of Q bytes is some whole pages. Runs are counted in pages, so they tell such regions alone.
abbrev pub IsWholePages : ℕ → ℕ → Type 0
IsWholePages Q N = ((Q * N) % PAGE ≡ 0) × (0 < Q * N)

-- the pages of the region that begins at the address a
abbrev pub run_from : ℕ → ℕ → ℕ → Run
run_from Q N a = run_at (a / PAGE) (Q * N / PAGE)

-- the last freed block, as its address and its size
abbrev pub freed_at : Option (ℕ × ℕ) → Option Block
freed_at freed = option_map (λ p. block_at p.0 p.1) freed

-- what a depot, or a magazine, keeps that has these regions and this last freed block
abbrev pub keeping_of : ℕ → ℕ → Bool → RowView → Option (ℕ × ℕ) → RegionsKept
keeping_of Q N depot v freed = record {
  depot = depot;
  quantum = Q;
  pages = Q * N / PAGE;
  room = v.room;
  space = v.space;
  kept = record {
    runs = map (run_from Q N) v.firsts;
    live = v.live;
    last_freed = freed_at freed;
    cached = [];
    taken = [];
    tiny_regions = 0;
    small_regions = 0;
  };
}

-- it is stored as the tuple of its fields
abbrev pub keeping_code : Coded RegionsKept
keeping_code =
    code_by (Bool × (ℕ × (ℕ × (ℕ × (Option Site × Kept))))) (coded× coded_bool (coded× coded_ℕ (coded× coded_ℕ (coded× coded_ℕ (coded× (coded_option site_code) kept_code)))))
    (λ k. (k.depot, (k.quantum, (k.pages, (k.room, (k.space, k.kept))))))
    (λ p. record { depot = p.0; quantum = p.1.0; pages = p.1.1.0; room = p.1.1.1.0; space = p.1.1.1.1.0; kept = p.1.1.1.1.1 }) (λ _. refl)

-- the bytes of the last freed block are some whole quanta, and idle
abbrev pub IsIdleFreed : ℕ → ℕ → RowView → Option (ℕ × ℕ) → Type 0
IsIdleFreed Q N v freed = MatchOption freed (Unit {0}) (λ p. (p.0 % Q ≡ 0) × (p.1 % Q ≡ 0) × (0 < p.1) × (is_idle_in (Q * N) v.firsts v.live p.0 (p.0 + p.1) ≡ true))
