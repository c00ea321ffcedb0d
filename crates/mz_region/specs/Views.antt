-- What a clause sees of a region, and what becomes of it. This project's own.
use Rattle.std.specs.Prelude.{◌≡◌, ℕ, ◌+◌, ◌*◌, ◌<◌, ◌≤◌, ◌%◌, ◌^◌, List, [], ◌∷◌, length, refl}
use Rattle.std.specs.Coded.{Coded, code_by, coded×, coded_list, coded_ℕ}
use Rattle.std.specs.Int.{IsPowerOfTwo}
use Rattle.mz_base.specs.Site.{Site, site_code}
use Rattle.mz_base.specs.Space.{Block, block_at, block_end}
use Rattle.mz_base.specs.Codes.{block_code}
use Rattle.mz_base.specs.Lists.{add_block}
use Rattle.mz_ground.specs.Views.{SpanView}

-- a region: its space, its first address there, and its live blocks by address
pub record RegionView : Type 0 where
  pub space : Site
  pub first : ℕ
  pub live : List Block

-- a region is stored as the tuple of its fields
abbrev pub region_code : Coded RegionView
region_code =
    code_by (Site × (ℕ × List Block)) (coded× site_code (coded× coded_ℕ (coded_list block_code)))
    (λ r. (r.space, (r.first, r.live))) (λ p. record { space = p.0; first = p.1.0; live = p.1.1 }) (λ _. refl)

-- blocks in a row: each is some whole quanta of Q bytes at a multiple of Q, begins at or behind the end of the one before, the
-- first at or above start, and the last ends at or below end
abbrev pub AreInRow : ℕ → ℕ → ℕ → List Block → Type 0
AreInRow Q start end [] = start ≤ end
AreInRow Q start end (b ∷ bs) = (start ≤ b.first) × (b.first % Q ≡ 0) × (0 < b.size) × (b.size % Q ≡ 0) × AreInRow Q (block_end b) end bs

-- what holds of each region of N quanta of Q bytes: a quantum's bytes are a power of two, it begins at a multiple of its
-- length, lies in its space, which fits the machine, and its live blocks are in a row in it
pub record IsRegion (Q N : ℕ) (r : RegionView) : Type 0 where
  pub power : IsPowerOfTwo Q
  pub at : r.first % (Q * N) ≡ 0
  pub inside : r.first + Q * N ≤ r.space.size
  pub small : r.space.size < 2 ^ 63
  pub row : AreInRow Q r.first (r.first + Q * N) r.live

-- the span is a live block of n bytes that the region didn't have before
pub record IsNewBlock (old : RegionView) (s : SpanView) (n : ℕ) (new : RegionView) : Type 0 where
  pub space : s.space ≡ old.space
  pub size : length s.bytes ≡ n
  pub live : new ≡ record old { live = add_block (block_at s.first n) old.live }
