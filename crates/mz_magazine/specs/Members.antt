-- Regions in a row, one by one, and what a search over them finds. This project's own.
use Rattle.std.specs.Prelude.{◌≡◌, ℕ, ◌+◌, ◌*◌, ◌≤◌, Bool, List, [], ◌∷◌, ◌++◌, map, length, Option, Some, None, IsTrue}
use Rattle.std.specs.List.{All, flat_map}
use Rattle.mz_base.specs.Site.{Site}
use Rattle.mz_base.specs.Space.{Block, block_at}
use Rattle.mz_base.specs.Lists.{size_sum}
use Rattle.mz_base.specs.Room.{has_room_within, is_front_within}
use Rattle.mz_ground.specs.Views.{SpanView}
use Rattle.mz_region.specs.Views.{RegionView, IsRegion, IsNewBlock}
use Rattle.mz_magazine.specs.Row.{RowView}

-- the space of regions, where there are some
abbrev pub space_of : List RegionView → Option Site
space_of [] = None
space_of (r ∷ rs) = Some r.space

-- all live blocks of regions
abbrev pub live_of : List RegionView → List Block
live_of rs = flat_map (λ r. r.live) rs

-- regions as a row
abbrev pub row_of : ℕ → List RegionView → RowView
row_of room rs = record { room = room; space = space_of rs; firsts = map (λ r. r.first) rs; live = live_of rs }

-- each is a region of N quanta of Q bytes and begins at or behind the end of the one before, the first at or above from
abbrev pub AreInOrder : ℕ → ℕ → ℕ → List RegionView → Type 0
AreInOrder Q N from [] = Unit {0}
AreInOrder Q N from (r ∷ rs) = (from ≤ r.first) × IsRegion Q N r × AreInOrder Q N (r.first + Q * N) rs

-- What a row keeps: its regions are in order and of one space, there is room for them, and its counts are those of their
-- live blocks.
pub record IsKept (Q N room : ℕ) (rs : List RegionView) (bytes count : ℕ) : Type 0 where
  pub order : AreInOrder Q N 0 rs
  pub one_space : All (λ r. space_of rs ≡ Some r.space) rs
  pub few : length rs ≤ room
  pub sum : bytes ≡ size_sum (live_of rs)
  pub counted : count ≡ length (live_of rs)

-- the region has room for n bytes at al
abbrev pub region_has_room : ℕ → ℕ → ℕ → RegionView → Bool
region_has_room len n al r = has_room_within r.first (r.first + len) r.live n al

-- One of the regions has a block more, of n bytes, which is at the front of an idle run with room at al.
pub record IsServed (Q N n al : ℕ) (old : List RegionView) (s : SpanView) (new : List RegionView) : Type 0 where
  pub before : List RegionView
  pub here : RegionView
  pub there : RegionView
  pub behind : List RegionView
  pub old_is : old ≡ before ++ here ∷ behind
  pub new_is : new ≡ before ++ there ∷ behind
  pub front : IsTrue (is_front_within here.first (here.first + Q * N) here.live (block_at s.first n) al)
  pub block : IsNewBlock here s n there
  pub region : IsRegion Q N there
