-- What a clause sees of a row of regions, and what holds of it. This project's own.
use Rattle.std.specs.Prelude.{◌≡◌, ℕ, ◌+◌, ◌*◌, ◌%◌, ◌<◌, ◌≤◌, ◌^◌, ◌==◌, Bool, true, not, nat_lt, List, length, filter, fold, Option, Some, None, refl, if◌then◌else◌}
use Rattle.std.specs.List.{All, list_any}
use Rattle.std.specs.Coded.{Coded, code_by, coded×, coded_list, coded_option, coded_ℕ}
use Rattle.mz_base.specs.Site.{Site, site_code}
use Rattle.mz_base.specs.Space.{Block, block_at, block_end, blocks_apart}
use Rattle.mz_base.specs.Codes.{block_code}
use Rattle.mz_base.specs.Lists.{insert_by, add_block, size_sum}
use Rattle.mz_base.specs.Room.{lies_within, is_idle, has_room_within}
use Rattle.mz_ground.specs.Views.{SpanView}
use Rattle.mz_region.specs.Views.{RegionView}

-- regions in a row: for how many there is room, their space where there are some, their first addresses, and the live blocks of
-- all of them, both in order
pub record RowView : Type 0 where
  pub room : ℕ
  pub space : Option Site
  pub firsts : List ℕ
  pub live : List Block

-- a row is stored as the tuple of its fields
abbrev pub row_code : Coded RowView
row_code =
    code_by (ℕ × (Option Site × (List ℕ × List Block))) (coded× coded_ℕ (coded× (coded_option site_code) (coded× (coded_list coded_ℕ) (coded_list block_code))))
    (λ v. (v.room, (v.space, (v.firsts, v.live)))) (λ p. record { room = p.0; space = p.1.0; firsts = p.1.1.0; live = p.1.1.1 }) (λ _. refl)

-- the bytes from x to y lie in one of the regions, of len bytes each
abbrev pub lies_in_row : ℕ → List ℕ → ℕ → ℕ → Bool
lies_in_row len firsts x y = list_any (λ a. lies_within a (a + len) x y) firsts

-- and in none of the live blocks
abbrev pub is_idle_in : ℕ → List ℕ → List Block → ℕ → ℕ → Bool
is_idle_in len firsts live x y = list_any (λ a. is_idle a (a + len) live x y) firsts

-- the live blocks that lie in the stretch from start to end
abbrev pub blocks_within : ℕ → ℕ → List Block → List Block
blocks_within start end live = filter (λ b. lies_within start end b.first (block_end b)) live

-- the region that begins at a has no live block
abbrev pub is_unused_at : ℕ → List Block → ℕ → Bool
is_unused_at len live a = length (blocks_within a (a + len) live) == 0

-- less than three quarters of it are live
abbrev pub is_sparse_at : ℕ → List Block → ℕ → Bool
is_sparse_at len live a = nat_lt (4 * size_sum (blocks_within a (a + len) live)) (3 * len)

-- it has an idle run with room for n bytes at al
abbrev pub has_room_at : ℕ → List Block → ℕ → ℕ → ℕ → Bool
has_room_at len live n al a = has_room_within a (a + len) live n al

-- the row with a region more, at its place, and its live blocks
abbrev pub with_region_at : RegionView → RowView → RowView
with_region_at r v = record v {
  space = Some r.space;
  firsts = insert_by (λ a. a) r.first v.firsts;
  live = fold (λ bs b. add_block b bs) v.live r.live;
}

-- the row without the region that begins at a, and without what lies in it
abbrev pub without_region_at : ℕ → ℕ → RowView → RowView
without_region_at len a v =
    let left = filter (λ f. not (f == a)) v.firsts in
    record v {
      space = if length left == 0 then None else v.space;
      firsts = left;
      live = filter (λ b. blocks_apart b (block_at a len)) v.live;
    }

-- the span is n idle bytes of a region, whole quanta, and live now
pub record IsNewInRow (Q N : ℕ) (old : RowView) (s : SpanView) (n : ℕ) (new : RowView) : Type 0 where
  pub space : old.space ≡ Some s.space
  pub size : length s.bytes ≡ n
  pub some : 0 < n
  pub at : s.first % Q ≡ 0
  pub idle : is_idle_in (Q * N) old.firsts old.live s.first (s.first + n) ≡ true
  pub live : new ≡ record old { live = add_block (block_at s.first n) old.live }

-- What holds of each row of regions of N quanta of Q bytes: they begin at multiples of their length, fit the machine together,
-- and have the bytes of the live blocks.
pub record IsRow (Q N : ℕ) (v : RowView) : Type 0 where
  pub few : length v.firsts ≤ v.room
  pub aligned : All (λ a. a % (Q * N) ≡ 0) v.firsts
  pub small : Q * N * length v.firsts < 2 ^ 63
  pub sum : size_sum v.live ≤ Q * N * length v.firsts
