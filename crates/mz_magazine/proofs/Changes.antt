-- What a row is where a block of one of its regions is taken back or resized, and with a region more or fewer.
use Rattle.std.proofs.Common.{◌≡◌, ℕ, zero, suc, set, Result, Ok, Err, MatchResult, is_ok, IsTrue, ◌+◌, ◌-◌, ◌*◌, ◌%◌, ◌^◌, ◌<◌, ◌≤◌, ◌⊎◌, List, [], ◌∷◌, ◌++◌, Bool, true, false, not, Option, Some, None, length, map, get_or, take, drop, refl, sym, ap, ◌∙◌, subst, inl, inr, arith}
use Rattle.std.specs.Prelude.{◌==◌, nat_le, filter}
use Rattle.std.specs.List.{All, HoldsAt, list_any, list_all}
use Rattle.std.proofs.Math.Nat.{mul-le-mul_left}
use Rattle.std.proofs.lemmas.Bool.{cases_Bool, and_parts, and_from, and_left, or_cases, or_parts, or_left, or_from, or_right, le-leb, eqb-true, ne_eqb, cond-true, cond-false, not_from_true, not_from_false, false≢true, false_from_ne_true}
use Rattle.std.proofs.lemmas.List.{map-append, length-append, length-map, get_or_default, get_or-map, set-get_or}
use Rattle.std.proofs.lemmas.List.Sums.{sum_by-append, sum_by-cons}
use Rattle.std.proofs.lemmas.List.Elements.{All-nil, All-cons, All-weaker, All-append, All-map, All-same}
use Rattle.mz_base.specs.Space.{Block, block_at, block_end, blocks_apart, same_block}
use Rattle.mz_base.specs.Lists.{add_block, drop_block, has_block, size_at, size_sum}
use Rattle.mz_base.specs.Room.{lies_within, is_idle, has_room_within, is_front_within}
use Rattle.mz_base.specs.IdleRuns.{MeetsNone}
use Rattle.mz_region.specs.Views.{RegionView, AreInRow, IsRegion}
use Rattle.mz_magazine.specs.Row.{RowView, is_idle_in, lies_in_row, blocks_within, has_room_at}
use Rattle.mz_magazine.specs.Members.{space_of, live_of, row_of, AreInOrder, IsKept, region_has_room}
use Rattle.mz_magazine.proofs.Idle.{test_from_idle, idle_from_test}
use Rattle.mz_magazine.proofs.Lists.{any_right, filter_all, any_nothing, find_nothing, same_tests, sum_inserted, length_inserted}
use Rattle.mz_magazine.proofs.Rooms.{power_some}
use Rattle.mz_magazine.proofs.Parts.{InRow, each_in_row, row_ends, idle_one, idle_all, add_same, drop_same, has_same, size_same, front_all, room_same, its_blocks}
use Rattle.mz_magazine.proofs.Order.{first_of, order_here, blocks_before, blocks_behind, live_parts, firsts_replace, space_replace, kept_replaced, order_fits, order_sizes}
use Rattle.mz_magazine.proofs.Searches.{split_here}
use Rattle.mz_magazine.proofs.Rows.{Around, lies_here}

-- a block that is among those of a region, and the others
pub record Dropped (Q s e : ℕ) (L : List Block) (b : Block) : Type 0 where
  pub one : InRow Q s e b
  pub sum : size_sum (drop_block b L) + b.size ≡ size_sum L
  pub number : length (drop_block b L) + 1 ≡ length L
  pub meets : MeetsNone (drop_block b L) b.first (block_end b)

other_block : (b c : Block) → (b.first ≡ c.first → ⊥) → same_block b c ≡ false
other_block b c other = and_left (b.first == c.first) (b.size == c.size) (ne_eqb b.first c.first other)

pub dropped : (Q s e : ℕ) (L : List Block) (b : Block) → AreInRow Q s e L → has_block L b ≡ true → Dropped Q s e L b
dropped Q s e [] b row h = absurd (false≢true h)
dropped Q s e (c ∷ cs) b row h =
    let low = row.0 in
    let some = row.2 in
    let parts = sum_by-cons (λ (d : Block). d.size) c cs in
    let up = row_ends Q (block_end c) e cs row.4 in
    elim (or_cases (same_block b c) (has_block cs b) h) [
      | inl same ↦
          let both = and_parts (b.first == c.first) (b.size == c.size) same in
          let at = eqb-true b.first c.first both.0 in
          let long = eqb-true b.size c.size both.1 in
          let behind = each_in_row Q (block_end c) e cs row.4 in
          let rest : drop_block b cs ≡ cs = filter_all (λ d. not (same_block b d)) cs (All-weaker (InRow Q (block_end c) e) (λ d. not (same_block b d) ≡ true) (λ d k. let from = k.low in not_from_false (same_block b d) (other_block b d (λ e. omega arith))) cs behind) in
          let all : drop_block b (c ∷ cs) ≡ cs = cond-false (not (same_block b c)) (c ∷ drop_block b cs) (drop_block b cs) (not_from_true (same_block b c) same) ∙ rest in
          let sum = ap size_sum all in
          let number = ap (λ l. length l) all in
          let P : Block → Type 0 = λ d. (block_end d ≤ b.first) ⊎ (block_end b ≤ d.first) in
          record {
            one = record { some = omega arith; low = omega arith; high = omega arith; at = ap (λ n. n % Q) at ∙ row.1; whole = ap (λ n. n % Q) long ∙ row.3 };
            sum = omega arith;
            number = omega arith;
            meets = All-same P (drop_block b (c ∷ cs)) cs all (All-weaker (InRow Q (block_end c) e) P (λ d k. let from = k.low in inr (omega arith)) cs behind);
          }
      | inr later ↦
          let rest = dropped Q (block_end c) e cs b row.4 later in
          let from = (rest.one).low in
          let all : drop_block b (c ∷ cs) ≡ c ∷ drop_block b cs = cond-true (not (same_block b c)) (c ∷ drop_block b cs) (drop_block b cs) (not_from_false (same_block b c) (other_block b c (λ e. omega arith))) in
          let less = sum_by-cons (λ (d : Block). d.size) c (drop_block b cs) in
          let sum = ap size_sum all in
          let number = ap (λ l. length l) all in
          let had = rest.sum in
          let count = rest.number in
          let P : Block → Type 0 = λ d. (block_end d ≤ b.first) ⊎ (block_end b ≤ d.first) in
          record {
            one = record { some = (rest.one).some; low = omega arith; high = (rest.one).high; at = (rest.one).at; whole = (rest.one).whole };
            sum = omega arith;
            number = omega arith;
            meets = All-same P (drop_block b (c ∷ cs)) (c ∷ drop_block b cs) all (All-cons P c (drop_block b cs) (inl from) rest.meets);
          }
    ]

-- a filter of a row is one
row_lower : (Q s s' e : ℕ) (L : List Block) → s ≤ s' → AreInRow Q s' e L → AreInRow Q s e L
row_lower Q s s' e [] low row = omega arith
row_lower Q s s' e (c ∷ cs) low row = let above = row.0 in (omega arith, row.1, row.2, row.3, row.4)

pub row_filter : (p : Block → Bool) (Q s e : ℕ) (L : List Block) → AreInRow Q s e L → AreInRow Q s e (filter p L)
row_filter p Q s e [] row = row
row_filter p Q s e (c ∷ cs) row =
    let low = row.0 in
    let some = row.2 in
    let rest = row_filter p Q (block_end c) e cs row.4 in
    elim (cases_Bool (p c)) [
      | inl keep ↦ subst (AreInRow Q s e) (sym (cond-true (p c) (c ∷ filter p cs) (filter p cs) keep)) (row.0, row.1, row.2, row.3, rest)
      | inr drop ↦ subst (AreInRow Q s e) (sym (cond-false (p c) (c ∷ filter p cs) (filter p cs) drop)) (row_lower Q s (block_end c) e (filter p cs) (omega arith) rest)
    ]

-- whether bytes that begin in a region are idle in the row, whatever row of blocks the region has
pub idle_same : (Q N : ℕ) (front : List RegionView) (r : RegionView) (back : List RegionView) (ys : List Block) (x y : ℕ) → AreInOrder Q N 0 (front ++ r ∷ back) → AreInRow Q r.first (r.first + Q * N) ys → r.first ≤ x → x < r.first + Q * N → x < y
    → is_idle_in (Q * N) (map first_of (front ++ r ∷ back)) (live_of front ++ (ys ++ live_of back)) x y ≡ is_idle r.first (r.first + Q * N) ys x y
idle_same Q N front r back ys x y h row low high up =
    let whole = live_of front ++ (ys ++ live_of back) in
    let here = order_here Q N 0 front r back h in
    let before = blocks_before Q N 0 front r back h in
    let behind = blocks_behind Q N (r.first + Q * N) back here.2 in
    lies_here Q N (λ a. list_all (λ b. blocks_apart b (block_at x (y - x))) (live_of front ++ (ys ++ live_of back))) front r back x y h low high up
    ∙ same_tests (is_idle r.first (r.first + Q * N) (live_of front ++ (ys ++ live_of back)) x y) (is_idle r.first (r.first + Q * N) ys x y)
    (λ test. test_from_idle r.first (r.first + Q * N) ys x y (idle_one Q r.first (r.first + Q * N) (live_of front) ys (live_of back) before behind row x y (idle_from_test r.first (r.first + Q * N) (live_of front ++ (ys ++ live_of back)) x y up test)))
    (λ test. test_from_idle r.first (r.first + Q * N) (live_of front ++ (ys ++ live_of back)) x y (idle_all Q r.first (r.first + Q * N) (live_of front) ys (live_of back) before behind row x y (idle_from_test r.first (r.first + Q * N) ys x y up test)))

pub idle_around : (Q N : ℕ) (rs : List RegionView) (front : List RegionView) (r : RegionView) (back : List RegionView) (x y : ℕ) → rs ≡ front ++ r ∷ back → AreInOrder Q N 0 rs → r.first ≤ x → x < r.first + Q * N → x < y
    → is_idle_in (Q * N) (map first_of rs) (live_of rs) x y ≡ is_idle r.first (r.first + Q * N) r.live x y
idle_around Q N rs front r back x y e h low high up =
    let h' = subst (AreInOrder Q N 0) e h in
    ap (λ l. is_idle_in (Q * N) (map first_of l) (live_of l) x y) e
    ∙ ap (λ l. is_idle_in (Q * N) (map first_of (front ++ r ∷ back)) l x y) (live_parts front r back)
    ∙ idle_same Q N front r back r.live x y h' ((order_here Q N 0 front r back h').1).row low high up

-- a row with a block fewer
pub record Taken (Q N room : ℕ) (old : List RegionView) (bytes count : ℕ) (b : Block) (new : List RegionView) : Type 0 where
  pub bytes_fit : b.size ≤ bytes
  pub count_fits : 1 ≤ count
  pub kept : IsKept Q N room new (bytes - b.size) (count - 1)
  pub has : has_block (live_of old) b ≡ true
  pub row : row_of room new ≡ record (row_of room old) { live = drop_block b (live_of old) }
  pub one : (b.first % Q ≡ 0) × (b.size % Q ≡ 0) × (0 < b.size)
  pub idle : is_idle_in (Q * N) (map first_of new) (live_of new) b.first (block_end b) ≡ true

same_row : (room : ℕ) (front : List RegionView) (r t : RegionView) (back : List RegionView) (L : List Block) → t.first ≡ r.first → t.space ≡ r.space → live_of (front ++ t ∷ back) ≡ L → row_of room (front ++ t ∷ back) ≡ record (row_of room (front ++ r ∷ back)) { live = L }
same_row room front r t back L at space live =
    ap (λ x. record { room = room; space = x; firsts = map first_of (front ++ t ∷ back); live = live_of (front ++ t ∷ back) }) (space_replace front r t back space)
    ∙ ap (λ x. record { room = room; space = space_of (front ++ r ∷ back); firsts = x; live = live_of (front ++ t ∷ back) }) (firsts_replace front r t back at)
    ∙ ap (λ x. record { room = room; space = space_of (front ++ r ∷ back); firsts = map first_of (front ++ r ∷ back); live = x }) live

taken_here : (Q N room bytes count : ℕ) (b : Block) (front : List RegionView) (r t : RegionView) (back : List RegionView) → IsKept Q N room (front ++ r ∷ back) bytes count → t ≡ record r { live = drop_block b r.live } → has_block r.live b ≡ true → IsRegion Q N t
    → Taken Q N room (front ++ r ∷ back) bytes count b (front ++ t ∷ back)
taken_here Q N room bytes count b front r t back h change has is =
    let here = order_here Q N 0 front r back h.order in
    let e = r.first + Q * N in
    let before = blocks_before Q N 0 front r back h.order in
    let behind = blocks_behind Q N (r.first + Q * N) back here.2 in
    let at : t.first ≡ r.first = ap (λ (v : RegionView). v.first) change in
    let space : t.space ≡ r.space = ap (λ (v : RegionView). v.space) change in
    let blocks : t.live ≡ drop_block b r.live = ap (λ (v : RegionView). v.live) change in
    let gone = dropped Q r.first (r.first + Q * N) r.live b (here.1).row has in
    let low = (gone.one).low in
    let high = (gone.one).high in
    let some = (gone.one).some in
    let parts : live_of (front ++ t ∷ back) ≡ live_of front ++ (drop_block b r.live ++ live_of back) = live_parts front t back ∙ ap (λ l. live_of front ++ (l ++ live_of back)) blocks in
    let live : live_of (front ++ t ∷ back) ≡ drop_block b (live_of (front ++ r ∷ back)) =
    parts ∙ sym (drop_same Q r.first (r.first + Q * N) (live_of front) r.live (live_of back) before behind (here.1).row b low (omega arith)) ∙ ap (drop_block b) (sym (live_parts front r back)) in
    let size : Block → ℕ = λ c. c.size in
    let old_sum = ap size_sum (live_parts front r back) in
    let old_sum_1 = sum_by-append size (live_of front) (r.live ++ live_of back) in
    let old_sum_2 = sum_by-append size r.live (live_of back) in
    let new_sum = ap size_sum parts in
    let new_sum_1 = sum_by-append size (live_of front) (drop_block b r.live ++ live_of back) in
    let new_sum_2 = sum_by-append size (drop_block b r.live) (live_of back) in
    let old_number = ap (λ l. length l) (live_parts front r back) in
    let old_number_1 = length-append (live_of front) (r.live ++ live_of back) in
    let old_number_2 = length-append r.live (live_of back) in
    let new_number = ap (λ l. length l) parts in
    let new_number_1 = length-append (live_of front) (drop_block b r.live ++ live_of back) in
    let new_number_2 = length-append (drop_block b r.live) (live_of back) in
    let sum = gone.sum in
    let number = gone.number in
    let had = h.sum in
    let counted = h.counted in
    let row : AreInRow Q r.first (r.first + Q * N) (drop_block b r.live) = row_filter (λ c. not (same_block b c)) Q r.first (r.first + Q * N) r.live (here.1).row in
    record {
      bytes_fit = omega arith;
      count_fits = omega arith;
      kept = kept_replaced Q N room front r t back bytes count (bytes - b.size) (count - 1) h at space is (omega arith) (omega arith);
      has = ap (λ l. has_block l b) (live_parts front r back) ∙ has_same Q r.first (r.first + Q * N) (live_of front) r.live (live_of back) before behind (here.1).row b low (omega arith) ∙ has;
      row = same_row room front r t back (drop_block b (live_of (front ++ r ∷ back))) at space live;
      one = ((gone.one).at, (gone.one).whole, (gone.one).some);
      idle = ap (λ l. is_idle_in (Q * N) l (live_of (front ++ t ∷ back)) b.first (block_end b)) (firsts_replace front r t back at)
          ∙ ap (λ l. is_idle_in (Q * N) (map first_of (front ++ r ∷ back)) l b.first (block_end b)) parts
          ∙ idle_same Q N front r back (drop_block b r.live) b.first (block_end b) h.order row low (omega arith) (omega arith)
          ∙ test_from_idle r.first (r.first + Q * N) (drop_block b r.live) b.first (block_end b) (record { some = omega arith; not_below = low; not_above = high; meets_none = gone.meets });
    }

pub taken : (Q N room bytes count : ℕ) (b : Block) (old new : List RegionView) (r t : RegionView) → Around old r t new → IsKept Q N room old bytes count → t ≡ record r { live = drop_block b r.live } → has_block r.live b ≡ true → IsRegion Q N t → Taken Q N room old bytes count b new
taken Q N room bytes count b old new r t place h change has is =
    let from : IsKept Q N room (place.front ++ r ∷ place.back) bytes count = subst (λ l. IsKept Q N room l bytes count) place.old_is h in
    subst (λ l. Taken Q N room l bytes count b new) (sym place.old_is)
    (subst (λ l. Taken Q N room (place.front ++ r ∷ place.back) bytes count b l) (sym place.new_is) (taken_here Q N room bytes count b place.front r t place.back from change has is))

-- a row with another block in the place of one, at its address
pub record Resized (Q N room : ℕ) (old : List RegionView) (bytes count : ℕ) (b : Block) (m : ℕ) (new : List RegionView) : Type 0 where
  pub bytes_fit : b.size ≤ bytes
  pub sum_fits : bytes - b.size + m < 2 ^ 64
  pub kept : IsKept Q N room new (bytes - b.size + m) count
  pub row : row_of room new ≡ record (row_of room old) { live = add_block (block_at b.first m) (drop_block b (live_of old)) }

resized_here : (Q N room bytes count : ℕ) (b : Block) (m : ℕ) (front : List RegionView) (r t : RegionView) (back : List RegionView) → IsKept Q N room (front ++ r ∷ back) bytes count → t ≡ record r { live = add_block (block_at b.first m) (drop_block b r.live) } → has_block r.live b ≡ true → IsRegion Q N t
    → Resized Q N room (front ++ r ∷ back) bytes count b m (front ++ t ∷ back)
resized_here Q N room bytes count b m front r t back h change has is =
    let c = block_at b.first m in
    let here = order_here Q N 0 front r back h.order in
    let before = blocks_before Q N 0 front r back h.order in
    let behind = blocks_behind Q N (r.first + Q * N) back here.2 in
    let at : t.first ≡ r.first = ap (λ (v : RegionView). v.first) change in
    let space : t.space ≡ r.space = ap (λ (v : RegionView). v.space) change in
    let blocks : t.live ≡ add_block c (drop_block b r.live) = ap (λ (v : RegionView). v.live) change in
    let gone = dropped Q r.first (r.first + Q * N) r.live b (here.1).row has in
    let low = (gone.one).low in
    let high = (gone.one).high in
    let some = (gone.one).some in
    let row : AreInRow Q r.first (r.first + Q * N) (drop_block b r.live) = row_filter (λ d. not (same_block b d)) Q r.first (r.first + Q * N) r.live (here.1).row in
    let parts : live_of (front ++ t ∷ back) ≡ live_of front ++ (add_block c (drop_block b r.live) ++ live_of back) = live_parts front t back ∙ ap (λ l. live_of front ++ (l ++ live_of back)) blocks in
    let live : live_of (front ++ t ∷ back) ≡ add_block c (drop_block b (live_of (front ++ r ∷ back))) =
    parts ∙ sym (add_same Q r.first (r.first + Q * N) (live_of front) (drop_block b r.live) (live_of back) before behind row c low (omega arith))
    ∙ ap (add_block c) (sym (drop_same Q r.first (r.first + Q * N) (live_of front) r.live (live_of back) before behind (here.1).row b low (omega arith)) ∙ ap (drop_block b) (sym (live_parts front r back))) in
    let size : Block → ℕ = λ d. d.size in
    let key : Block → ℕ = λ d. d.first in
    let old_sum = ap size_sum (live_parts front r back) in
    let old_sum_1 = sum_by-append size (live_of front) (r.live ++ live_of back) in
    let old_sum_2 = sum_by-append size r.live (live_of back) in
    let new_sum = ap size_sum parts in
    let new_sum_1 = sum_by-append size (live_of front) (add_block c (drop_block b r.live) ++ live_of back) in
    let new_sum_2 = sum_by-append size (add_block c (drop_block b r.live)) (live_of back) in
    let new_sum_3 = sum_inserted key size c (drop_block b r.live) in
    let old_number = ap (λ l. length l) (live_parts front r back) in
    let old_number_1 = length-append (live_of front) (r.live ++ live_of back) in
    let old_number_2 = length-append r.live (live_of back) in
    let new_number = ap (λ l. length l) parts in
    let new_number_1 = length-append (live_of front) (add_block c (drop_block b r.live) ++ live_of back) in
    let new_number_2 = length-append (add_block c (drop_block b r.live)) (live_of back) in
    let new_number_3 = length_inserted key c (drop_block b r.live) in
    let sum = gone.sum in
    let number = gone.number in
    let had = h.sum in
    let counted = h.counted in
    let kept : IsKept Q N room (front ++ t ∷ back) (bytes - b.size + m) count = kept_replaced Q N room front r t back bytes count (bytes - b.size + m) count h at space is (omega arith) (omega arith) in
    let fits = order_fits Q N 0 (front ++ t ∷ back) kept.order (omega arith) in
    let sizes = order_sizes Q N 0 (front ++ t ∷ back) kept.order in
    let sum' = kept.sum in
    record {
      bytes_fit = omega arith;
      sum_fits = omega arith;
      kept = kept;
      row = same_row room front r t back (add_block c (drop_block b (live_of (front ++ r ∷ back)))) at space live;
    }

pub resized : (Q N room bytes count : ℕ) (b : Block) (m : ℕ) (old new : List RegionView) (r t : RegionView) → Around old r t new → IsKept Q N room old bytes count → t ≡ record r { live = add_block (block_at b.first m) (drop_block b r.live) } → has_block r.live b ≡ true → IsRegion Q N t → Resized Q N room old bytes count b m new
resized Q N room bytes count b m old new r t place h change has is =
    let from : IsKept Q N room (place.front ++ r ∷ place.back) bytes count = subst (λ l. IsKept Q N room l bytes count) place.old_is h in
    subst (λ l. Resized Q N room l bytes count b m new) (sym place.old_is)
    (subst (λ l. Resized Q N room (place.front ++ r ∷ place.back) bytes count b m l) (sym place.new_is) (resized_here Q N room bytes count b m place.front r t place.back from change has is))

-- whether a resized block's bytes are idle but for its own
pub resize_idle : (Q N : ℕ) (b : Block) (m : ℕ) (rs front : List RegionView) (r : RegionView) (back : List RegionView) → rs ≡ front ++ r ∷ back → AreInOrder Q N 0 rs → has_block r.live b ≡ true → 1 ≤ m
    → is_idle_in (Q * N) (map first_of rs) (drop_block b (live_of rs)) b.first (b.first + m) ≡ is_idle r.first (r.first + Q * N) (drop_block b r.live) b.first (b.first + m)
resize_idle Q N b m rs front r back e order has some =
    let h = subst (AreInOrder Q N 0) e order in
    let here = order_here Q N 0 front r back h in
    let before = blocks_before Q N 0 front r back h in
    let behind = blocks_behind Q N (r.first + Q * N) back here.2 in
    let gone = dropped Q r.first (r.first + Q * N) r.live b (here.1).row has in
    let low = (gone.one).low in
    let high = (gone.one).high in
    let filled = (gone.one).some in
    let row : AreInRow Q r.first (r.first + Q * N) (drop_block b r.live) = row_filter (λ d. not (same_block b d)) Q r.first (r.first + Q * N) r.live (here.1).row in
    ap (λ l. is_idle_in (Q * N) (map first_of l) (drop_block b (live_of l)) b.first (b.first + m)) e
    ∙ ap (λ l. is_idle_in (Q * N) (map first_of (front ++ r ∷ back)) l b.first (b.first + m)) (ap (drop_block b) (live_parts front r back) ∙ drop_same Q r.first (r.first + Q * N) (live_of front) r.live (live_of back) before behind (here.1).row b low (omega arith))
    ∙ idle_same Q N front r back (drop_block b r.live) b.first (b.first + m) h row low (omega arith) (omega arith)

-- a block of the row that begins in a region is the region's
pub has_around : (Q N : ℕ) (rs front : List RegionView) (r : RegionView) (back : List RegionView) (b : Block) → rs ≡ front ++ r ∷ back → AreInOrder Q N 0 rs → r.first ≤ b.first → b.first < r.first + Q * N → has_block (live_of rs) b ≡ has_block r.live b
has_around Q N rs front r back b e order low high =
    let h = subst (AreInOrder Q N 0) e order in
    let here = order_here Q N 0 front r back h in
    ap (λ l. has_block (live_of l) b) e ∙ ap (λ l. has_block l b) (live_parts front r back)
    ∙ has_same Q r.first (r.first + Q * N) (live_of front) r.live (live_of back) (blocks_before Q N 0 front r back h) (blocks_behind Q N (r.first + Q * N) back here.2) (here.1).row b low high

-- no block begins where no region is, and no bytes are idle there
pub none_outside : (Q N from : ℕ) (rs : List RegionView) (a : ℕ) → AreInOrder Q N from rs → lies_in_row (Q * N) (map first_of rs) a (a + 1) ≡ false → All (λ c. c.first ≡ a → ⊥) (live_of rs)
none_outside Q N from [] a h none = All-nil (λ c. c.first ≡ a → ⊥)
none_outside Q N from (r ∷ rs) a h none =
    let P : Block → Type 0 = λ c. c.first ≡ a → ⊥ in
    let parts = or_parts (lies_within r.first (r.first + Q * N) a (a + 1)) (lies_in_row (Q * N) (map first_of rs) a (a + 1)) none in
    All-append P r.live (live_of rs)
    (All-weaker (InRow Q r.first (r.first + Q * N)) P (λ c k at.
    let low = k.low in
    let high = k.high in
    let some = k.some in
    false≢true (sym parts.0 ∙ and_from (nat_le r.first a) (nat_le (a + 1) (r.first + Q * N)) (le-leb r.first a (omega arith)) (le-leb (a + 1) (r.first + Q * N) (omega arith)))) r.live (each_in_row Q r.first (r.first + Q * N) r.live (h.1).row))
    (none_outside Q N (r.first + Q * N) rs a h.2 parts.1)

pub no_size_outside : (Q N : ℕ) (rs : List RegionView) (a : ℕ) → AreInOrder Q N 0 rs → lies_in_row (Q * N) (map first_of rs) a (a + 1) ≡ false → size_at (live_of rs) a ≡ 0
no_size_outside Q N rs a h none =
    let read : Option Block → ℕ = λ o. elim o [ None ↦ 0 | Some b ↦ b.size ] in
    ap read (find_nothing (λ b. b.first == a) (live_of rs) (All-weaker (λ c. c.first ≡ a → ⊥) (λ c. (c.first == a) ≡ false) (λ c other. ne_eqb c.first a other) (live_of rs) (none_outside Q N 0 rs a h none)))

pub no_block_outside : (Q N : ℕ) (rs : List RegionView) (b : Block) → AreInOrder Q N 0 rs → lies_in_row (Q * N) (map first_of rs) b.first (b.first + 1) ≡ false → has_block (live_of rs) b ≡ false
no_block_outside Q N rs b h none =
    any_nothing (same_block b) (live_of rs) (All-weaker (λ c. c.first ≡ b.first → ⊥) (λ c. same_block b c ≡ false) (λ c other. other_block b c (λ e. other (sym e))) (live_of rs) (none_outside Q N 0 rs b.first h none))

pub none_idle_outside : (Q N from n : ℕ) (rs : List RegionView) (L : List Block) (a : ℕ) → AreInOrder Q N from rs → 1 ≤ n → lies_in_row (Q * N) (map first_of rs) a (a + 1) ≡ false → is_idle_in (Q * N) (map first_of rs) L a (a + Q * n) ≡ false
none_idle_outside Q N from n [] L a h some none = refl
none_idle_outside Q N from n (r ∷ rs) L a h some none =
    let parts = or_parts (lies_within r.first (r.first + Q * N) a (a + 1)) (lies_in_row (Q * N) (map first_of rs) a (a + 1)) none in
    let quantum = power_some Q (h.1).power in
    let one : Q * 1 ≤ Q * n = mul-le-mul_left Q some in
    or_from (is_idle r.first (r.first + Q * N) L a (a + Q * n)) (is_idle_in (Q * N) (map first_of rs) L a (a + Q * n))
    (false_from_ne_true (is_idle r.first (r.first + Q * N) L a (a + Q * n)) (λ test.
    let idle = idle_from_test r.first (r.first + Q * N) L a (a + Q * n) (omega arith) test in
    let low = idle.not_below in
    let high = idle.not_above in
    false≢true (sym parts.0 ∙ and_from (nat_le r.first a) (nat_le (a + 1) (r.first + Q * N)) (le-leb r.first a low) (le-leb (a + 1) (r.first + Q * N) (omega arith)))))
    (none_idle_outside Q N (r.first + Q * N) n rs L a h.2 some parts.1)

-- what holds of each region, by the row around it
pub each_around : (P : RegionView → Type 0) (rs : List RegionView) → ((front : List RegionView) (r : RegionView) (back : List RegionView) → rs ≡ front ++ r ∷ back → P r) → All P rs
each_around P rs f k d within =
    let r = get_or rs k d in
    f (take k rs) (get_or rs k d) (drop (suc k) rs) (split_here rs k (get_or rs k d) within (get_or_default rs k d (get_or rs k d) within))

pub room_each : (Q N n al : ℕ) (rs : List RegionView) → AreInOrder Q N 0 rs → 1 ≤ n → 1 ≤ al → All (λ r. has_room_at (Q * N) (live_of rs) (Q * n) al r.first ≡ region_has_room (Q * N) (Q * n) al r) rs
room_each Q N n al rs order some step =
    each_around (λ r. has_room_at (Q * N) (live_of rs) (Q * n) al r.first ≡ region_has_room (Q * N) (Q * n) al r) rs (λ front r back e.
    let h = subst (AreInOrder Q N 0) e order in
    let here = order_here Q N 0 front r back h in
    let quantum = power_some Q (here.1).power in
    let one : Q * 1 ≤ Q * n = mul-le-mul_left Q some in
    ap (λ l. has_room_within r.first (r.first + Q * N) (live_of l) (Q * n) al) e ∙ ap (λ l. has_room_within r.first (r.first + Q * N) l (Q * n) al) (live_parts front r back)
    ∙ room_same Q r.first (r.first + Q * N) (live_of front) r.live (live_of back) (blocks_before Q N 0 front r back h) (blocks_behind Q N (r.first + Q * N) back here.2) (here.1).row (Q * n) al (omega arith) step)

pub blocks_each : (Q N : ℕ) (rs : List RegionView) → AreInOrder Q N 0 rs → All (λ r. blocks_within r.first (r.first + Q * N) (live_of rs) ≡ r.live) rs
blocks_each Q N rs order =
    each_around (λ r. blocks_within r.first (r.first + Q * N) (live_of rs) ≡ r.live) rs (λ front r back e.
    let h = subst (AreInOrder Q N 0) e order in
    let here = order_here Q N 0 front r back h in
    ap (λ l. blocks_within r.first (r.first + Q * N) (live_of l)) e ∙ ap (blocks_within r.first (r.first + Q * N)) (live_parts front r back)
    ∙ its_blocks Q r.first (r.first + Q * N) (live_of front) r.live (live_of back) (blocks_before Q N 0 front r back h) (blocks_behind Q N (r.first + Q * N) back here.2) (here.1).row)

-- a front of an idle run of the region is one of the row
pub front_in_row : (Q N al : ℕ) (b : Block) (rs front : List RegionView) (r : RegionView) (back : List RegionView) → rs ≡ front ++ r ∷ back → AreInOrder Q N 0 rs → 1 ≤ b.size → 1 ≤ al → is_front_within r.first (r.first + Q * N) r.live b al ≡ true
    → list_any (λ a. is_front_within a (a + Q * N) (live_of rs) b al) (map first_of rs) ≡ true
front_in_row Q N al b rs front r back e order some step test =
    let h = subst (AreInOrder Q N 0) e order in
    let here = order_here Q N 0 front r back h in
    let p : ℕ → Bool = λ a. is_front_within a (a + Q * N) (live_of rs) b al in
    let passes : p r.first ≡ true =
    ap (λ l. is_front_within r.first (r.first + Q * N) l b al) (ap live_of e ∙ live_parts front r back)
    ∙ front_all Q r.first (r.first + Q * N) (live_of front) r.live (live_of back) (blocks_before Q N 0 front r back h) (blocks_behind Q N (r.first + Q * N) back here.2) (here.1).row b al some step test in
    ap (λ l. list_any p (map first_of l)) e ∙ ap (λ l. list_any p l) (map-append first_of front (r ∷ back)) ∙ any_right p (map first_of front) (r.first ∷ map first_of back) (or_left (p r.first) (list_any p (map first_of back)) passes)

-- no region has room, in the row's words
pub no_room : (Q N n al : ℕ) (rs : List RegionView) → AreInOrder Q N 0 rs → 1 ≤ n → 1 ≤ al → All (λ r. IsTrue (region_has_room (Q * N) (Q * n) al r) → ⊥) rs → list_any (has_room_at (Q * N) (live_of rs) (Q * n) al) (map first_of rs) ≡ false
no_room Q N n al rs order some step none =
    let p : ℕ → Bool = has_room_at (Q * N) (live_of rs) (Q * n) al in
    let P : ℕ → Type 0 = λ a. p a ≡ false in
    any_nothing p (map first_of rs) (All-map P first_of rs (λ k d within. room_each Q N n al rs order some step k d within ∙ false_from_ne_true (region_has_room (Q * N) (Q * n) al (get_or rs k d)) (none k d within)))

-- where the region at a place is as it was, the regions are
pub unchanged : (rs : List RegionView) (i : ℕ) (here there : RegionView) → here ≡ get_or rs i here → there ≡ here → set rs i there ≡ rs
unchanged rs i here there at same = ap (set rs i) (same ∙ at) ∙ set-get_or rs i here

-- the region that holds an address
pub record Holds (Q N : ℕ) (rs : List RegionView) (i : ℕ) (here : RegionView) (a : ℕ) : Type 0 where
  pub within : i < length rs
  pub low : here.first ≤ a
  pub high : a < here.first + Q * N
  pub split : rs ≡ take i rs ++ here ∷ drop (suc i) rs

pub holds : (Q N room : ℕ) (rs : List RegionView) (v : RowView) (i : ℕ) (here : RegionView) (a : ℕ) → row_of room rs ≡ v → (i < length v.firsts) × HoldsAt (λ f. (f ≤ a) × (a < f + Q * N)) v.firsts i → here ≡ get_or rs i here → Holds Q N rs i here a
holds Q N room rs v i here a view said at =
    let firsts : map first_of rs ≡ v.firsts = ap (λ (w : RowView). w.firsts) view in
    let long = ap (λ l. length l) firsts in
    let same = length-map rs first_of in
    let index = said.0 in
    let within : i < length rs = omega arith in
    let there : get_or v.firsts i 0 ≡ here.first = ap (λ l. get_or l i 0) (sym firsts) ∙ get_or-map first_of rs i here 0 within ∙ ap first_of (sym at) in
    let both = said.1 0 in
    let low = both.0 in
    let high = both.1 in
    record { within = within; low = omega arith; high = omega arith; split = split_here rs i here within at }

-- an address in a region of a row lies in the row
pub lies_at : (len : ℕ) (firsts : List ℕ) (a i : ℕ) → (i < length firsts) × HoldsAt (λ f. (f ≤ a) × (a < f + len)) firsts i → lies_in_row len firsts a (a + 1) ≡ true
lies_at len [] a i said = absurd (omega (arith, said.0))
lies_at len (f ∷ fs) a zero said =
    let both = said.1 0 in
    let high = both.1 in
    or_left (lies_within f (f + len) a (a + 1)) (lies_in_row len fs a (a + 1)) (and_from (nat_le f a) (nat_le (a + 1) (f + len)) (le-leb f a both.0) (le-leb (a + 1) (f + len) (omega arith)))
lies_at len (f ∷ fs) a (suc i) said = or_right (lies_within f (f + len) a (a + 1)) (lies_in_row len fs a (a + 1)) (lies_at len fs a i (omega (arith, said.0), said.1))

-- what a call on one region has answered
pub taken_ok : {E : Type 0} (r : Result (Unit {0}) E) (P : Type 0) (R : E → Type 0) → MatchResult r (λ _. P) R → is_ok r ≡ true → P
taken_ok (Ok _) P R said ok = said
taken_ok (Err e) P R said ok = absurd (false≢true ok)

pub size_around : (Q N : ℕ) (rs : List RegionView) (i : ℕ) (here : RegionView) (a : ℕ) → AreInOrder Q N 0 rs → Holds Q N rs i here a → size_at (live_of rs) a ≡ size_at here.live a
size_around Q N rs i here a order at =
    let h = subst (AreInOrder Q N 0) at.split order in
    let around = order_here Q N 0 (take i rs) here (drop (suc i) rs) h in
    ap (λ l. size_at (live_of l) a) at.split ∙ ap (λ l. size_at l a) (live_parts (take i rs) here (drop (suc i) rs))
    ∙ size_same Q here.first (here.first + Q * N) (live_of (take i rs)) here.live (live_of (drop (suc i) rs)) (blocks_before Q N 0 (take i rs) here (drop (suc i) rs) h) (blocks_behind Q N (here.first + Q * N) (drop (suc i) rs) around.2) (around.1).row a at.low at.high
