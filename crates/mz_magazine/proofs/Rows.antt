-- A row around one of its regions, and what it is where the live blocks of that region change.
use Rattle.std.proofs.Common.{◌≡◌, ℕ, suc, ◌+◌, ◌*◌, ◌^◌, ◌<◌, ◌≤◌, List, [], ◌∷◌, ◌++◌, Bool, true, false, Some, length, map, set, take, drop, refl, sym, ap, ◌∙◌, subst, inl, inr, arith}
use Rattle.std.specs.Prelude.{◌&&◌, ◌||◌, nat_le, nat_lt}
use Rattle.std.specs.List.{All, list_any}
use Rattle.std.proofs.lemmas.Bool.{cases_Bool, and_left, and_right, or_left, lt-leb}
use Rattle.std.proofs.lemmas.List.{set_split, map-append}
use Rattle.std.proofs.lemmas.List.Elements.{All-nil, All-cons, All-head, All-tail, All-weaker, All-map, All-same}
use Rattle.mz_base.specs.Space.{Block, block_at}
use Rattle.mz_base.specs.Lists.{insert_by, add_block, size_sum}
use Rattle.mz_base.specs.Room.{lies_within, is_idle}
use Rattle.mz_base.specs.IdleRuns.{IsIdle}
use Rattle.mz_ground.specs.Views.{SpanView}
use Rattle.mz_region.specs.Views.{RegionView, AreInRow, IsRegion, IsNewBlock}
use Rattle.mz_magazine.specs.Row.{is_idle_in, IsNewInRow}
use Rattle.mz_magazine.specs.Members.{space_of, live_of, row_of, AreInOrder, IsKept}
use Rattle.mz_magazine.proofs.Idle.{test_from_idle}
use Rattle.mz_magazine.proofs.Lists.{any_behind, any_within, any_right, case_here, case_later, insert_nil, sum_inserted, length_inserted}
use Rattle.mz_magazine.proofs.Parts.{InRow, each_in_row, idle_all, add_same}
use Rattle.mz_magazine.proofs.Order.{first_of, order_here, blocks_before, blocks_behind, live_parts, firsts_replace, space_replace, its_space, kept_replaced, order_fits, order_sizes, order_counts}

-- a list around one of its places, and with another there
pub record Around (old : List RegionView) (here there : RegionView) (new : List RegionView) : Type 0 where
  pub front : List RegionView
  pub back : List RegionView
  pub old_is : old ≡ front ++ here ∷ back
  pub new_is : new ≡ front ++ there ∷ back

pub around : (old : List RegionView) (i : ℕ) (here there : RegionView) (new : List RegionView) → i < length old → old ≡ take i old ++ here ∷ drop (suc i) old → new ≡ set old i there → Around old here there new
around old i here there new within old_is is = record { front = take i old; back = drop (suc i) old; old_is = old_is; new_is = is ∙ set_split old i there within }

-- the others end before it, or begin behind it
pub firsts_before : (Q N from : ℕ) (front : List RegionView) (r : RegionView) (back : List RegionView) → AreInOrder Q N from (front ++ r ∷ back) → All (λ f. f.first + Q * N ≤ r.first) front
firsts_before Q N from [] r back h = All-nil (λ f. f.first + Q * N ≤ r.first)
firsts_before Q N from (f ∷ fs) r back h =
    All-cons (λ t. t.first + Q * N ≤ r.first) f fs (order_here Q N (f.first + Q * N) fs r back h.2).0 (firsts_before Q N (f.first + Q * N) fs r back h.2)

pub firsts_behind : (Q N from : ℕ) (rs : List RegionView) → AreInOrder Q N from rs → All (λ b. from ≤ b.first) rs
firsts_behind Q N from [] h = All-nil (λ b. from ≤ b.first)
firsts_behind Q N from (r ∷ rs) h =
    let low = h.0 in
    All-cons (λ b. from ≤ b.first) r rs low (All-weaker (λ b. r.first + Q * N ≤ b.first) (λ b. from ≤ b.first) (λ b k. omega arith) rs (firsts_behind Q N (r.first + Q * N) rs h.2))

-- a test over regions that holds of no other is the test of this one
pub any_here : (p : ℕ → Bool) (front : List RegionView) (r : RegionView) (back : List RegionView) → All (λ f. p f.first ≡ false) front → All (λ b. p b.first ≡ false) back → list_any p (map first_of (front ++ r ∷ back)) ≡ p r.first
any_here p front r back before behind =
    let P : ℕ → Type 0 = λ a. p a ≡ false in
    ap (λ l. list_any p l) (map-append first_of front (r ∷ back))
    ∙ any_behind p (map first_of front) (r.first ∷ map first_of back) (All-map P first_of front before)
    ∙ any_within p (r.first ∷ []) (map first_of back) (All-map P first_of back behind)
    ∙ or_nothing (p r.first)
  where
    or_nothing : (b : Bool) → (b || false) ≡ b
    or_nothing true = refl
    or_nothing false = refl

-- bytes that begin in a region lie in no other
pub lies_here : (Q N : ℕ) (q : ℕ → Bool) (front : List RegionView) (r : RegionView) (back : List RegionView) (x y : ℕ) → AreInOrder Q N 0 (front ++ r ∷ back) → r.first ≤ x → x < r.first + Q * N → x < y
    → list_any (λ a. lies_within a (a + Q * N) x y && q a) (map first_of (front ++ r ∷ back)) ≡ (lies_within r.first (r.first + Q * N) x y && q r.first)
lies_here Q N q front r back x y h low high up =
    let p : ℕ → Bool = λ a. lies_within a (a + Q * N) x y && q a in
    any_here p front r back
    (All-weaker (λ f. f.first + Q * N ≤ r.first) (λ f. p f.first ≡ false)
    (λ f k. and_left (lies_within f.first (f.first + Q * N) x y) (q f.first) (and_right (nat_le f.first x) (nat_le y (f.first + Q * N)) (lt-leb y (f.first + Q * N) (omega arith)))) front (firsts_before Q N 0 front r back h))
    (All-weaker (λ b. r.first + Q * N ≤ b.first) (λ b. p b.first ≡ false)
    (λ b k. and_left (lies_within b.first (b.first + Q * N) x y) (q b.first) (and_left (nat_le b.first x) (nat_le y (b.first + Q * N)) (lt-leb b.first x (omega arith)))) back (firsts_behind Q N (r.first + Q * N) back (order_here Q N 0 front r back h).2))

-- what is idle in it is idle in the row
pub idle_in_row : (Q N : ℕ) (front : List RegionView) (r : RegionView) (back : List RegionView) (x y : ℕ) → AreInOrder Q N 0 (front ++ r ∷ back) → IsIdle r.first (r.first + Q * N) r.live x y → is_idle_in (Q * N) (map first_of (front ++ r ∷ back)) (live_of (front ++ r ∷ back)) x y ≡ true
idle_in_row Q N front r back x y h idle =
    let here = order_here Q N 0 front r back h in
    let all = idle_all Q r.first (r.first + Q * N) (live_of front) r.live (live_of back) (blocks_before Q N 0 front r back h) (blocks_behind Q N (r.first + Q * N) back here.2) (here.1).row x y idle in
    let test : is_idle r.first (r.first + Q * N) (live_of (front ++ r ∷ back)) x y ≡ true =
    ap (λ l. is_idle r.first (r.first + Q * N) l x y) (live_parts front r back) ∙ test_from_idle r.first (r.first + Q * N) (live_of front ++ (r.live ++ live_of back)) x y all in
    let p : ℕ → Bool = λ a. is_idle a (a + Q * N) (live_of (front ++ r ∷ back)) x y in
    ap (λ l. list_any p l) (map-append first_of front (r ∷ back)) ∙ any_right p (map first_of front) (r.first ∷ map first_of back) (or_left (p r.first) (list_any p (map first_of back)) test)

-- the new one of a list with one more
pub the_inserted : {A : Type 0} (P : A → Type 0) (key : A → ℕ) (x : A) (xs : List A) → All P (insert_by key x xs) → P x
the_inserted P key x [] h = All-head P x [] (All-same P (x ∷ []) (insert_by key x []) (sym (insert_nil key x)) h)
the_inserted P key x (y ∷ ys) h =
    elim (cases_Bool (nat_lt (key x) (key y))) [
      | inl less ↦ All-head P x (y ∷ ys) (All-same P (x ∷ y ∷ ys) (insert_by key x (y ∷ ys)) (sym (case_here key x y ys less)) h)
      | inr more ↦ the_inserted P key x ys (All-tail P y (insert_by key x ys) (All-same P (y ∷ insert_by key x ys) (insert_by key x (y ∷ ys)) (sym (case_later key x y ys more)) h))
    ]

-- a row with a block more
pub record Made (Q N room : ℕ) (old : List RegionView) (bytes count : ℕ) (s : SpanView) (n : ℕ) (new : List RegionView) : Type 0 where
  pub bytes_fit : bytes + n < 2 ^ 64
  pub count_fits : count + 1 < 2 ^ 64
  pub kept : IsKept Q N room new (bytes + n) (count + 1)
  pub block : IsNewInRow Q N (row_of room old) s n (row_of room new)

made_here : (Q N room bytes count n : ℕ) (s : SpanView) (front : List RegionView) (r t : RegionView) (back : List RegionView) → IsKept Q N room (front ++ r ∷ back) bytes count → IsNewBlock r s n t → IsRegion Q N t → IsIdle r.first (r.first + Q * N) r.live s.first (s.first + n)
    → Made Q N room (front ++ r ∷ back) bytes count s n (front ++ t ∷ back)
made_here Q N room bytes count n s front r t back h block is idle =
    let b = block_at s.first n in
    let here = order_here Q N 0 front r back h.order in
    let at : t.first ≡ r.first = ap (λ (v : RegionView). v.first) block.live in
    let space : t.space ≡ r.space = ap (λ (v : RegionView). v.space) block.live in
    let blocks : t.live ≡ add_block b r.live = ap (λ (v : RegionView). v.live) block.live in
    let row : AreInRow Q t.first (t.first + Q * N) (add_block b r.live) = subst (AreInRow Q t.first (t.first + Q * N)) blocks is.row in
    let one = the_inserted (InRow Q t.first (t.first + Q * N)) (λ c. c.first) b r.live (each_in_row Q t.first (t.first + Q * N) (add_block b r.live) row) in
    let low = idle.not_below in
    let high = idle.not_above in
    let some = idle.some in
    let live : live_of (front ++ t ∷ back) ≡ add_block b (live_of (front ++ r ∷ back)) =
    live_parts front t back ∙ ap (λ l. live_of front ++ (l ++ live_of back)) blocks
    ∙ sym (add_same Q r.first (r.first + Q * N) (live_of front) r.live (live_of back) (blocks_before Q N 0 front r back h.order) (blocks_behind Q N (r.first + Q * N) back here.2) (here.1).row b low (omega arith))
    ∙ ap (add_block b) (sym (live_parts front r back)) in
    let sum = ap size_sum live ∙ sum_inserted (λ (c : Block). c.first) (λ c. c.size) b (live_of (front ++ r ∷ back)) in
    let number = ap (λ l. length l) live ∙ length_inserted (λ (c : Block). c.first) b (live_of (front ++ r ∷ back)) in
    let had = h.sum in
    let counted = h.counted in
    let kept : IsKept Q N room (front ++ t ∷ back) (bytes + n) (count + 1) = kept_replaced Q N room front r t back bytes count (bytes + n) (count + 1) h at space is (omega arith) (omega arith) in
    let fits = order_fits Q N 0 (front ++ t ∷ back) kept.order (omega arith) in
    let sizes = order_sizes Q N 0 (front ++ t ∷ back) kept.order in
    let counts = order_counts Q N (front ++ t ∷ back) kept.order in
    let sum' = kept.sum in
    let counted' = kept.counted in
    record {
      bytes_fit = omega arith;
      count_fits = omega arith;
      kept = kept;
      block = record {
        space = its_space front r back h.one_space ∙ ap Some (sym block.space);
        size = block.size;
        some = omega arith;
        at = one.at;
        idle = idle_in_row Q N front r back s.first (s.first + n) h.order idle;
        live = ap (λ x. record { room = room; space = x; firsts = map first_of (front ++ t ∷ back); live = live_of (front ++ t ∷ back) }) (space_replace front r t back space)
            ∙ ap (λ x. record { room = room; space = space_of (front ++ r ∷ back); firsts = x; live = live_of (front ++ t ∷ back) }) (firsts_replace front r t back at)
            ∙ ap (λ x. record { room = room; space = space_of (front ++ r ∷ back); firsts = map first_of (front ++ r ∷ back); live = x }) live;
      };
    }

pub made : (Q N room bytes count n : ℕ) (s : SpanView) (old new : List RegionView) (r t : RegionView) → Around old r t new → IsKept Q N room old bytes count → IsNewBlock r s n t → IsRegion Q N t → IsIdle r.first (r.first + Q * N) r.live s.first (s.first + n) → Made Q N room old bytes count s n new
made Q N room bytes count n s old new r t place h block is idle =
    let from : IsKept Q N room (place.front ++ r ∷ place.back) bytes count = subst (λ l. IsKept Q N room l bytes count) place.old_is h in
    subst (λ l. Made Q N room l bytes count s n new) (sym place.old_is)
    (subst (λ l. Made Q N room (place.front ++ r ∷ place.back) bytes count s n l) (sym place.new_is) (made_here Q N room bytes count n s place.front r t place.back from block is idle))
