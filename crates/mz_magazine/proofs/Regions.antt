-- What a row is with a region more, and with one fewer.
use Rattle.std.proofs.Common.{◌≡◌, ℕ, zero, suc, ◌+◌, ◌-◌, ◌*◌, ◌^◌, ◌<◌, ◌≤◌, List, [], ◌∷◌, ◌++◌, Bool, true, false, not, Option, Some, None, Result, Ok, Err, MatchResult, is_ok, length, map, get_or, take, drop, refl, sym, ap, ◌∙◌, subst, append_assoc, arith}
use Rattle.std.specs.Prelude.{◌==◌, filter, fold, if◌then◌else◌, nat_le}
use Rattle.std.specs.Bool.{MatchBool}
use Rattle.std.proofs.lemmas.Option.{same_Some}
use Rattle.std.specs.List.{All, AllWithin, list_any}
use Rattle.std.proofs.lemmas.Bool.{cond-false, eqb-true, eq-eqb, ne_eqb, not_from_false, not_from_true, or_left, or_right, and_from, le-leb, false≢true, false_from_ne_true}
use Rattle.std.proofs.lemmas.List.{take-append-drop, length-map, get_or_default, map-append, length-append, length-take-le, length-drop, get_or-take, get_or-drop}
use Rattle.std.proofs.lemmas.List.Concat.{flat_map-append}
use Rattle.std.proofs.lemmas.List.Sums.{sum_by-append}
use Rattle.std.proofs.lemmas.List.Elements.{All-nil, All-cons, All-head, All-tail, All-weaker, All-append, All-map}
use Rattle.mz_base.specs.Site.{Site}
use Rattle.mz_base.specs.Space.{Block, block_at, block_end, blocks_apart}
use Rattle.mz_base.specs.Lists.{insert_by, add_block, size_sum}
use Rattle.mz_base.specs.Room.{lies_within}
use Rattle.mz_region.specs.Views.{RegionView, AreInRow, IsRegion}
use Rattle.mz_events.specs.Standing.{IsOf}
use Rattle.mz_magazine.specs.Row.{RowView, lies_in_row, blocks_within, with_region_at, without_region_at}
use Rattle.mz_magazine.specs.Members.{space_of, live_of, row_of, AreInOrder, IsKept}
use Rattle.mz_magazine.proofs.Lists.{insert_between, filter_all, filter_nothing, filter_parts, any_nothing, any_weaker}
use Rattle.mz_magazine.proofs.Parts.{EndsBefore, BeginsBehind, row_ends, its_blocks, other_blocks}
use Rattle.mz_magazine.proofs.Order.{first_of, order_here, order_with, order_without, blocks_before, blocks_behind, live_parts, its_space, length_around, all_without, order_fits, order_sizes, order_counts}
use Rattle.mz_magazine.proofs.Searches.{first_rises}
use Rattle.mz_magazine.proofs.Rows.{any_here, firsts_before, firsts_behind}

-- the space of what is there is the space of it
pub space_is : (o : Option Site) (x y : Site) → IsOf o x → o ≡ Some y → x ≡ y
space_is None x y of at = absurd (none_is y at)
  where
    none_is : (z : Site) → None ≡ Some z → ⊥
    none_is z e = cc
space_is (Some z) x y of at = sym of ∙ same_Some z y at

-- a row of blocks is added at its place
pub fold_in : (Q s e : ℕ) (xs ys zs : List Block) → All (λ c. c.first ≤ s) xs → All (λ c. e ≤ c.first) zs → AreInRow Q s e ys → fold (λ bs b. add_block b bs) (xs ++ zs) ys ≡ xs ++ (ys ++ zs)
fold_in Q s e xs [] zs low high row = refl
fold_in Q s e xs (b ∷ bs) zs low high row =
    let up = row_ends Q (block_end b) e bs row.4 in
    let some = row.2 in
    let from = row.0 in
    let before : All (λ c. c.first ≤ b.first) xs = All-weaker (λ c. c.first ≤ s) (λ c. c.first ≤ b.first) (λ c k. omega arith) xs low in
    let behind : All (λ c. b.first < c.first) zs = All-weaker (λ c. e ≤ c.first) (λ c. b.first < c.first) (λ c k. omega arith) zs high in
    let here : add_block b (xs ++ zs) ≡ (xs ++ b ∷ []) ++ zs = insert_between (λ c. c.first) b xs zs before behind ∙ sym (append_assoc xs (b ∷ []) zs) in
    let P : Block → Type 0 = λ c. c.first ≤ block_end b in
    let more : All P (xs ++ b ∷ []) = All-append P xs (b ∷ []) (All-weaker (λ c. c.first ≤ b.first) P (λ c k. omega arith) xs before) (All-cons P b [] (omega arith) (All-nil P)) in
    ap (λ l. fold (λ ds d. add_block d ds) l bs) here ∙ fold_in Q (block_end b) e (xs ++ b ∷ []) bs zs more high row.4 ∙ append_assoc xs (b ∷ []) (bs ++ zs)

-- a row with a region more
pub record Inserted (Q N room : ℕ) (old : List RegionView) (bytes count : ℕ) (r : RegionView) (new : List RegionView) : Type 0 where
  pub bytes_fit : bytes + size_sum r.live < 2 ^ 64
  pub count_fits : count + length r.live < 2 ^ 64
  pub kept : IsKept Q N room new (bytes + size_sum r.live) (count + length r.live)
  pub row : row_of room new ≡ with_region_at r (row_of room old)

first_space : (front : List RegionView) (r : RegionView) (back : List RegionView) → All (λ t. t.space ≡ r.space) (front ++ back) → space_of (front ++ r ∷ back) ≡ Some r.space
first_space [] r back h = refl
first_space (f ∷ fs) r back h = let P : RegionView → Type 0 = λ t. t.space ≡ r.space in ap Some (All-head P f (fs ++ back) h)

pub all_with : (P : RegionView → Type 0) (front : List RegionView) (r : RegionView) (back : List RegionView) → All P (front ++ back) → P r → All P (front ++ r ∷ back)
all_with P [] r back h one = All-cons P r back one h
all_with P (f ∷ fs) r back h one = All-cons P f (fs ++ r ∷ back) (All-head P f (fs ++ back) h) (all_with P fs r back (All-tail P f (fs ++ back) h) one)

pub inserted : (Q N room bytes count : ℕ) (front : List RegionView) (r : RegionView) (back : List RegionView) → IsKept Q N room (front ++ back) bytes count → IsRegion Q N r → IsOf (space_of (front ++ back)) r.space → length (front ++ back) < room → All (λ f. f.first < r.first) front → All (λ b. r.first < b.first) back
    → Inserted Q N room (front ++ back) bytes count r (front ++ r ∷ back)
inserted Q N room bytes count front r back h is of room_left before behind =
    let order = order_with Q N 0 front r back h.order is (omega arith) before behind in
    let low = blocks_before Q N 0 front r back order in
    let high = blocks_behind Q N (r.first + Q * N) back (order_here Q N 0 front r back order).2 in
    let P : RegionView → Type 0 = λ t. space_of (front ++ back) ≡ Some t.space in
    let S : RegionView → Type 0 = λ t. t.space ≡ r.space in
    let T : RegionView → Type 0 = λ t. space_of (front ++ r ∷ back) ≡ Some t.space in
    let same : All S (front ++ back) = All-weaker P S (λ t k. sym (space_is (space_of (front ++ back)) r.space t.space of k)) (front ++ back) h.one_space in
    let space = first_space front r back same in
    let parts = live_parts front r back in
    let old_parts : live_of (front ++ back) ≡ live_of front ++ live_of back = flat_map-append (λ (t : RegionView). t.live) front back in
    let size : Block → ℕ = λ c. c.size in
    let sum_1 = ap size_sum parts in
    let sum_2 = sum_by-append size (live_of front) (r.live ++ live_of back) in
    let sum_3 = sum_by-append size r.live (live_of back) in
    let sum_4 = ap size_sum old_parts in
    let sum_5 = sum_by-append size (live_of front) (live_of back) in
    let number_1 = ap (λ l. length l) parts in
    let number_2 = length-append (live_of front) (r.live ++ live_of back) in
    let number_3 = length-append r.live (live_of back) in
    let number_4 = ap (λ l. length l) old_parts in
    let number_5 = length-append (live_of front) (live_of back) in
    let had = h.sum in
    let counted = h.counted in
    let long = length_around front r back in
    let kept : IsKept Q N room (front ++ r ∷ back) (bytes + size_sum r.live) (count + length r.live) = record {
      order = order;
      one_space = All-weaker S T (λ t k. space ∙ ap Some (sym k)) (front ++ r ∷ back) (all_with S front r back same refl);
      few = omega arith;
      sum = omega arith;
      counted = omega arith;
    } in
    let fits = order_fits Q N 0 (front ++ r ∷ back) order (omega arith) in
    let sizes = order_sizes Q N 0 (front ++ r ∷ back) order in
    let counts = order_counts Q N (front ++ r ∷ back) order in
    let sum' = kept.sum in
    let counted' = kept.counted in
    let L : ℕ → Type 0 = λ a. a ≤ r.first in
    let H : ℕ → Type 0 = λ a. r.first < a in
    let firsts : map first_of (front ++ r ∷ back) ≡ insert_by (λ a. a) r.first (map first_of (front ++ back)) =
    map-append first_of front (r ∷ back)
    ∙ sym (insert_between (λ a. a) r.first (map first_of front) (map first_of back) (All-map L first_of front (All-weaker (λ f. f.first < r.first) (λ f. f.first ≤ r.first) (λ f k. omega arith) front before)) (All-map H first_of back behind))
    ∙ ap (insert_by (λ a. a) r.first) (sym (map-append first_of front back)) in
    let live : live_of (front ++ r ∷ back) ≡ fold (λ bs b. add_block b bs) (live_of (front ++ back)) r.live =
    parts ∙ sym (fold_in Q r.first (r.first + Q * N) (live_of front) r.live (live_of back)
    (All-weaker (EndsBefore r.first) (λ c. c.first ≤ r.first) (λ c k. let end = k.1 in omega arith) (live_of front) low)
    (All-weaker (BeginsBehind (r.first + Q * N)) (λ c. r.first + Q * N ≤ c.first) (λ c k. k.1) (live_of back) high) is.row)
    ∙ ap (λ l. fold (λ bs b. add_block b bs) l r.live) (sym old_parts) in
    record {
      bytes_fit = omega arith;
      count_fits = omega arith;
      kept = kept;
      row = ap (λ x. record { room = room; space = x; firsts = map first_of (front ++ r ∷ back); live = live_of (front ++ r ∷ back) }) space
          ∙ ap (λ x. record { room = room; space = Some r.space; firsts = x; live = live_of (front ++ r ∷ back) }) firsts
          ∙ ap (λ x. record { room = room; space = Some r.space; firsts = insert_by (λ a. a) r.first (map first_of (front ++ back)); live = x }) live;
    }

-- none of the regions begins where one between them would
pub none_there : (front : List RegionView) (a : ℕ) (back : List RegionView) → All (λ f. f.first < a) front → All (λ b. a < b.first) back → list_any (λ f. f == a) (map first_of (front ++ back)) ≡ false
none_there front a back before behind =
    let P : ℕ → Type 0 = λ f. (f == a) ≡ false in
    let Q : RegionView → Type 0 = λ t. (t.first == a) ≡ false in
    any_nothing (λ f. f == a) (map first_of (front ++ back)) (All-map P first_of (front ++ back)
    (All-append Q front back (All-weaker (λ f. f.first < a) Q (λ f k. ne_eqb f.first a (λ e. omega arith)) front before) (All-weaker (λ b. a < b.first) Q (λ b k. ne_eqb b.first a (λ e. omega arith)) back behind)))

-- those up to where one would begin are below it, and the others above
pub below_strictly : (Q N : ℕ) (rs : List RegionView) (a i : ℕ) → AreInOrder Q N 0 rs → i ≤ length rs → AllWithin (λ r. r.first ≤ a) rs 0 i → (1 ≤ i → (d : RegionView) → (get_or rs (i - 1) d).first ≡ a → ⊥) → All (λ r. r.first < a) (take i rs)
below_strictly Q N rs a i order within below other k d low =
    let long = length-take-le i rs within in
    let at = ap first_of (get_or-take i rs k d (omega arith)) in
    let up = first_rises Q N 0 rs order k (i - 1) d d (omega arith) (omega arith) in
    let last = below (i - 1) d (omega arith) (omega arith) in
    let not_same = other (omega arith) d in
    omega arith

pub above_all : (rs : List RegionView) (a i : ℕ) → AllWithin (λ r. a < r.first) rs i (length rs) → All (λ r. a < r.first) (drop i rs)
above_all rs a i above k d low =
    let long = length-drop i rs in
    let at = ap first_of (get_or-drop i rs k d) in
    let high = above (i + k) d (omega arith) (omega arith) in
    omega arith

-- a region begins where one of them does
pub one_there : (rs : List RegionView) (i a : ℕ) (r : RegionView) → i < length rs → r ≡ get_or rs i r → r.first ≡ a → list_any (λ f. f == a) (map first_of rs) ≡ true
one_there [] i a r within at same = absurd (omega arith)
one_there (t ∷ ts) zero a r within at same = or_left (t.first == a) (list_any (λ f. f == a) (map first_of ts)) (eq-eqb t.first a (ap first_of (sym at) ∙ same))
one_there (t ∷ ts) (suc i) a r within at same = or_right (t.first == a) (list_any (λ f. f == a) (map first_of ts)) (one_there ts i a r (omega arith) at same)

-- none begins at an address that lies in none
pub none_begins : (len a : ℕ) (firsts : List ℕ) → 0 < len → lies_in_row len firsts a (a + 1) ≡ false → list_any (λ f. f == a) firsts ≡ false
none_begins len a firsts some none =
    false_from_ne_true (list_any (λ f. f == a) firsts) (λ there.
    false≢true (sym none ∙ any_weaker (λ f. f == a) (λ f. lies_within f (f + len) a (a + 1)) firsts (λ f at.
    let same = eqb-true f a at in
    and_from (nat_le f a) (nat_le (a + 1) (f + len)) (le-leb f a (omega arith)) (le-leb (a + 1) (f + len) (omega arith))) there))

-- only the region that holds an address can begin there
pub begins_here : (Q N : ℕ) (front : List RegionView) (r : RegionView) (back : List RegionView) (a : ℕ) → AreInOrder Q N 0 (front ++ r ∷ back) → 0 < Q * N → r.first ≤ a → a < r.first + Q * N → list_any (λ f. f == a) (map first_of (front ++ r ∷ back)) ≡ (r.first == a)
begins_here Q N front r back a h some low high =
    any_here (λ f. f == a) front r back
    (All-weaker (λ f. f.first + Q * N ≤ r.first) (λ f. (f.first == a) ≡ false) (λ f k. ne_eqb f.first a (λ e. omega arith)) front (firsts_before Q N 0 front r back h))
    (All-weaker (λ b. r.first + Q * N ≤ b.first) (λ b. (b.first == a) ≡ false) (λ b k. ne_eqb b.first a (λ e. omega arith)) back (firsts_behind Q N (r.first + Q * N) back (order_here Q N 0 front r back h).2))

-- a row with a region fewer
pub record Removed (Q N room : ℕ) (old : List RegionView) (bytes count : ℕ) (r : RegionView) (new : List RegionView) : Type 0 where
  pub bytes_fit : size_sum r.live ≤ bytes
  pub count_fits : length r.live ≤ count
  pub kept : IsKept Q N room new (bytes - size_sum r.live) (count - length r.live)
  pub space : space_of old ≡ Some r.space
  pub live : r.live ≡ blocks_within r.first (r.first + Q * N) (live_of old)
  pub rest : space_of new ≡ (if length (map first_of new) == 0 then None else space_of old)
  pub row : 0 < Q * N → row_of room new ≡ without_region_at (Q * N) r.first (row_of room old)

space_left : (o : Option Site) (rs : List RegionView) → All (λ t. o ≡ Some t.space) rs → All (λ t. space_of rs ≡ Some t.space) rs
space_left o [] h = All-nil (λ t. None ≡ Some t.space)
space_left o (r ∷ rs) h =
    let P : RegionView → Type 0 = λ t. o ≡ Some t.space in
    All-weaker P (λ t. Some r.space ≡ Some t.space) (λ t k. sym (All-head P r rs h) ∙ k) (r ∷ rs) h

space_of_rest : (o : Option Site) (rs : List RegionView) → All (λ t. o ≡ Some t.space) rs → space_of rs ≡ (if length (map first_of rs) == 0 then None else o)
space_of_rest o [] h = refl
space_of_rest o (r ∷ rs) h =
    let P : RegionView → Type 0 = λ t. o ≡ Some t.space in
    sym (All-head P r rs h) ∙ sym (cond-false (length (map first_of (r ∷ rs)) == 0) None o (ne_eqb (length (map first_of (r ∷ rs))) 0 (λ e. omega arith)))

removed_here : (Q N room bytes count : ℕ) (front : List RegionView) (r : RegionView) (back : List RegionView) → IsKept Q N room (front ++ r ∷ back) bytes count → Removed Q N room (front ++ r ∷ back) bytes count r (front ++ back)
removed_here Q N room bytes count front r back h =
    let here = order_here Q N 0 front r back h.order in
    let before = blocks_before Q N 0 front r back h.order in
    let behind = blocks_behind Q N (r.first + Q * N) back here.2 in
    let P : RegionView → Type 0 = λ t. space_of (front ++ r ∷ back) ≡ Some t.space in
    let left : All P (front ++ back) = all_without P front r back h.one_space in
    let parts = live_parts front r back in
    let new_parts : live_of (front ++ back) ≡ live_of front ++ live_of back = flat_map-append (λ (t : RegionView). t.live) front back in
    let size : Block → ℕ = λ c. c.size in
    let sum_1 = ap size_sum parts in
    let sum_2 = sum_by-append size (live_of front) (r.live ++ live_of back) in
    let sum_3 = sum_by-append size r.live (live_of back) in
    let sum_4 = ap size_sum new_parts in
    let sum_5 = sum_by-append size (live_of front) (live_of back) in
    let number_1 = ap (λ l. length l) parts in
    let number_2 = length-append (live_of front) (r.live ++ live_of back) in
    let number_3 = length-append r.live (live_of back) in
    let number_4 = ap (λ l. length l) new_parts in
    let number_5 = length-append (live_of front) (live_of back) in
    let had = h.sum in
    let counted = h.counted in
    let long = length_around front r back in
    let few = h.few in
    let rest = space_of_rest (space_of (front ++ r ∷ back)) (front ++ back) left in
    let keep : ℕ → Bool = λ f. not (f == r.first) in
    let K : ℕ → Type 0 = λ f. not (f == r.first) ≡ true in
    let D : ℕ → Type 0 = λ f. not (f == r.first) ≡ false in
    let firsts : 0 < Q * N → filter (λ f. not (f == r.first)) (map first_of (front ++ r ∷ back)) ≡ map first_of (front ++ back) = λ some.
    ap (filter (λ f. not (f == r.first))) (map-append first_of front (r ∷ back))
    ∙ filter_parts keep (map first_of front) (r.first ∷ []) (map first_of back) (map first_of front) [] (map first_of back)
    (filter_all keep (map first_of front) (All-map K first_of front (All-weaker (λ f. f.first + Q * N ≤ r.first) (λ f. not (f.first == r.first) ≡ true) (λ f k. not_from_false (f.first == r.first) (ne_eqb f.first r.first (λ e. omega arith))) front (firsts_before Q N 0 front r back h.order))))
    (filter_nothing keep (r.first ∷ []) (All-cons D r.first [] (not_from_true (r.first == r.first) (eq-eqb r.first r.first refl)) (All-nil D)))
    (filter_all keep (map first_of back) (All-map K first_of back (All-weaker (λ b. r.first + Q * N ≤ b.first) (λ b. not (b.first == r.first) ≡ true) (λ b k. not_from_false (b.first == r.first) (ne_eqb b.first r.first (λ e. omega arith))) back (firsts_behind Q N (r.first + Q * N) back here.2))))
    ∙ sym (map-append first_of front back) in
    let live : live_of (front ++ back) ≡ filter (λ b. blocks_apart b (block_at r.first (Q * N))) (live_of (front ++ r ∷ back)) =
    new_parts ∙ sym (other_blocks Q r.first (r.first + Q * N) (live_of front) r.live (live_of back) before behind (here.1).row (Q * N) refl) ∙ ap (filter (λ b. blocks_apart b (block_at r.first (Q * N)))) (sym parts) in
    record {
      bytes_fit = omega arith;
      count_fits = omega arith;
      kept = record {
        order = order_without Q N 0 front r back h.order;
        one_space = space_left (space_of (front ++ r ∷ back)) (front ++ back) left;
        few = omega arith;
        sum = omega arith;
        counted = omega arith;
      };
      space = its_space front r back h.one_space;
      live = sym (ap (blocks_within r.first (r.first + Q * N)) parts ∙ its_blocks Q r.first (r.first + Q * N) (live_of front) r.live (live_of back) before behind (here.1).row);
      rest = rest;
      row = λ some.
          let left_firsts = firsts some in
          ap (λ x. record { room = room; space = x; firsts = map first_of (front ++ back); live = live_of (front ++ back) }) rest
          ∙ ap (λ x. record { room = room; space = (if length x == 0 then None else space_of (front ++ r ∷ back)); firsts = x; live = live_of (front ++ back) }) (sym left_firsts)
          ∙ ap (λ x. record { room = room; space = (if length (filter (λ f. not (f == r.first)) (map first_of (front ++ r ∷ back))) == 0 then None else space_of (front ++ r ∷ back)); firsts = filter (λ f. not (f == r.first)) (map first_of (front ++ r ∷ back)); live = x }) live;
    }

pub removed : (Q N room bytes count : ℕ) (old front : List RegionView) (r : RegionView) (back new : List RegionView) → old ≡ front ++ r ∷ back → new ≡ front ++ back → IsKept Q N room old bytes count → Removed Q N room old bytes count r new
removed Q N room bytes count old front r back new old_is new_is h =
    subst (λ l. Removed Q N room l bytes count r new) (sym old_is) (subst (λ l. Removed Q N room (front ++ r ∷ back) bytes count r l) (sym new_is) (removed_here Q N room bytes count front r back (subst (λ l. IsKept Q N room l bytes count) old_is h)))

-- what both cases of a call's answer say
pub ok_with : {E : Type 0} (r : Result (Unit {0}) E) (P : Type 0) (R : E → Type 0) → is_ok r ≡ true → P → MatchResult r (λ _. P) R
ok_with (Ok _) P R ok done = done
ok_with (Err e) P R ok done = absurd (false≢true ok)

pub err_with : {E : Type 0} (r : Result (Unit {0}) E) (P P' : Type 0) (R R' : E → Type 0) → is_ok r ≡ false → MatchResult r (λ _. P) R → ((e : E) → R e → R' e) → MatchResult r (λ _. P') R'
err_with (Ok _) P P' R R' failed said f = absurd (false≢true (sym failed))
err_with (Err e) P P' R R' failed said f = f e said

pub true_with : (r : Bool) (P P' R R' : Type 0) → r ≡ true → MatchBool r P R → (P → P') → MatchBool r P' R'
true_with true P P' R R' is said f = f said
true_with false P P' R R' is said f = absurd (false≢true is)

pub false_with : (r : Bool) (P P' R R' : Type 0) → r ≡ false → MatchBool r P R → (R → R') → MatchBool r P' R'
false_with true P P' R R' is said f = absurd (false≢true (sym is))
false_with false P P' R R' is said f = f said

pub said_true : (r : Bool) (P R : Type 0) → r ≡ true → MatchBool r P R → P
said_true true P R is said = said
said_true false P R is said = absurd (false≢true is)

-- a row with a region more, at the place that a search for it gave
pub record AddedAt (Q N room bytes count at : ℕ) (ms : List RegionView) (r : RegionView) (v : RowView) : Type 0 where
  pub done : Inserted Q N room ms bytes count r (take at ms ++ r ∷ drop at ms)
  pub none : list_any (λ a. a == r.first) v.firsts ≡ false
  pub few : length ms < room

pub added_at :
    (Q N room bytes count at first : ℕ) (ms slice : List RegionView) (r : RegionView) (v : RowView) → row_of room ms ≡ v → IsKept Q N room ms bytes count → IsRegion Q N r → slice ≡ ms → first ≡ r.first → at ≤ length slice →
    AllWithin (λ s. s.first ≤ first) slice 0 at → AllWithin (λ s. first < s.first) slice at (length slice) → (1 ≤ at → (d : RegionView) → (get_or ms (at - 1) d).first ≡ r.first → ⊥) → length v.firsts < v.room → IsOf v.space r.space →
    AddedAt Q N room bytes count at ms r v
added_at Q N room bytes count at first ms slice r v view kept is same begins within below above other left of =
    let inside : at ≤ length ms = subst (λ l. at ≤ length l) same within in
    let low : AllWithin (λ (s : RegionView). s.first ≤ r.first) ms 0 at = subst (λ x. AllWithin (λ (s : RegionView). s.first ≤ x) ms 0 at) begins (subst (λ l. AllWithin (λ (s : RegionView). s.first ≤ first) l 0 at) same below) in
    let high : AllWithin (λ (s : RegionView). r.first < s.first) ms at (length ms) = subst (λ x. AllWithin (λ (s : RegionView). x < s.first) ms at (length ms)) begins (subst (λ l. AllWithin (λ (s : RegionView). first < s.first) l at (length l)) same above) in
    let before = below_strictly Q N ms r.first at kept.order inside low other in
    let behind = above_all ms r.first at high in
    let parts = take-append-drop at ms in
    let long = length-map ms first_of in
    let room_is = ap (λ (w : RowView). w.room) view in
    let firsts_are = ap (λ (w : RowView). length w.firsts) view in
    let whole = ap (λ l. length l) parts in
    let few : length ms < room = omega arith in
    let done = inserted Q N room bytes count (take at ms) r (drop at ms)
    (subst (λ l. IsKept Q N room l bytes count) (sym parts) kept) is
    (subst (λ o. IsOf o r.space) (sym (ap (λ (w : RowView). w.space) view) ∙ ap space_of (sym parts)) of) (omega arith) before behind in
    record {
      done = record { bytes_fit = done.bytes_fit; count_fits = done.count_fits; kept = done.kept; row = done.row ∙ ap (λ l. with_region_at r (row_of room l)) parts };
      none =
          ap (λ (w : RowView). list_any (λ a. a == r.first) w.firsts) (sym view) ∙ ap (λ l. list_any (λ a. a == r.first) (map first_of l)) (sym parts)
          ∙ none_there (take at ms) r.first (drop at ms) before behind;
      few = few;
    }

-- the region before the place begins elsewhere
pub other_at : (ms : List RegionView) (k f a : ℕ) (here : RegionView) → k < length ms → here ≡ get_or ms k here → f ≡ here.first → (f ≡ a → ⊥) → (d : RegionView) → (get_or ms k d).first ≡ a → ⊥
other_at ms k f a here within is begins differs d same = differs (begins ∙ ap first_of (is ∙ get_or_default ms k here d within) ∙ same)
