-- Room in a region that comes to a magazine, and what a depot keeps that loses one.
use Rattle.std.proofs.Common.{◌≡◌, ℕ, ◌+◌, ◌-◌, ◌*◌, ◌/◌, ◌%◌, ◌^◌, ◌≤◌, ◌⊎◌, ◌==◌, Bool, true, false, List, [], ◌∷◌, None, Some, refl, ap, sym, ◌∙◌, inl, inr, arith}
use Rattle.std.specs.Prelude.{nat_lt, nat_le, filter, find, fold, length, if◌then◌else◌}
use Rattle.std.specs.Option.{option_map}
use Rattle.std.specs.List.{All, list_any, list_all}
use Rattle.std.specs.Int.{IsPowerOfTwo}
use Rattle.std.proofs.Math.Nat.{mul-le-mul_right, add-mul-mod_self_left, pow-le-pow_right, zero-mod}
use Rattle.std.proofs.lemmas.Nat.{div-add-mod', pow_pos, pow-add}
use Rattle.std.proofs.lemmas.Bool.{and_parts, and_from, cases_Bool, cases_lt, cond-true, cond-false, false≢true, or_cases, or_left, or_right, leb-true, le-leb}
use Rattle.std.proofs.lemmas.List.Elements.{All-nil, All-cons, All-head, All-tail, All-same}
use Rattle.mz_base.specs.declared.range.TheConstants.{PAGE}
use Rattle.mz_base.specs.Space.{Block, Run, block_end, run_end, blocks_apart, runs_apart, bytes_of, least_multiple, same_run}
use Rattle.mz_base.specs.Lists.{insert_by, add_block, has_run, drop_run, blocks_in}
use Rattle.mz_base.specs.Room.{lies_in, has_room, any_has_room}
use Rattle.mz_base.specs.IdleRuns.{MeetsNone, IsIdle}
use Rattle.mz_events.specs.declared.place.Place.{Place}
use Rattle.mz_events.specs.declared.event.Event.TheVariants.{Back}
use Rattle.mz_events.specs.State.{Kept}
use Rattle.mz_events.specs.Room.{wide}
use Rattle.mz_events.specs.Changes.{with_region, without_run}
use Rattle.mz_events.specs.Duties.{is_unused, empty_depot_region}
use Rattle.mz_rack.proofs.Listed.{is_same_run, block_apart}
use Rattle.mz_rack.specs.BookLaws.{RoomStays}

-- a list with one more element has it, and what holds of it and of the others holds of each
pub insert_nil : {A : Type 0} (key : A → ℕ) (x : A) → insert_by key x [] ≡ x ∷ []
unfolding insert_by
insert_nil key x = refl

pub insert_here : {A : Type 0} (key : A → ℕ) (x y : A) (ys : List A) → nat_lt (key x) (key y) ≡ true → insert_by key x (y ∷ ys) ≡ x ∷ y ∷ ys
unfolding insert_by
insert_here key x y ys less = cond-true (nat_lt (key x) (key y)) (x ∷ y ∷ ys) (y ∷ insert_by key x ys) less

pub insert_later : {A : Type 0} (key : A → ℕ) (x y : A) (ys : List A) → nat_lt (key x) (key y) ≡ false → insert_by key x (y ∷ ys) ≡ y ∷ insert_by key x ys
unfolding insert_by
insert_later key x y ys more = cond-false (nat_lt (key x) (key y)) (x ∷ y ∷ ys) (y ∷ insert_by key x ys) more

all_inserted : {A : Type 0} (P : A → Type 0) (key : A → ℕ) (x : A) (xs : List A) → P x → All P xs → All P (insert_by key x xs)
all_inserted P key x [] one each = All-same P (insert_by key x []) (x ∷ []) (insert_nil key x) (All-cons P x [] one each)
all_inserted P key x (y ∷ ys) one each =
    elim (cases_Bool (nat_lt (key x) (key y))) [
      | inl less ↦ All-same P (insert_by key x (y ∷ ys)) (x ∷ y ∷ ys) (insert_here key x y ys less) (All-cons P x (y ∷ ys) one each)
      | inr more ↦ All-same P (insert_by key x (y ∷ ys)) (y ∷ insert_by key x ys) (insert_later key x y ys more) (All-cons P y (insert_by key x ys) (All-head P y ys each) (all_inserted P key x ys one (All-tail P y ys each)))
    ]

pub any_inserted : {A : Type 0} (p : A → Bool) (key : A → ℕ) (x : A) (xs : List A) → p x ≡ true → list_any p (insert_by key x xs) ≡ true
any_inserted p key x [] h = ap (list_any p) (insert_nil key x) ∙ or_left (p x) false h
any_inserted p key x (y ∷ ys) h =
    elim (cases_Bool (nat_lt (key x) (key y))) [
      | inl less ↦ ap (list_any p) (insert_here key x y ys less) ∙ or_left (p x) (list_any p (y ∷ ys)) h
      | inr more ↦ ap (list_any p) (insert_later key x y ys more) ∙ or_right (p y) (list_any p (insert_by key x ys)) (any_inserted p key x ys h)
    ]

all_added : (P : Block → Type 0) (live more : List Block) → All P live → All P more → All P (fold (λ bs b. add_block b bs) live more)
all_added P live [] here there = here
all_added P live (b ∷ bs) here there =
    all_added P (add_block b live) bs (all_inserted P (λ c. c.first) b live (All-head P b bs there) here) (All-tail P b bs there)

all_filtered : {A : Type 0} (P : A → Type 0) (p : A → Bool) (xs : List A) → All P xs → All P (filter p xs)
all_filtered P p [] h = h
all_filtered P p (x ∷ xs) h =
    let rest = all_filtered P p xs (All-tail P x xs h) in
    elim (cases_Bool (p x)) [
      | inl passes_it ↦ All-same P (filter p (x ∷ xs)) (x ∷ filter p xs) (cond-true (p x) (x ∷ filter p xs) (filter p xs) passes_it) (All-cons P x (filter p xs) (All-head P x xs h) rest)
      | inr fails_it ↦ All-same P (filter p (x ∷ xs)) (filter p xs) (cond-false (p x) (x ∷ filter p xs) (filter p xs) fails_it) rest
    ]

-- blocks that are apart from a run meet none of its bytes
apart_meets : (r : Run) (live : List Block) (x y : ℕ) → r.first * PAGE ≤ x → y ≤ run_end r * PAGE → list_all (λ b. blocks_apart b (bytes_of r)) live ≡ true → MeetsNone live x y
apart_meets r [] x y low high h = All-nil (λ b. (block_end b ≤ x) ⊎ (y ≤ b.first))
apart_meets r (b ∷ bs) x y low high h =
    let parts = and_parts (blocks_apart b (bytes_of r)) (list_all (λ c. blocks_apart c (bytes_of r)) bs) h in
    All-cons (λ c. (block_end c ≤ x) ⊎ (y ≤ c.first)) b bs (elim (or_cases (nat_le (block_end b) (r.first * PAGE)) (nat_le (r.first * PAGE + r.pages * PAGE) b.first) parts.0) [
      | inl below ↦ let k = leb-true (block_end b) (r.first * PAGE) below in inl (omega arith)
      | inr above ↦ let k = leb-true (r.first * PAGE + r.pages * PAGE) b.first above in inr (omega arith)
    ]) (apart_meets r bs x y low high parts.1)

-- A region that comes to a magazine with its live blocks has the room there that it had in the place d from which it comes. The blocks
-- of the magazine are apart from it.
pub room_of_region : RoomStays → (k d : Kept) (r : Run) (n al : ℕ) → 1 ≤ n → 1 ≤ al → has_room r (wide d) n al ≡ true → list_all (λ b. blocks_apart b (bytes_of r)) k.live ≡ true
    → any_has_room (with_region r (blocks_in d.live r) k).runs (wide (with_region r (blocks_in d.live r) k)) n al ≡ true
room_of_region stays k d r n al some step h apart =
    let all = fold (λ bs b. add_block b bs) k.live (blocks_in d.live r) in
    let start = r.first * PAGE in
    let end = run_end r * PAGE in
    let through : (x y : ℕ) → IsIdle start end d.live x y → IsIdle start end all x y = λ x y idle. record {
      some = idle.some;
      not_below = idle.not_below;
      not_above = idle.not_above;
      meets_none = all_added (λ b. (block_end b ≤ x) ⊎ (y ≤ b.first)) k.live (blocks_in d.live r) (apart_meets r k.live x y idle.not_below idle.not_above apart)
          (all_filtered (λ b. (block_end b ≤ x) ⊎ (y ≤ b.first)) (λ b. lies_in r b.first (block_end b)) d.live idle.meets_none);
    } in
    any_inserted (λ t. has_room t all n al) (λ t. t.first) r k.runs (stays start end d.live all n al some step through h)

-- a power of two is at least 1, and of two the greater is a multiple of the less
power_some : (m : ℕ) → IsPowerOfTwo m → 1 ≤ m
power_some m h = let k = pow_pos h.0 in let is = h.1 in omega arith

power_divides : (m n : ℕ) → IsPowerOfTwo m → IsPowerOfTwo n → m ≤ n → (k : ℕ) × (n ≡ m * k)
power_divides m n hm hn up =
    let more : hm.0 ≤ hn.0 = elim (cases_lt hn.0 hm.0) [
      | inr more ↦ more
      | inl fewer ↦
          let steps : 2 ^ (hn.0 + 1) ≤ 2 ^ hm.0 = pow-le-pow_right (omega arith) (omega arith) in
          let twice : 2 ^ (hn.0 + 1) ≡ 2 ^ hn.0 * 2 ^ 1 = pow-add 2 hn.0 1 in
          let some = pow_pos hn.0 in
          let is_m = hm.1 in
          let is_n = hn.1 in
          absurd (omega arith)
    ] in
    let whole : hm.0 + (hn.0 - hm.0) ≡ hn.0 = omega arith in
    (2 ^ (hn.0 - hm.0), hn.1 ∙ ap (λ k. 2 ^ k) (sym whole) ∙ pow-add 2 hm.0 (hn.0 - hm.0) ∙ ap (λ j. j * 2 ^ (hn.0 - hm.0)) (sym hm.1))

-- the least multiple at or above a multiple is it
multiple_same : (al x : ℕ) → 1 ≤ al → x % al ≡ 0 → least_multiple al x ≡ x
multiple_same al x step whole =
    let up = div-add-mod' (x + al - 1) al in
    let all = div-add-mod' x al in
    elim (cases_lt (x / al) ((x + al - 1) / al)) [
      | inl less ↦ let more : (x / al + 1) * al ≤ (x + al - 1) / al * al = mul-le-mul_right al (omega arith) in absurd (omega (arith, up, all))
      | inr no_less ↦ let less : (x + al - 1) / al * al ≤ x / al * al = mul-le-mul_right al no_less in omega (arith, up, all)
    ]

turned : (a b c : ℕ) → a * (b * c) ≡ 0 + b * (c * a)
turned a b c = grind arith

-- a page begins at a multiple of each alignment
pub page_aligned : (f al : ℕ) → IsPowerOfTwo al → al ≤ 16384 → f * PAGE % al ≡ 0
page_aligned f al power small =
    let part = power_divides al 16384 power (14, refl) small in
    let all : f * PAGE ≡ 0 + al * (part.0 * f) = ap (λ x. f * x) part.1 ∙ turned f al part.0 in
    ap (λ x. x % al) all ∙ add-mul-mod_self_left 0 al (part.0 * f) ∙ zero-mod al

-- a region without live blocks has room for whatever is no larger
pub room_of_fresh : (r : Run) (n al : ℕ) → n ≤ r.pages * PAGE → IsPowerOfTwo al → al ≤ 16384 → has_room r [] n al ≡ true
room_of_fresh r n al few power small =
    let step = power_some al power in
    let same = multiple_same al (r.first * PAGE) step (page_aligned r.first al power small) in
    let low = le-leb (r.first * PAGE) (r.first * PAGE) (omega arith) in
    let high = le-leb (least_multiple al (r.first * PAGE) + n) (run_end r * PAGE) (omega arith) in
    or_left _ false (and_from _ true (and_from (nat_le (r.first * PAGE) (r.first * PAGE)) (nat_le (least_multiple al (r.first * PAGE) + n) (run_end r * PAGE)) low high) refl)

-- elements that pass a weaker test first are found again
filter_through : {A : Type 0} (p q : A → Bool) (xs : List A) → ((x : A) → p x ≡ true → q x ≡ true) → filter p (filter q xs) ≡ filter p xs
filter_through p q [] h = refl
filter_through p q (x ∷ xs) h =
    let rest = filter_through p q xs h in
    elim (cases_Bool (q x)) [
      | inl passes_it ↦ ap (filter p) (cond-true (q x) (x ∷ filter q xs) (filter q xs) passes_it) ∙ ap (λ l. if p x then x ∷ l else l) rest
      | inr fails_it ↦ ap (filter p) (cond-false (q x) (x ∷ filter q xs) (filter q xs) fails_it) ∙ rest ∙ sym (cond-false (p x) (x ∷ filter p xs) (filter p xs) (elim (cases_Bool (p x)) [
        | inl passes ↦ absurd (false≢true (sym fails_it ∙ h x passes))
        | inr fails ↦ fails
      ]))
    ]

none_found : (p : Run → Bool) (rs : List Run) → ((t : Run) → has_run rs t ≡ true → p t ≡ false) → find p rs ≡ None
none_found p [] h = refl
none_found p (r ∷ rs) h =
    cond-false (p r) (Some r) (find p rs) (h r (or_left (same_run r r) (has_run rs r) (is_same_run r))) ∙ none_found p rs (λ t y. h t (or_right (same_run t r) (has_run rs t) y))

-- the other regions of a depot keep their live blocks, so that none is left without one
pub still_used : (d : Place) (k : Kept) (r : Run) → ((t : Run) → has_run (drop_run r k.runs) t ≡ true → is_unused k.live t ≡ false) → ((t : Run) → has_run (drop_run r k.runs) t ≡ true → runs_apart t r ≡ true)
    → empty_depot_region d (without_run r k) ≡ None
still_used d k r used apart =
    ap (option_map (λ t. Back d t.first t.pages)) (none_found (is_unused (filter (λ b. blocks_apart b (bytes_of r)) k.live)) (drop_run r k.runs)
    (λ t there. ap (λ bs. length bs == 0) (filter_through (λ b. lies_in t b.first (block_end b)) (λ b. blocks_apart b (bytes_of r)) k.live (λ b lies. block_apart t r b lies (apart t there))) ∙ used t there))
