-- The last freed block through the calls of a magazine.
use Rattle.std.proofs.Common.{◌≡◌, ℕ, ◌+◌, ◌-◌, ◌*◌, ◌/◌, ◌%◌, ◌<◌, ◌≤◌, ◌⊎◌, List, [], ◌∷◌, Bool, true, false, not, Option, Some, None, refl, sym, ap, ◌∙◌, subst, inl, inr, arith}
use Rattle.std.specs.Prelude.{◌&&◌, ◌||◌, nat_le, nat_lt, filter, IfSome, MatchOption, ◌==◌, IsTrue, if◌then◌else◌}
use Rattle.std.specs.List.{list_any, list_all}
use Rattle.std.proofs.lemmas.Bool.{cases_Bool, cases_lt, cond-true, cond-false, and_parts, and_from, and_left, and_right, eq-eqb, ne_eqb, or_cases, or_left, or_right, or_from, leb-true, le-leb, lt-leb, false≢true, not_from_false}
use Rattle.std.proofs.lemmas.Option.{same_Some, none-some}
use Rattle.mz_base.specs.Space.{Block, block_at, block_end, blocks_apart, same_block}
use Rattle.mz_base.specs.Lists.{insert_by, add_block, drop_block}
use Rattle.mz_base.specs.Room.{lies_within, is_idle, is_front_within, is_at_front}
use Rattle.mz_events.specs.declared.place.Place.{Place}
use Rattle.mz_events.specs.declared.place.Place.TheVariants.{Pages, Tiny, TinyDepot, Small, SmallDepot, Large, Nano}
use Rattle.mz_events.specs.Places.{is_magazine, is_depot}
use Rattle.mz_events.specs.State.{Kept}
use Rattle.mz_events.specs.Changes.{still_freed, with_block, without_block}
use Rattle.mz_magazine.specs.Row.{RowView, is_idle_in, lies_in_row, has_room_at, without_region_at}
use Rattle.mz_events.specs.Placement.{is_placed_in_magazine, serves}
use Rattle.mz_events.specs.Room.{wide, narrow}
use Rattle.std.proofs.Math.Nat.{mul-div_right}
use Rattle.mz_magazine.specs.Keeping.{freed_at, keeping_of, IsIdleFreed}
use Rattle.mz_magazine.proofs.Idle.{among, front_is_idle, idle_is_room, idle_from_test}
use Rattle.mz_magazine.proofs.Lists.{case_here, case_later, insert_nil, any_weaker}

-- a block apart from the last freed one leaves it, and any other leaves none
pub kept_freed : (freed : Option (ℕ × ℕ)) (a size first len : ℕ) → freed ≡ Some (a, size) → (a + size ≤ first) ⊎ (first + len ≤ a) → freed_at freed ≡ still_freed (block_at first len) (freed_at freed)
kept_freed freed a size first len is apart =
    let f = block_at a size in
    let b = block_at first len in
    let test : blocks_apart f b ≡ true = elim apart [
      | inl before ↦ or_left (nat_le (a + size) first) (nat_le (first + len) a) (le-leb (a + size) first before)
      | inr behind ↦ or_right (nat_le (a + size) first) (nat_le (first + len) a) (le-leb (first + len) a behind)
    ] in
    ap freed_at is ∙ sym (cond-true (blocks_apart f b) (Some f) None test) ∙ ap (λ o. still_freed (block_at first len) (freed_at o)) (sym is)

pub lost_freed : (freed : Option (ℕ × ℕ)) (a size first len : ℕ) → freed ≡ Some (a, size) → first < a + size → a < first + len → freed_at None ≡ still_freed (block_at first len) (freed_at freed)
lost_freed freed a size first len is low high =
    let f = block_at a size in
    let b = block_at first len in
    let test : blocks_apart f b ≡ false = or_from (nat_le (a + size) first) (nat_le (first + len) a) (lt-leb (a + size) first low) (lt-leb (first + len) a high) in
    sym (cond-false (blocks_apart f b) (Some f) None test) ∙ ap (λ o. still_freed (block_at first len) (freed_at o)) (sym is)

-- what is left of it was it, and is apart
pub still_cases : (freed : Option (ℕ × ℕ)) (p : ℕ × ℕ) (b : Block) → freed_at (Some p) ≡ still_freed b (freed_at freed) → (freed ≡ Some p) × (blocks_apart (block_at p.0 p.1) b ≡ true)
still_cases None p b h = absurd (none-some (block_at p.0 p.1) (sym h))
still_cases (Some q) p b h =
    elim (cases_Bool (blocks_apart (block_at q.0 q.1) b)) [
      | inr meets ↦ absurd (none-some (block_at p.0 p.1) (sym (h ∙ cond-false (blocks_apart (block_at q.0 q.1) b) (Some (block_at q.0 q.1)) None meets)))
      | inl apart ↦
          let same : block_at p.0 p.1 ≡ block_at q.0 q.1 = same_Some (block_at p.0 p.1) (block_at q.0 q.1) (h ∙ cond-true (blocks_apart (block_at q.0 q.1) b) (Some (block_at q.0 q.1)) None apart) in
          let first = ap (λ (c : Block). c.first) same in
          let size = ap (λ (c : Block). c.size) same in
          (ap (λ x. Some (x, q.1)) (sym first) ∙ ap (λ y. Some (p.0, y)) (sym size), ap (λ c. blocks_apart c b) same ∙ apart)
    ]

apart_turned : (b c : Block) → blocks_apart b c ≡ true → blocks_apart c b ≡ true
apart_turned b c h =
    elim (or_cases (nat_le (block_end b) c.first) (nat_le (block_end c) b.first) h) [
      | inl low ↦ or_right (nat_le (block_end c) b.first) (nat_le (block_end b) c.first) low
      | inr high ↦ or_left (nat_le (block_end c) b.first) (nat_le (block_end b) c.first) high
    ]

pub all_test_inserted : {A : Type 0} (p : A → Bool) (key : A → ℕ) (x : A) (xs : List A) → p x ≡ true → list_all p xs ≡ true → list_all p (insert_by key x xs) ≡ true
all_test_inserted p key x [] one each = ap (λ l. list_all p l) (insert_nil key x) ∙ and_from (p x) true one refl
all_test_inserted p key x (y ∷ ys) one each =
    let parts = and_parts (p y) (list_all p ys) each in
    elim (cases_Bool (nat_lt (key x) (key y))) [
      | inl less ↦ ap (λ l. list_all p l) (case_here key x y ys less) ∙ and_from (p x) (p y && list_all p ys) one each
      | inr more ↦ ap (λ l. list_all p l) (case_later key x y ys more) ∙ and_from (p y) (list_all p (insert_by key x ys)) parts.0 (all_test_inserted p key x ys one parts.1)
    ]

pub all_test_filtered : {A : Type 0} (p q : A → Bool) (xs : List A) → list_all p xs ≡ true → list_all p (filter q xs) ≡ true
all_test_filtered p q [] each = refl
all_test_filtered p q (x ∷ xs) each =
    let parts = and_parts (p x) (list_all p xs) each in
    elim (cases_Bool (q x)) [
      | inl keep ↦ ap (λ l. list_all p l) (cond-true (q x) (x ∷ filter q xs) (filter q xs) keep) ∙ and_from (p x) (list_all p (filter q xs)) parts.0 (all_test_filtered p q xs parts.1)
      | inr drop ↦ ap (λ l. list_all p l) (cond-false (q x) (x ∷ filter q xs) (filter q xs) drop) ∙ all_test_filtered p q xs parts.1
    ]

-- what is idle is so with a block more that is apart, and with fewer blocks
pub idle_with : (len : ℕ) (firsts : List ℕ) (live : List Block) (b : Block) (x n : ℕ) → blocks_apart (block_at x n) b ≡ true → is_idle_in len firsts live x (x + n) ≡ true → is_idle_in len firsts (add_block b live) x (x + n) ≡ true
idle_with len firsts live b x n apart h =
    let long : x + n - x ≡ n = omega arith in
    let one : blocks_apart b (block_at x (x + n - x)) ≡ true = ap (λ m. blocks_apart b (block_at x m)) long ∙ apart_turned (block_at x n) b apart in
    any_weaker (λ a. is_idle a (a + len) live x (x + n)) (λ a. is_idle a (a + len) (add_block b live) x (x + n)) firsts (λ a test.
    let parts = and_parts (lies_within a (a + len) x (x + n)) (list_all (λ c. blocks_apart c (block_at x (x + n - x))) live) test in
    and_from (lies_within a (a + len) x (x + n)) (list_all (λ c. blocks_apart c (block_at x (x + n - x))) (add_block b live)) parts.0
    (all_test_inserted (λ c. blocks_apart c (block_at x (x + n - x))) (λ c. c.first) b live one parts.1)) h

pub idle_fewer : (len : ℕ) (firsts : List ℕ) (live : List Block) (q : Block → Bool) (x y : ℕ) → is_idle_in len firsts live x y ≡ true → is_idle_in len firsts (filter q live) x y ≡ true
idle_fewer len firsts live q x y h =
    any_weaker (λ a. is_idle a (a + len) live x y) (λ a. is_idle a (a + len) (filter q live) x y) firsts (λ a test.
    let parts = and_parts (lies_within a (a + len) x y) (list_all (λ c. blocks_apart c (block_at x (y - x))) live) test in
    and_from (lies_within a (a + len) x y) (list_all (λ c. blocks_apart c (block_at x (y - x))) (filter q live)) parts.0 (all_test_filtered (λ c. blocks_apart c (block_at x (y - x))) q live parts.1)) h

-- the last freed block stays idle where a block is made, apart from it
pub idle_made : (Q N : ℕ) (v w : RowView) (freed left : Option (ℕ × ℕ)) (b : Block) → IsIdleFreed Q N v freed → w ≡ record v { live = add_block b v.live } → freed_at left ≡ still_freed b (freed_at freed) → IsIdleFreed Q N w left
idle_made Q N v w freed None b h is same = tt
idle_made Q N v w freed (Some p) b h is same =
    let was = still_cases freed p b same in
    let had : IsIdleFreed Q N v (Some p) = subst (IsIdleFreed Q N v) was.0 h in
    (had.0, had.1, had.2, ap (λ (u : RowView). is_idle_in (Q * N) u.firsts u.live p.0 (p.0 + p.1)) is ∙ idle_with (Q * N) v.firsts v.live b p.0 p.1 was.1 had.3)

pub idle_resized : (Q N : ℕ) (v w : RowView) (freed left : Option (ℕ × ℕ)) (b c : Block) → IsIdleFreed Q N v freed → w ≡ record v { live = add_block c (drop_block b v.live) } → freed_at left ≡ still_freed c (freed_at freed) → IsIdleFreed Q N w left
idle_resized Q N v w freed None b c h is same = tt
idle_resized Q N v w freed (Some p) b c h is same =
    let was = still_cases freed p c same in
    let had : IsIdleFreed Q N v (Some p) = subst (IsIdleFreed Q N v) was.0 h in (
      had.0,
      had.1,
      had.2,
      ap (λ (u : RowView). is_idle_in (Q * N) u.firsts u.live p.0 (p.0 + p.1)) is
          ∙ idle_with (Q * N) v.firsts (drop_block b v.live) c p.0 p.1 was.1 (idle_fewer (Q * N) v.firsts v.live (λ d. not (same_block b d)) p.0 (p.0 + p.1) had.3),
    )

pub freed_some : (Q N : ℕ) (v : RowView) (freed : Option (ℕ × ℕ)) → IsIdleFreed Q N v freed → IfSome freed (λ p. 1 ≤ p.1)
freed_some Q N v None h = tt
freed_some Q N v (Some p) h = h.2

-- what the end of a block leaves in a depot, and in a magazine
ended_depot : (q : Place) (b : Block) (k : Kept) → IsTrue (is_depot q) → without_block q b k ≡ record k { live = drop_block b k.live; last_freed = None }
ended_depot Pages b k h = absurd (false≢true h)
ended_depot (Tiny z m) b k h = absurd (false≢true h)
ended_depot (TinyDepot z) b k h = refl
ended_depot (Small z m) b k h = absurd (false≢true h)
ended_depot (SmallDepot z) b k h = refl
ended_depot (Large z) b k h = absurd (false≢true h)
ended_depot Nano b k h = absurd (false≢true h)

ended_magazine : (q : Place) (b : Block) (k : Kept) → IsTrue (is_magazine q) → without_block q b k ≡ record k { live = drop_block b k.live; last_freed = Some b }
ended_magazine Pages b k h = absurd (false≢true h)
ended_magazine (Tiny z m) b k h = refl
ended_magazine (TinyDepot z) b k h = absurd (false≢true h)
ended_magazine (Small z m) b k h = refl
ended_magazine (SmallDepot z) b k h = absurd (false≢true h)
ended_magazine (Large z) b k h = absurd (false≢true h)
ended_magazine Nano b k h = absurd (false≢true h)

pub freed_view : (Q N : ℕ) (depot : Bool) (v w : RowView) (last left : Option (ℕ × ℕ)) (a n : ℕ) (q : Place) → w ≡ record v { live = drop_block (block_at a n) v.live } → left ≡ (if depot then None else Some (a, n)) → IsTrue (if depot then is_depot q else is_magazine q)
    → keeping_of Q N depot w left ≡ record (keeping_of Q N depot v last) { kept = without_block q (block_at a n) (keeping_of Q N depot v last).kept }
freed_view Q N true v w last left a n q row is kind =
    ap (λ x. keeping_of Q N true x left) row ∙ ap (keeping_of Q N true (record v { live = drop_block (block_at a n) v.live })) is
    ∙ ap (λ k. record (keeping_of Q N true v last) { kept = k }) (sym (ended_depot q (block_at a n) (keeping_of Q N true v last).kept kind))
freed_view Q N false v w last left a n q row is kind =
    ap (λ x. keeping_of Q N false x left) row ∙ ap (keeping_of Q N false (record v { live = drop_block (block_at a n) v.live })) is
    ∙ ap (λ k. record (keeping_of Q N false v last) { kept = k }) (sym (ended_magazine q (block_at a n) (keeping_of Q N false v last).kept kind))

-- a freed block, in whole quanta, that is kept aside is idle
pub idle_aside : (Q N : ℕ) (depot : Bool) (v : RowView) (left : Option (ℕ × ℕ)) (p : ℕ × ℕ) → left ≡ (if depot then None else Some p) → IsIdleFreed Q N v (Some p) → IsIdleFreed Q N v left
idle_aside Q N true v left p is h = subst (IsIdleFreed Q N v) (sym is) tt
idle_aside Q N false v left p is h = subst (IsIdleFreed Q N v) (sym is) h

-- a magazine with a block more
pub made_view : (Q N : ℕ) (depot : Bool) (v w : RowView) (last left : Option (ℕ × ℕ)) (b : Block) → w ≡ record v { live = add_block b v.live } → freed_at left ≡ still_freed b (freed_at last)
    → keeping_of Q N depot w left ≡ record (keeping_of Q N depot v last) { kept = with_block b (keeping_of Q N depot v last).kept }
made_view Q N depot v w last left b row same =
    ap (λ x. keeping_of Q N depot x left) row
    ∙ ap (λ f. record (keeping_of Q N depot v last) { kept = record (keeping_of Q N depot v last).kept { live = add_block b v.live; last_freed = f } }) same

-- idle bytes are apart from each live block, and those at a front are aligned
pub idle_apart : (len : ℕ) (firsts : List ℕ) (live : List Block) (x n : ℕ) → is_idle_in len firsts live x (x + n) ≡ true → list_all (λ c. blocks_apart c (block_at x n)) live ≡ true
idle_apart len firsts live x n h =
    let found = among (λ a. a ≡ a) (λ a. is_idle a (a + len) live x (x + n)) firsts (λ k d _. refl) h in
    let parts = and_parts (lies_within found.0 (found.0 + len) x (x + n)) (list_all (λ c. blocks_apart c (block_at x (x + n - x))) live) found.2 in
    let long : x + n - x ≡ n = omega arith in
    ap (λ m. list_all (λ c. blocks_apart c (block_at x m)) live) (sym long) ∙ parts.1

pub front_aligned : (len : ℕ) (firsts : List ℕ) (live : List Block) (b : Block) (al : ℕ) → 1 ≤ b.size → 1 ≤ al → list_any (λ a. is_front_within a (a + len) live b al) firsts ≡ true → b.first % al ≡ 0
front_aligned len firsts live b al some step h =
    let found = among (λ a. a ≡ a) (λ a. is_front_within a (a + len) live b al) firsts (λ k d _. refl) h in
    (front_is_idle found.0 (found.0 + len) live b al some step found.2).1

-- where a call can't have answered None, what it says of its block
pub some_with : {A : Type 0} (r : Option A) (P P' : Type 0) (R R' : A → Type 0) → MatchOption r P R → (P → ⊥) → ((x : A) → R x → R' x) → MatchOption r P' R'
some_with None P P' R R' said never f = absurd (never said)
some_with (Some x) P P' R R' said never f = f x said

-- idle bytes lie in a region, and where they are at a multiple some region has room
pub idle_lies : (len : ℕ) (firsts : List ℕ) (live : List Block) (x y : ℕ) → is_idle_in len firsts live x y ≡ true → lies_in_row len firsts x y ≡ true
idle_lies len firsts live x y h =
    any_weaker (λ a. is_idle a (a + len) live x y) (λ a. lies_within a (a + len) x y) firsts
    (λ a test. (and_parts (lies_within a (a + len) x y) (list_all (λ c. blocks_apart c (block_at x (y - x))) live) test).0) h

pub idle_has_room : (len : ℕ) (firsts : List ℕ) (live : List Block) (x n al : ℕ) → 1 ≤ n → 1 ≤ al → x % al ≡ 0 → is_idle_in len firsts live x (x + n) ≡ true → list_any (has_room_at len live n al) firsts ≡ true
idle_has_room len firsts live x n al some step at h =
    any_weaker (λ a. is_idle a (a + len) live x (x + n)) (has_room_at len live n al) firsts
    (λ a test. idle_is_room a (a + len) live n al x some step at (idle_from_test a (a + len) live x (x + n) (omega arith) test)) h

-- the last freed block that serves is where the block is placed
pub placed_on_freed : (k : Kept) (a size x n al : ℕ) → k.last_freed ≡ Some (block_at a size) → x ≡ a → size ≡ n → a % al ≡ 0 → is_placed_in_magazine k (block_at x n) al ≡ true
placed_on_freed k a size x n al freed at long aligned =
    let b = block_at x n in
    let f = block_at a size in
    let front = is_at_front k.runs (wide k) b al || is_at_front k.runs (narrow k) b al in
    let placed : Option Block → Bool = λ o. elim o [ None ↦ front | Some g ↦ if serves g n al then same_block g b else front ] in
    ap placed freed
    ∙ cond-true (serves f n al) (same_block f b) front (and_from (size == n) (a % al == 0) (eq-eqb size n long) (eq-eqb (a % al) 0 aligned))
    ∙ and_from (a == x) (size == n) (eq-eqb a x (sym at)) (eq-eqb size n long)

-- and where it doesn't serve, at a front
pub placed_at_front : (k : Kept) (b : Block) (al : ℕ) → ((f : Block) → k.last_freed ≡ Some f → serves f b.size al ≡ false) → is_at_front k.runs (wide k) b al ≡ true → is_placed_in_magazine k b al ≡ true
placed_at_front k b al never there = by_freed k.last_freed refl
  where
    front : Bool
    front = is_at_front k.runs (wide k) b al || is_at_front k.runs (narrow k) b al

    there' : (is_at_front k.runs (wide k) b al || is_at_front k.runs (narrow k) b al) ≡ true
    there' = or_left (is_at_front k.runs (wide k) b al) (is_at_front k.runs (narrow k) b al) there

    by_freed : (o : Option Block) → k.last_freed ≡ o → is_placed_in_magazine k b al ≡ true
    by_freed None e =
        let placed : Option Block → Bool = λ o. elim o [ None ↦ is_at_front k.runs (wide k) b al || is_at_front k.runs (narrow k) b al | Some g ↦ if serves g b.size al then same_block g b else (is_at_front k.runs (wide k) b al || is_at_front k.runs (narrow k) b al) ] in
        ap placed e ∙ there'
    by_freed (Some f) e =
        let placed : Option Block → Bool = λ o. elim o [ None ↦ is_at_front k.runs (wide k) b al || is_at_front k.runs (narrow k) b al | Some g ↦ if serves g b.size al then same_block g b else (is_at_front k.runs (wide k) b al || is_at_front k.runs (narrow k) b al) ] in
        ap placed e ∙ cond-false (serves f b.size al) (same_block f b) (is_at_front k.runs (wide k) b al || is_at_front k.runs (narrow k) b al) (never f e) ∙ there'

-- a last freed block of another number of quanta, or not aligned, doesn't serve
pub other_size : (Q a size n al : ℕ) → size % Q ≡ 0 → 0 < size → (size / Q ≡ n → ⊥) → serves (block_at a size) (Q * n) al ≡ false
other_size Q a size n al whole some other =
    and_left (size == Q * n) (a % al == 0) (ne_eqb size (Q * n) (λ same. other (elim (cases_lt 0 Q) [
      | inl quantum ↦ ap (λ m. m / Q) same ∙ mul-div_right n quantum
      | inr none ↦ let zero_ : Q ≡ 0 = omega arith in let product : Q * n ≡ 0 * n = ap (λ m. m * n) zero_ in absurd (omega arith)
    ])))

pub other_place : (a size n al : ℕ) → (a % al ≡ 0 → ⊥) → serves (block_at a size) n al ≡ false
other_place a size n al other = and_right (size == n) (a % al == 0) (ne_eqb (a % al) 0 other)

any_filtered : (p q : ℕ → Bool) (xs : List ℕ) → ((x : ℕ) → p x ≡ true → q x ≡ true) → list_any p xs ≡ true → list_any p (filter q xs) ≡ true
any_filtered p q [] keeps h = h
any_filtered p q (x ∷ xs) keeps h =
    elim (cases_Bool (q x)) [
      | inl keep ↦ ap (λ l. list_any p l) (cond-true (q x) (x ∷ filter q xs) (filter q xs) keep) ∙ elim (or_cases (p x) (list_any p xs) h) [
        | inl here ↦ or_left (p x) (list_any p (filter q xs)) here
        | inr later ↦ or_right (p x) (list_any p (filter q xs)) (any_filtered p q xs keeps later)
      ]
      | inr drop ↦ ap (λ l. list_any p l) (cond-false (q x) (x ∷ filter q xs) (filter q xs) drop) ∙ elim (or_cases (p x) (list_any p xs) h) [
        | inl here ↦ absurd (false≢true (sym drop ∙ keeps x here))
        | inr later ↦ any_filtered p q xs keeps later
      ]
    ]

-- the last freed block stays idle where a region goes that it doesn't lie in
pub idle_without : (Q N : ℕ) (v w : RowView) (freed left : Option (ℕ × ℕ)) (first : ℕ) → IsIdleFreed Q N v freed → IfSome left (λ p. freed ≡ Some p) → (0 < Q * N → w ≡ without_region_at (Q * N) first v) → (1 ≤ Q * N → freed_at left ≡ still_freed (block_at first (Q * N)) (freed_at freed)) → IsIdleFreed Q N w left
idle_without Q N v w freed None first h was gone still = tt
idle_without Q N v w freed (Some p) first h was gone still =
    let had : IsIdleFreed Q N v (Some p) = subst (IsIdleFreed Q N v) was h in
    let some = had.2 in
    let p_idle : ℕ → Bool = λ a. is_idle a (a + Q * N) v.live p.0 (p.0 + p.1) in
    elim (cases_lt 0 (Q * N)) [
      | inl filled ↦
          let apart = (still_cases freed p (block_at first (Q * N)) (still filled)).1 in
          let others : list_any p_idle (filter (λ f. not (f == first)) v.firsts) ≡ true = any_filtered p_idle (λ f. not (f == first)) v.firsts (λ a test.
          let idle = idle_from_test a (a + Q * N) v.live p.0 (p.0 + p.1) (omega arith) test in
          let low = idle.not_below in
          let high = idle.not_above in
          not_from_false (a == first) (ne_eqb a first (λ same. elim (or_cases (nat_le (p.0 + p.1) first) (nat_le (first + Q * N) p.0) apart) [
            | inl before ↦ let k = leb-true (p.0 + p.1) first before in absurd (omega arith)
            | inr behind ↦ let k = leb-true (first + Q * N) p.0 behind in absurd (omega arith)
          ]))) had.3 in (
            had.0,
            had.1,
            had.2,
            ap (λ (u : RowView). is_idle_in (Q * N) u.firsts u.live p.0 (p.0 + p.1)) (gone filled)
                ∙ idle_fewer (Q * N) (filter (λ f. not (f == first)) v.firsts) v.live (λ b. blocks_apart b (block_at first (Q * N))) p.0 (p.0 + p.1) others,
          )
      | inr none ↦
          let found = among (λ a. a ≡ a) p_idle v.firsts (λ k d _. refl) had.3 in
          let idle = idle_from_test found.0 (found.0 + Q * N) v.live p.0 (p.0 + p.1) (omega arith) found.2 in
          let low = idle.not_below in
          let high = idle.not_above in
          absurd (omega arith)
    ]
