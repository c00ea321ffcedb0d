-- Lists of blocks: one more, one fewer, which are there, and the bytes that they leave.
use Rattle.std.proofs.Common.{◌≡◌, ℕ, suc, ◌+◌, ◌-◌, ◌%◌, ◌<◌, ◌≤◌, List, [], ◌∷◌, Bool, true, false, not, Option, Some, None, length, refl, sym, ap, ◌∙◌, inl, inr, arith}
use Rattle.std.specs.Prelude.{◌==◌, nat_lt, nat_le, find}
use Rattle.std.specs.List.{All, list_any, list_all}
use Rattle.std.proofs.lemmas.Bool.{and_parts, and_from, leb-true, le-leb, cases_Bool, eqb-true, eqb-false, eq-eqb, ne_eqb, cond-true, cond-false, or_cases, or_left, or_right, false≢true, not_from_true, not_from_false}
use Rattle.std.proofs.lemmas.List.Elements.{All-nil, All-cons, All-head, All-tail, All-weaker}
use Rattle.std.proofs.lemmas.List.Sums.{sum_by-cons}
use Rattle.mz_base.specs.Space.{Block, block_at, block_end, blocks_apart, same_block}
use Rattle.mz_base.specs.Lists.{insert_by, add_block, drop_block, has_block, size_at, size_sum}
use Rattle.mz_base.specs.Room.{lies_within, is_idle}
use Rattle.mz_region.specs.Views.{AreInRow}
use Rattle.mz_region.proofs.Blocks.{Miss}

-- one block more
pub length-added : (b : Block) (L : List Block) → length (add_block b L) ≡ suc (length L)
unfolding insert_by
length-added b [] = refl
length-added b (c ∷ cs) =
    elim (cases_Bool (nat_lt b.first c.first)) [
      | inl low ↦ ap length (cond-true (nat_lt b.first c.first) (b ∷ c ∷ cs) (c ∷ insert_by (λ d. d.first) b cs) low)
      | inr high ↦ ap length (cond-false (nat_lt b.first c.first) (b ∷ c ∷ cs) (c ∷ insert_by (λ d. d.first) b cs) high) ∙ ap suc (length-added b cs)
    ]

pub sum-added : (b : Block) (L : List Block) → size_sum (add_block b L) ≡ b.size + size_sum L
unfolding insert_by
sum-added b [] = sum_by-cons (λ d. d.size) b []
sum-added b (c ∷ cs) =
    elim (cases_Bool (nat_lt b.first c.first)) [
      | inl low ↦ ap size_sum (cond-true (nat_lt b.first c.first) (b ∷ c ∷ cs) (c ∷ insert_by (λ d. d.first) b cs) low) ∙ sum_by-cons (λ d. d.size) b (c ∷ cs)
      | inr high ↦
          let deeper = sum-added b cs in
          let one = sum_by-cons (λ (d : Block). d.size) c (insert_by (λ d. d.first) b cs) in
          let two = sum_by-cons (λ (d : Block). d.size) c cs in
          ap size_sum (cond-false (nat_lt b.first c.first) (b ∷ c ∷ cs) (c ∷ insert_by (λ d. d.first) b cs) high) ∙ one ∙ omega arith
    ]

-- one fewer, which was added
abbrev IsOther : Block → Block → Type 0
IsOther b c = same_block b c ≡ false

keep_others : (b : Block) (L : List Block) → All (IsOther b) L → drop_block b L ≡ L
keep_others b [] h = refl
keep_others b (c ∷ cs) h =
    let other = All-head (IsOther b) c cs h in
    cond-true (not (same_block b c)) (c ∷ drop_block b cs) (drop_block b cs) (not_from_false (same_block b c) other) ∙ ap (λ l. c ∷ l) (keep_others b cs (All-tail (IsOther b) c cs h))

same_self : (b : Block) → same_block b b ≡ true
same_self b = and_from (b.first == b.first) (b.size == b.size) (eq-eqb b.first b.first refl) (eq-eqb b.size b.size refl)

drop_first : (b : Block) (L : List Block) → drop_block b (b ∷ L) ≡ drop_block b L
drop_first b L = cond-false (not (same_block b b)) (b ∷ drop_block b L) (drop_block b L) (not_from_true (same_block b b) (same_self b))

pub drop_added : (b : Block) (L : List Block) → All (IsOther b) L → drop_block b (add_block b L) ≡ L
unfolding insert_by
drop_added b [] h = drop_first b []
drop_added b (c ∷ cs) h =
    elim (cases_Bool (nat_lt b.first c.first)) [
      | inl low ↦ ap (λ l. drop_block b l) (cond-true (nat_lt b.first c.first) (b ∷ c ∷ cs) (c ∷ insert_by (λ d. d.first) b cs) low) ∙ drop_first b (c ∷ cs) ∙ keep_others b (c ∷ cs) h
      | inr high ↦
          let other = All-head (IsOther b) c cs h in
          ap (λ l. drop_block b l) (cond-false (nat_lt b.first c.first) (b ∷ c ∷ cs) (c ∷ insert_by (λ d. d.first) b cs) high)
          ∙ cond-true (not (same_block b c)) (c ∷ drop_block b (add_block b cs)) (drop_block b (add_block b cs)) (not_from_false (same_block b c) other)
          ∙ ap (λ l. c ∷ l) (drop_added b cs (All-tail (IsOther b) c cs h))
    ]

-- a block whose bytes none of these has is another
pub miss_other : (x n : ℕ) (L : List Block) → 1 ≤ n → All (Miss x (x + n)) L → All (IsOther (block_at x n)) L
miss_other x n L some h = All-weaker (Miss x (x + n)) (IsOther (block_at x n)) (λ c away.
    elim (cases_Bool (same_block (block_at x n) c)) [
      | inr other ↦ other
      | inl same ↦
          let parts = and_parts (x == c.first) (n == c.size) same in
          let at = eqb-true x c.first parts.0 in
          let long = eqb-true n c.size parts.1 in
          elim away [ inl before ↦ absurd (omega arith) | inr behind ↦ absurd (omega arith) ]
    ]) L h

-- blocks in a row have no more bytes than are there, and each has one
pub row_sum : (Q s e : ℕ) (L : List Block) → AreInRow Q s e L → s + size_sum L ≤ e
row_sum Q s e [] row = omega arith
row_sum Q s e (c ∷ cs) row =
    let rest = row_sum Q (block_end c) e cs row.4 in
    let sum = sum_by-cons (λ (d : Block). d.size) c cs in
    let low = row.0 in
    omega arith

pub row_count : (Q s e : ℕ) (L : List Block) → AreInRow Q s e L → length L ≤ size_sum L
row_count Q s e [] row = omega arith
row_count Q s e (c ∷ cs) row =
    let rest = row_count Q (block_end c) e cs row.4 in
    let sum = sum_by-cons (λ (d : Block). d.size) c cs in
    let some = row.2 in
    omega arith

-- what a block of a row keeps
pub row_each : (Q s e : ℕ) (L : List Block) → AreInRow Q s e L → All (λ c. (s ≤ c.first) × (c.first % Q ≡ 0) × (c.size % Q ≡ 0) × (0 < c.size)) L
row_each Q s e [] row = All-nil (λ c. (s ≤ c.first) × (c.first % Q ≡ 0) × (c.size % Q ≡ 0) × (0 < c.size))
row_each Q s e (c ∷ cs) row =
    let low = row.0 in
    All-cons (λ d. (s ≤ d.first) × (d.first % Q ≡ 0) × (d.size % Q ≡ 0) × (0 < d.size)) c cs (row.0, row.1, row.3, row.2)
    (All-weaker (λ d. (block_end c ≤ d.first) × (d.first % Q ≡ 0) × (d.size % Q ≡ 0) × (0 < d.size)) (λ d. (s ≤ d.first) × (d.first % Q ≡ 0) × (d.size % Q ≡ 0) × (0 < d.size))
    (λ d h. let above = h.0 in (omega arith, h.1, h.2, h.3)) cs (row_each Q (block_end c) e cs row.4))

-- what holds of each of these holds of one that is among them
pub among : (P : Block → Type 0) (p : Block → Bool) (L : List Block) → All P L → list_any p L ≡ true → (c : Block) × P c × (p c ≡ true)
among P p [] each h = absurd (false≢true h)
among P p (c ∷ cs) each h =
    elim (or_cases (p c) (list_any p cs) h) [
      | inl here ↦ (c, All-head P c cs each, here)
      | inr later ↦ among P p cs (All-tail P c cs each) later
    ]

pub size_here : (c : Block) (cs : List Block) (x : ℕ) → c.first ≡ x → size_at (c ∷ cs) x ≡ c.size
size_here c cs x at = let read : Option Block → ℕ = λ o. elim o [ None ↦ 0 | Some b ↦ b.size ] in ap read (cond-true (c.first == x) (Some c) (find (λ b. b.first == x) cs) (eq-eqb c.first x at))

pub size_later : (c : Block) (cs : List Block) (x : ℕ) → (c.first ≡ x → ⊥) → size_at (c ∷ cs) x ≡ size_at cs x
size_later c cs x other = let read : Option Block → ℕ = λ o. elim o [ None ↦ 0 | Some b ↦ b.size ] in ap read (cond-false (c.first == x) (Some c) (find (λ b. b.first == x) cs) (ne_eqb c.first x other))

-- The size of a block that is there, and that a block of a size is there.
pub size_of_block : (Q s e : ℕ) (L : List Block) (b : Block) → AreInRow Q s e L → has_block L b ≡ true → (size_at L b.first ≡ b.size) × (1 ≤ b.size)
size_of_block Q s e [] b row h = absurd (false≢true h)
size_of_block Q s e (c ∷ cs) b row h =
    elim (or_cases (same_block b c) (has_block cs b) h) [
      | inl same ↦
          let parts = and_parts (b.first == c.first) (b.size == c.size) same in
          let at : c.first ≡ b.first = sym (eqb-true b.first c.first parts.0) in
          let long = eqb-true b.size c.size parts.1 in
          let some = row.2 in
          (size_here c cs b.first at ∙ sym long, omega arith)
      | inr later ↦
          let deeper = size_of_block Q (block_end c) e cs b row.4 later in
          let found = among (λ d. (block_end c ≤ d.first) × (d.first % Q ≡ 0) × (d.size % Q ≡ 0) × (0 < d.size)) (same_block b) cs (row_each Q (block_end c) e cs row.4) later in
          let at = eqb-true b.first (found.0).first (and_parts (b.first == (found.0).first) (b.size == (found.0).size) found.2).0 in
          let above = found.1.0 in
          let some = row.2 in
          (size_later c cs b.first (λ same. omega arith) ∙ deeper.0, deeper.1)
    ]

pub block_of_size : (L : List Block) (x n : ℕ) → size_at L x ≡ n → 1 ≤ n → has_block L (block_at x n) ≡ true
block_of_size [] x n e some = absurd (omega arith)
block_of_size (c ∷ cs) x n e some =
    elim (cases_Bool (c.first == x)) [
      | inl here ↦
          let at = eqb-true c.first x here in
          let long : c.size ≡ n = sym (size_here c cs x at) ∙ e in
          or_left (same_block (block_at x n) c) (has_block cs (block_at x n)) (and_from (x == c.first) (n == c.size) (eq-eqb x c.first (sym at)) (eq-eqb n c.size (sym long)))
      | inr later ↦ or_right (same_block (block_at x n) c) (has_block cs (block_at x n)) (block_of_size cs x n (sym (size_later c cs x (eqb-false c.first x later)) ∙ e) some)
    ]

-- the size where no block begins
pub size_none : (L : List Block) (x : ℕ) → All (λ c. c.first ≡ x → ⊥) L → size_at L x ≡ 0
size_none [] x h = refl
size_none (c ∷ cs) x h = size_later c cs x (All-head (λ d. d.first ≡ x → ⊥) c cs h) ∙ size_none cs x (All-tail (λ d. d.first ≡ x → ⊥) c cs h)

-- the test of idle bytes, in words
pub miss_from_test : (L : List Block) (x y : ℕ) → x ≤ y → list_all (λ c. blocks_apart c (block_at x (y - x))) L ≡ true → All (Miss x y) L
miss_from_test [] x y up h = All-nil (Miss x y)
miss_from_test (c ∷ cs) x y up h =
    let parts = and_parts (blocks_apart c (block_at x (y - x))) (list_all (λ d. blocks_apart d (block_at x (y - x))) cs) h in
    All-cons (Miss x y) c cs (elim (or_cases (nat_le (block_end c) x) (nat_le (x + (y - x)) c.first) parts.0) [
      | inl low ↦ inl (leb-true (block_end c) x low)
      | inr high ↦ let k = leb-true (x + (y - x)) c.first high in inr (omega arith)
    ]) (miss_from_test cs x y up parts.1)

pub test_from_miss : (L : List Block) (x y : ℕ) → x ≤ y → All (Miss x y) L → list_all (λ c. blocks_apart c (block_at x (y - x))) L ≡ true
test_from_miss [] x y up h = refl
test_from_miss (c ∷ cs) x y up h =
    and_from (blocks_apart c (block_at x (y - x))) (list_all (λ d. blocks_apart d (block_at x (y - x))) cs) (elim (All-head (Miss x y) c cs h) [
      | inl low ↦ or_left (nat_le (block_end c) x) (nat_le (x + (y - x)) c.first) (le-leb (block_end c) x low)
      | inr high ↦ or_right (nat_le (block_end c) x) (nat_le (x + (y - x)) c.first) (le-leb (x + (y - x)) c.first (omega arith))
    ]) (test_from_miss cs x y up (All-tail (Miss x y) c cs h))

pub idle_from_miss : (s e : ℕ) (L : List Block) (x y : ℕ) → s ≤ x → x ≤ y → y ≤ e → All (Miss x y) L → is_idle s e L x y ≡ true
idle_from_miss s e L x y low up high h =
    and_from (lies_within s e x y) (list_all (λ c. blocks_apart c (block_at x (y - x))) L) (and_from (nat_le s x) (nat_le y e) (le-leb s x low) (le-leb y e high)) (test_from_miss L x y up h)

pub record IsMissed (s e : ℕ) (L : List Block) (x y : ℕ) : Type 0 where
  pub low : s ≤ x
  pub high : y ≤ e
  pub each : All (Miss x y) L

pub miss_from_idle : (s e : ℕ) (L : List Block) (x y : ℕ) → x ≤ y → is_idle s e L x y ≡ true → IsMissed s e L x y
miss_from_idle s e L x y up h =
    let parts = and_parts (lies_within s e x y) (list_all (λ c. blocks_apart c (block_at x (y - x))) L) h in
    let within = and_parts (nat_le s x) (nat_le y e) parts.0 in
    record { low = leb-true s x within.0; high = leb-true y e within.1; each = miss_from_test L x y up parts.1 }
