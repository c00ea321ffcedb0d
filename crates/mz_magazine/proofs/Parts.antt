-- The live blocks of a row in three parts: those of the regions before one, its own, and those of the regions behind it.
use Rattle.std.proofs.Common.{◌≡◌, ℕ, ◌+◌, ◌%◌, ◌<◌, ◌≤◌, ◌⊎◌, List, [], ◌∷◌, ◌++◌, Bool, true, false, not, Option, Some, None, refl, ap, ◌∙◌, inl, inr, append-nil, arith}
use Rattle.std.specs.Prelude.{nat_le, ◌&&◌, ◌==◌, map, filter}
use Rattle.std.specs.List.{All, list_any}
use Rattle.std.proofs.lemmas.Bool.{and_parts, and_from, and_left, and_right, or_cases, or_left, or_right, or_from, le-leb, lt-leb, ne_eqb, not_from_false}
use Rattle.std.proofs.lemmas.List.{map-append}
use Rattle.std.proofs.lemmas.List.Elements.{All-nil, All-cons, All-weaker, All-append}
use Rattle.mz_base.specs.Space.{Block, block_at, block_end, blocks_apart, same_block, least_multiple}
use Rattle.mz_base.specs.Lists.{add_block, drop_block, has_block, size_at}
use Rattle.mz_base.specs.Room.{lies_within, starts_from, has_room_within_from, has_room_within, is_front_within}
use Rattle.mz_base.specs.IdleRuns.{IsIdle}
use Rattle.mz_region.specs.Views.{AreInRow}
use Rattle.mz_magazine.specs.Row.{blocks_within}
use Rattle.mz_magazine.proofs.Idle.{idle_from_test, test_from_idle, room_through, multiple_above}
use Rattle.mz_magazine.proofs.Lists.{insert_behind, insert_within, all_left, all_right, filter_all, filter_nothing, filter_parts, any_behind, any_within, any_left, any_right, any_weaker, find_behind, find_within, same_tests}

-- blocks that end at or before s, and blocks that begin at or behind e
abbrev pub EndsBefore : ℕ → Block → Type 0
EndsBefore s b = (0 < b.size) × (block_end b ≤ s)

abbrev pub BeginsBehind : ℕ → Block → Type 0
BeginsBehind e b = (0 < b.size) × (e ≤ b.first)

-- a block of a row of quanta
pub record InRow (Q s e : ℕ) (b : Block) : Type 0 where
  pub some : 0 < b.size
  pub low : s ≤ b.first
  pub high : block_end b ≤ e
  pub at : b.first % Q ≡ 0
  pub whole : b.size % Q ≡ 0

pub row_ends : (Q s e : ℕ) (L : List Block) → AreInRow Q s e L → s ≤ e
row_ends Q s e [] row = row
row_ends Q s e (b ∷ bs) row = let low = row.0 in let some = row.2 in let rest = row_ends Q (block_end b) e bs row.4 in omega arith

pub each_in_row : (Q s e : ℕ) (L : List Block) → AreInRow Q s e L → All (InRow Q s e) L
each_in_row Q s e [] row = All-nil (InRow Q s e)
each_in_row Q s e (b ∷ bs) row =
    let up = row_ends Q (block_end b) e bs row.4 in
    let low = row.0 in
    let some = row.2 in
    All-cons (InRow Q s e) b bs (record { some = row.2; low = row.0; high = up; at = row.1; whole = row.3 })
    (All-weaker (InRow Q (block_end b) e) (InRow Q s e) (λ c h. let above = h.low in record { some = h.some; low = omega arith; high = h.high; at = h.at; whole = h.whole }) bs (each_in_row Q (block_end b) e bs row.4))

-- what passes at a start passes at one, where there are more blocks
starts_more : (p q : ℕ → Bool) (s : ℕ) (xs ys zs : List Block) → ((x : ℕ) → p x ≡ true → q x ≡ true) → list_any p (starts_from s ys) ≡ true → list_any q (starts_from s (xs ++ (ys ++ zs))) ≡ true
starts_more p q s xs ys zs weaker h =
    elim (or_cases (p s) (list_any p (map block_end ys)) h) [
      | inl here ↦ or_left (q s) (list_any q (map block_end (xs ++ (ys ++ zs)))) (weaker s here)
      | inr later ↦
          let there : list_any q (map block_end ys) ≡ true = any_weaker p q (map block_end ys) weaker later in
          let more : list_any q (map block_end (xs ++ (ys ++ zs))) ≡ true =
          ap (λ l. list_any q l) (map-append block_end xs (ys ++ zs) ∙ ap (λ l. map block_end xs ++ l) (map-append block_end ys zs))
          ∙ any_right q (map block_end xs) (map block_end ys ++ map block_end zs) (any_left q (map block_end ys) (map block_end zs) there) in
          or_right (q s) (list_any q (map block_end (xs ++ (ys ++ zs)))) more
    ]

-- another address makes another block
other_first : (b c : Block) → (b.first ≡ c.first → ⊥) → same_block b c ≡ false
other_first b c other = and_left (b.first == c.first) (b.size == c.size) (ne_eqb b.first c.first other)

module _ (Q s e : ℕ) (xs ys zs : List Block) (low : All (EndsBefore s) xs) (high : All (BeginsBehind e) zs) (row : AreInRow Q s e ys) where
  -- what is idle in the region is so in the row
  pub idle_one : (x y : ℕ) → IsIdle s e (xs ++ (ys ++ zs)) x y → IsIdle s e ys x y
  idle_one x y h =
      let P : Block → Type 0 = λ c. (block_end c ≤ x) ⊎ (y ≤ c.first) in
      record { some = h.some; not_below = h.not_below; not_above = h.not_above; meets_none = all_left P ys zs (all_right P xs (ys ++ zs) h.meets_none) }

  pub idle_all : (x y : ℕ) → IsIdle s e ys x y → IsIdle s e (xs ++ (ys ++ zs)) x y
  idle_all x y h =
      let P : Block → Type 0 = λ c. (block_end c ≤ x) ⊎ (y ≤ c.first) in
      let from = h.not_below in
      let upto = h.not_above in
      record {
        some = h.some;
        not_below = h.not_below;
        not_above = h.not_above;
        meets_none = All-append P xs (ys ++ zs) (All-weaker (EndsBefore s) P (λ c k. let end = k.1 in inl (omega arith)) xs low)
            (All-append P ys zs h.meets_none (All-weaker (BeginsBehind e) P (λ c k. let first = k.1 in inr (omega arith)) zs high));
      }

  pub room_same : (n al : ℕ) → 1 ≤ n → 1 ≤ al → has_room_within s e (xs ++ (ys ++ zs)) n al ≡ has_room_within s e ys n al
  room_same n al some step =
      same_tests (has_room_within s e (xs ++ (ys ++ zs)) n al) (has_room_within s e ys n al)
      (room_through s e (xs ++ (ys ++ zs)) ys n al some step idle_one) (room_through s e ys (xs ++ (ys ++ zs)) n al some step idle_all)

  pub front_all : (b : Block) (al : ℕ) → 1 ≤ b.size → 1 ≤ al → is_front_within s e ys b al ≡ true → is_front_within s e (xs ++ (ys ++ zs)) b al ≡ true
  front_all b al some step h =
      starts_more (λ x. (least_multiple al x == b.first) && has_room_within_from s e ys b.size al x) (λ x. (least_multiple al x == b.first) && has_room_within_from s e (xs ++ (ys ++ zs)) b.size al x) s xs ys zs
      (λ x here.
      let parts = and_parts (least_multiple al x == b.first) (has_room_within_from s e ys b.size al x) here in
      let up = multiple_above al x step in
      and_from (least_multiple al x == b.first) (has_room_within_from s e (xs ++ (ys ++ zs)) b.size al x) parts.0
      (test_from_idle s e (xs ++ (ys ++ zs)) x (least_multiple al x + b.size) (idle_all x (least_multiple al x + b.size) (idle_from_test s e ys x (least_multiple al x + b.size) (omega arith) parts.1)))) h

  -- a block more, and one fewer, of the region
  pub add_same : (b : Block) → s ≤ b.first → b.first < e → add_block b (xs ++ (ys ++ zs)) ≡ xs ++ (add_block b ys ++ zs)
  add_same b above below =
      insert_behind (λ c. c.first) b xs (ys ++ zs) (All-weaker (EndsBefore s) (λ c. c.first ≤ b.first) (λ c k. let end = k.1 in omega arith) xs low)
      ∙ ap (λ l. xs ++ l) (insert_within (λ c. c.first) b ys zs (All-weaker (BeginsBehind e) (λ c. b.first < c.first) (λ c k. let first = k.1 in omega arith) zs high))

  pub drop_same : (b : Block) → s ≤ b.first → b.first < e → drop_block b (xs ++ (ys ++ zs)) ≡ xs ++ (drop_block b ys ++ zs)
  drop_same b above below =
      filter_parts (λ c. not (same_block b c)) xs ys zs xs (drop_block b ys) zs
      (filter_all (λ c. not (same_block b c)) xs (All-weaker (EndsBefore s) (λ c. not (same_block b c) ≡ true) (λ c k. let end = k.1 in let some = k.0 in not_from_false (same_block b c) (other_first b c (λ same. omega arith))) xs low))
      refl
      (filter_all (λ c. not (same_block b c)) zs (All-weaker (BeginsBehind e) (λ c. not (same_block b c) ≡ true) (λ c k. let first = k.1 in not_from_false (same_block b c) (other_first b c (λ same. omega arith))) zs high))

  pub has_same : (b : Block) → s ≤ b.first → b.first < e → has_block (xs ++ (ys ++ zs)) b ≡ has_block ys b
  has_same b above below =
      any_behind (same_block b) xs (ys ++ zs) (All-weaker (EndsBefore s) (λ c. same_block b c ≡ false) (λ c k. let end = k.1 in let some = k.0 in other_first b c (λ same. omega arith)) xs low)
      ∙ any_within (same_block b) ys zs (All-weaker (BeginsBehind e) (λ c. same_block b c ≡ false) (λ c k. let first = k.1 in other_first b c (λ same. omega arith)) zs high)

  pub size_same : (a : ℕ) → s ≤ a → a < e → size_at (xs ++ (ys ++ zs)) a ≡ size_at ys a
  size_same a above below =
      let read : Option Block → ℕ = λ o. elim o [ None ↦ 0 | Some b ↦ b.size ] in
      ap read (find_behind (λ b. b.first == a) xs (ys ++ zs) (All-weaker (EndsBefore s) (λ c. (c.first == a) ≡ false) (λ c k. let end = k.1 in let some = k.0 in ne_eqb c.first a (λ same. omega arith)) xs low)
      ∙ find_within (λ b. b.first == a) ys zs (All-weaker (BeginsBehind e) (λ c. (c.first == a) ≡ false) (λ c k. let first = k.1 in ne_eqb c.first a (λ same. omega arith)) zs high))

  -- the region's blocks, and the others
  pub its_blocks : blocks_within s e (xs ++ (ys ++ zs)) ≡ ys
  its_blocks =
      let p : Block → Bool = λ b. lies_within s e b.first (block_end b) in
      filter_parts p xs ys zs [] ys []
      (filter_nothing p xs (All-weaker (EndsBefore s) (λ c. p c ≡ false) (λ c k. let end = k.1 in let some = k.0 in and_left (nat_le s c.first) (nat_le (block_end c) e) (lt-leb s c.first (omega arith))) xs low))
      (filter_all p ys (All-weaker (InRow Q s e) (λ c. p c ≡ true) (λ c k. and_from (nat_le s c.first) (nat_le (block_end c) e) (le-leb s c.first k.low) (le-leb (block_end c) e k.high)) ys (each_in_row Q s e ys row)))
      (filter_nothing p zs (All-weaker (BeginsBehind e) (λ c. p c ≡ false) (λ c k. let first = k.1 in let some = k.0 in and_right (nat_le s c.first) (nat_le (block_end c) e) (lt-leb (block_end c) e (omega arith))) zs high))
      ∙ append-nil ys

  pub other_blocks : (len : ℕ) → s + len ≡ e → filter (λ b. blocks_apart b (block_at s len)) (xs ++ (ys ++ zs)) ≡ xs ++ zs
  other_blocks len is =
      let p : Block → Bool = λ b. blocks_apart b (block_at s len) in
      filter_parts p xs ys zs xs [] zs
      (filter_all p xs (All-weaker (EndsBefore s) (λ c. p c ≡ true) (λ c k. or_left (nat_le (block_end c) s) (nat_le (s + len) c.first) (le-leb (block_end c) s k.1)) xs low))
      (filter_nothing p ys (All-weaker (InRow Q s e) (λ c. p c ≡ false) (λ c k. let some = k.some in let from = k.low in let upto = k.high in or_from (nat_le (block_end c) s) (nat_le (s + len) c.first) (lt-leb (block_end c) s (omega arith)) (lt-leb (s + len) c.first (omega arith))) ys (each_in_row Q s e ys row)))
      (filter_all p zs (All-weaker (BeginsBehind e) (λ c. p c ≡ true) (λ c k. let first = k.1 in or_right (nat_le (block_end c) s) (nat_le (s + len) c.first) (le-leb (s + len) c.first (omega arith))) zs high))
