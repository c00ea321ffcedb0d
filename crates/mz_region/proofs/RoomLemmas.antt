-- Fronts and room of idle runs, in quanta and in bytes.
use Rattle.std.proofs.Common.{◌≡◌, ℕ, ◌+◌, ◌-◌, ◌*◌, ◌/◌, ◌%◌, ◌<◌, ◌≤◌, ◌⊎◌, List, [], ◌∷◌, Bool, true, false, Option, Some, None, MatchOption, length, refl, sym, ap, ◌∙◌, subst, inl, inr, mul-add, arith}
use Rattle.std.specs.Prelude.{◌&&◌, ◌==◌, IsTrue, map, is_some}
use Rattle.std.specs.List.{All, HoldsAt, list_any}
use Rattle.std.proofs.Math.Nat.{mul-le-mul_left, mul-mod_left, add-mul-mod_self_left}
use Rattle.std.proofs.lemmas.Nat.{div-add-mod'}
use Rattle.std.proofs.lemmas.Bool.{and_parts, and_from, or_cases, or_left, or_right, eq-eqb, eqb-true, false≢true, false_from_ne_true}
use Rattle.std.proofs.lemmas.List.Elements.{All-nil, All-cons, All-head, All-tail, All-weaker}
use Rattle.mz_base.specs.Space.{Block, block_at, block_end, units_for, least_multiple}
use Rattle.mz_base.specs.Room.{is_idle, starts_from, has_room_within_from, has_room_within, is_front_within}
use Rattle.mz_ground.specs.Views.{GroundView}
use Rattle.mz_region.specs.Views.{RegionView}
use Rattle.mz_region.specs.Quanta.{blocks_of}
use Rattle.mz_region.specs.Search.{front_from, IsRoomAt, IsFrontAt}
use Rattle.mz_region.specs.Held.{IsHeld}
use Rattle.mz_region.proofs.Runs.{Are}
use Rattle.mz_region.proofs.Blocks.{Miss, covered, idle_apart, rest_none}
use Rattle.mz_region.proofs.Rows.{row_each}
use Rattle.mz_region.proofs.Fronts.{multiple_is, front_above}
use Rattle.mz_region.proofs.Kept.{viewed, some_bytes, region_is, test_from_bits, bits_from_test, quantum_of, quantum_aligned}

-- the least multiple of so many quanta, in bytes
multiple_of_quanta : (Q s m : ℕ) → 0 < Q → 0 < s → least_multiple (Q * s) (Q * m) ≡ Q * least_multiple s m
multiple_of_quanta Q s m some step =
    let k = units_for s m in
    let above : m ≤ units_for s m * s = omega (arith, div-add-mod' (m + s - 1) s) in
    let below : units_for s m * s + 1 ≤ m + s = omega (arith, div-add-mod' (m + s - 1) s) in
    let low : Q * m ≤ Q * (units_for s m * s) = mul-le-mul_left Q above in
    let high : Q * (units_for s m * s + 1) ≤ Q * (m + s) = mul-le-mul_left Q below in
    let one : Q * (units_for s m * s + 1) ≡ Q * (units_for s m * s) + Q * 1 = mul-add Q (units_for s m * s) 1 in
    let all : Q * (m + s) ≡ Q * m + Q * s = mul-add Q m s in
    let order : Q * (units_for s m * s) ≡ units_for s m * (Q * s) = omega arith in
    let least : 1 ≤ Q * s = let l : Q * 1 ≤ Q * s = mul-le-mul_left Q step in omega arith in
    sym (multiple_is (Q * m) (Q * s) (Q * (units_for s m * s)) least (ap (λ n. n % (Q * s)) order ∙ mul-mod_left (units_for s m) (Q * s)) low (omega arith))

-- the front behind a quantum, in bytes
front_bytes : (Q base step a j x : ℕ) → 0 < Q → 0 < step → a ≡ Q * base → x ≡ a + Q * j → least_multiple (Q * step) x ≡ a + Q * front_from base step j
front_bytes Q base step a j x some filled at here =
    let place : x ≡ Q * (base + j) = let parts : Q * (base + j) ≡ Q * base + Q * j = mul-add Q base j in omega arith in
    let above : base + j ≤ least_multiple step (base + j) = omega (arith, div-add-mod' (base + j + step - 1) step) in
    let whole : least_multiple step (base + j) ≡ base + front_from base step j = omega arith in
    let parts : Q * (base + front_from base step j) ≡ Q * base + Q * front_from base step j = mul-add Q base (front_from base step j) in
    ap (least_multiple (Q * step)) place ∙ multiple_of_quanta Q step (base + j) some filled ∙ ap (λ n. Q * n) whole ∙ omega arith

-- what passes at one of the starts
any_at : (p : ℕ → Bool) (xs : List ℕ) (x : ℕ) → list_any (λ s. s == x) xs ≡ true → p x ≡ true → list_any p xs ≡ true
any_at p [] x among h = absurd (false≢true among)
any_at p (s ∷ xs) x among h =
    elim (or_cases (s == x) (list_any (λ t. t == x) xs) among) [
      | inl here ↦ or_left (p s) (list_any p xs) (subst (λ t. p t ≡ true) (sym (eqb-true s x here)) h)
      | inr later ↦ or_right (p s) (list_any p xs) (any_at p xs x later h)
    ]

among_ends : (P : Block → Type 0) (p : ℕ → Bool) (L : List Block) → All P L → list_any p (map block_end L) ≡ true → (c : Block) × P c × (p (block_end c) ≡ true)
among_ends P p [] each h = absurd (false≢true h)
among_ends P p (c ∷ cs) each h =
    elim (or_cases (p (block_end c)) (list_any p (map block_end cs)) h) [
      | inl here ↦ (c, All-head P c cs each, here)
      | inr later ↦ among_ends P p cs (All-tail P c cs each) later
    ]

-- each of these blocks is one of them
abbrev IsEnd : List Block → Block → Type 0
IsEnd L b = list_any (λ s. s == block_end b) (map block_end L) ≡ true

all_ends : (L : List Block) → All (IsEnd L) L
all_ends [] = All-nil (IsEnd [])
all_ends (c ∷ cs) =
    All-cons (IsEnd (c ∷ cs)) c cs (or_left (block_end c == block_end c) (list_any (λ s. s == block_end c) (map block_end cs)) (eq-eqb (block_end c) (block_end c) refl))
    (All-weaker (IsEnd cs) (IsEnd (c ∷ cs)) (λ b h. or_right (block_end c == block_end b) (list_any (λ s. s == block_end b) (map block_end cs)) h) cs (all_ends cs))

module _ (Q N a : ℕ) (bs us : List Bool) (g : GroundView) (sum count : ℕ) (held : IsHeld Q N a bs us g sum count) (base step n : ℕ) (at : a ≡ Q * base) (filled : 0 < step) (some : 1 ≤ n) where
  abbrev L : List Block
  L = blocks_of Q a bs us

  bytes : 0 < Q
  bytes = some_bytes Q N a bs us g sum count held

  both : {P R : Type 0} → P → R → P × R
  both p r = (p, r)

  -- an idle run begins at the region's first byte or behind a block
  is_start : (j x : ℕ) → x ≡ a + Q * j → (j ≡ 0) ⊎ ((1 ≤ j) × HoldsAt (λ u. u ≡ true) us (j - 1)) → j < length us → Are false us j (j + 1) → list_any (λ s. s == x) (starts_from a L) ≡ true
  is_start j x here (inl none) within idle = let none' : Q * j ≡ 0 = ap (λ k. Q * k) none ∙ omega arith in or_left (a == x) (list_any (λ s. s == x) (map block_end L)) (eq-eqb a x (omega arith))
  is_start j x here (inr before) within idle =
      let least = before.0 in
      let filled_q = bytes in
      let parts : Q * (j - 1 + 1) ≡ Q * (j - 1) + Q * 1 = mul-add Q (j - 1) 1 in
      let whole : Q * (j - 1 + 1) ≡ Q * j = ap (λ k. Q * k) (omega arith) in
      let apart : All (Miss x (x + Q * 1)) L = idle_apart Q a false bs us j 1 x (x + Q * 1) here refl (omega arith) (omega arith) held.bits idle in
      let each : All (λ b. IsEnd L b × Miss x (x + Q * 1) b) L = λ k d low. both (all_ends L k d low) (apart k d low) in
      elim (covered Q a false bs us (j - 1) bytes held.bits (omega arith) (before.1 false) (λ b. IsEnd L b × Miss x (x + Q * 1) b) each) [
        | inl more ↦ let none = rest_none bs us held.bits in absurd (omega arith)
        | inr found ↦
            let b = found.0 in
            let low = found.2 in
            let high = found.3 in
            let end : block_end found.0 ≡ x = elim found.1.1 [ inl upto ↦ omega arith | inr behind ↦ absurd (omega arith) ] in
            or_right (a == x) (list_any (λ s. s == x) (map block_end L)) (subst (λ y. list_any (λ s. s == y) (map block_end L) ≡ true) end found.1.0)
      ]

  -- the bytes from a quantum to the end of a block at its front
  stretch : (j x : ℕ) → x ≡ a + Q * j → least_multiple (Q * step) x + Q * n ≡ x + Q * (front_from base step j - j + n)
  stretch j x here =
      let up = front_above base step j filled in
      let front = front_bytes Q base step a j x bytes filled at here in
      let same : front_from base step j + n ≡ j + (front_from base step j - j + n) = omega arith in
      let whole : Q * (front_from base step j + n) ≡ Q * (j + (front_from base step j - j + n)) = ap (λ k. Q * k) same in
      let left : Q * (front_from base step j + n) ≡ Q * front_from base step j + Q * n = mul-add Q (front_from base step j) n in
      let right : Q * (j + (front_from base step j - j + n)) ≡ Q * j + Q * (front_from base step j - j + n) = mul-add Q j (front_from base step j - j + n) in
      omega arith

  -- room in quanta is room in bytes
  room_test : (j x : ℕ) → x ≡ a + Q * j → IsRoomAt us base step n j → has_room_within_from a (a + Q * N) L (Q * n) (Q * step) x ≡ true
  room_test j x here room =
      let up = front_above base step j filled in
      let within = room.within in
      let long = held.quanta in
      subst (λ y. is_idle a (a + Q * N) L x y ≡ true) (sym (stretch j x here))
      (test_from_bits Q N a bs us g sum count held j (front_from base step j - j + n) x here (omega arith) (omega arith) (λ k d low high. room.idle k d low (omega arith)))

  room_bits : (j x : ℕ) → x ≡ a + Q * j → has_room_within_from a (a + Q * N) L (Q * n) (Q * step) x ≡ true → IsRoomAt us base step n j
  room_bits j x here test =
      let up = front_above base step j filled in
      let long = held.quanta in
      let bits = bits_from_test Q N a bs us g sum count held j (front_from base step j - j + n) x here (subst (λ y. is_idle a (a + Q * N) L x y ≡ true) (stretch j x here) test) in
      let within = bits.0 in
      record { within = omega arith; idle = λ k d low high. bits.1 k d low (omega arith) }

  pub front_test : (q : ℕ) → IsFrontAt us base step n q → is_front_within a (a + Q * N) L (block_at (a + Q * q) (Q * n)) (Q * step) ≡ true
  front_test q front =
      let j = front.start in
      let up = front_above base step front.start filled in
      let within = front.room.within in
      let is = front.front in
      let x = a + Q * front.start in
      let place : least_multiple (Q * step) (a + Q * front.start) ≡ a + Q * q = front_bytes Q base step a front.start (a + Q * front.start) bytes filled at refl ∙ ap (λ k. a + Q * k) (sym is) in
      any_at (λ y. (least_multiple (Q * step) y == (a + Q * q)) && has_room_within_from a (a + Q * N) L (Q * n) (Q * step) y) (starts_from a L) (a + Q * front.start)
      (is_start front.start (a + Q * front.start) refl front.begins (omega arith) (λ k d low high. front.room.idle k d low (omega arith)))
      (and_from (least_multiple (Q * step) (a + Q * front.start) == (a + Q * q)) (has_room_within_from a (a + Q * N) L (Q * n) (Q * step) (a + Q * front.start))
      (eq-eqb (least_multiple (Q * step) (a + Q * front.start)) (a + Q * q) place) (room_test front.start (a + Q * front.start) refl front.room))

  pub idle_test : (q : ℕ) → IsFrontAt us base step n q → is_idle a (a + Q * N) L (a + Q * q) (a + Q * q + Q * n) ≡ true
  idle_test q front =
      let up = front_above base step front.start filled in
      let within = front.room.within in
      let is = front.front in
      let long = held.quanta in
      test_from_bits Q N a bs us g sum count held q n (a + Q * q) refl some (omega arith) (λ k d low high. front.room.idle k d (omega arith) (omega arith))

  pub no_room : ((i : ℕ) → IsRoomAt us base step n i → ⊥) → has_room_within a (a + Q * N) L (Q * n) (Q * step) ≡ true → ⊥
  no_room none h =
      elim (or_cases (has_room_within_from a (a + Q * N) L (Q * n) (Q * step) a) (list_any (has_room_within_from a (a + Q * N) L (Q * n) (Q * step)) (map block_end L)) h) [
        | inl here ↦ none 0 (room_bits 0 a (omega arith) here)
        | inr later ↦
            let aligned = quantum_aligned Q N a held.at in
            let found = among_ends (λ c. (a ≤ c.first) × (c.first % Q ≡ 0) × (c.size % Q ≡ 0) × (0 < c.size)) (has_room_within_from a (a + Q * N) L (Q * n) (Q * step)) L
            (row_each Q a (a + Q * N) L (region_is Q N a bs us g sum count held).row) later in
            let low = found.1.0 in
            let whole = whole_end Q found.0 found.1.1 found.1.2 in
            none ((block_end found.0 - a) / Q) (room_bits ((block_end found.0 - a) / Q) (block_end found.0) (quantum_of Q a (block_end found.0) held.power aligned whole (omega arith)) found.2)
      ]
    where
      whole_end : (m : ℕ) (c : Block) → c.first % m ≡ 0 → c.size % m ≡ 0 → block_end c % m ≡ 0
      whole_end m c first size =
          let parts : c.size ≡ m * (c.size / m) = omega (arith, div-add-mod' c.size m) in
          ap (λ k. (c.first + k) % m) parts ∙ add-mul-mod_self_left c.first m (c.size / m) ∙ first

-- all that a search says, at a region as contracts see it
pub front_of_view : (Q N a : ℕ) (bs us : List Bool) (g : GroundView) (sum count : ℕ) (held : IsHeld Q N a bs us g sum count) (old : RegionView) (base step al n : ℕ) → viewed g.space a (blocks_of Q a bs us) ≡ old → a ≡ Q * base → 1 ≤ step → 1 ≤ n → al ≡ Q * step
    → (r : Option ℕ) → MatchOption r ((i : ℕ) → IsRoomAt us base step n i → ⊥) (IsFrontAt us base step n)
    → MatchOption r (IsTrue (has_room_within old.first (old.first + Q * N) old.live (Q * n) al) → ⊥)
    (λ q. IsTrue (is_front_within old.first (old.first + Q * N) old.live (block_at (old.first + Q * q) (Q * n)) al)
    × IsTrue (is_idle old.first (old.first + Q * N) old.live (old.first + Q * q) (old.first + Q * q + Q * n)))
front_of_view Q N a bs us g sum count held old base step al n e at filled some whole None said =
    λ h. no_room Q N a bs us g sum count held base step n at filled some said
    (ap (λ (v : RegionView). has_room_within v.first (v.first + Q * N) v.live (Q * n) (Q * step)) e ∙ ap (has_room_within old.first (old.first + Q * N) old.live (Q * n)) (sym whole) ∙ h)
front_of_view Q N a bs us g sum count held old base step al n e at filled some whole (Some q) said = (
  ap (is_front_within old.first (old.first + Q * N) old.live (block_at (old.first + Q * q) (Q * n))) whole
      ∙ ap (λ (v : RegionView). is_front_within v.first (v.first + Q * N) v.live (block_at (v.first + Q * q) (Q * n)) (Q * step)) (sym e) ∙ front_test Q N a bs us g sum count held base step n at filled some q said,
  ap (λ (v : RegionView). is_idle v.first (v.first + Q * N) v.live (v.first + Q * q) (v.first + Q * q + Q * n)) (sym e) ∙ idle_test Q N a bs us g sum count held base step n at filled some q said,
)

-- where a block is at a front, there is room for it
some_front_has_room : (start end : ℕ) (L : List Block) (b : Block) (al : ℕ) (xs : List ℕ) → list_any (λ x. (least_multiple al x == b.first) && has_room_within_from start end L b.size al x) xs ≡ true → list_any (has_room_within_from start end L b.size al) xs ≡ true
some_front_has_room start end L b al [] h = absurd (false≢true h)
some_front_has_room start end L b al (x ∷ xs) h =
    elim (or_cases ((least_multiple al x == b.first) && has_room_within_from start end L b.size al x) (list_any (λ y. (least_multiple al y == b.first) && has_room_within_from start end L b.size al y) xs) h) [
      | inl here ↦ or_left (has_room_within_from start end L b.size al x) (list_any (has_room_within_from start end L b.size al) xs) (and_parts (least_multiple al x == b.first) (has_room_within_from start end L b.size al x) here).1
      | inr later ↦ or_right (has_room_within_from start end L b.size al x) (list_any (has_room_within_from start end L b.size al) xs) (some_front_has_room start end L b al xs later)
    ]

pub front_has_room : (start end : ℕ) (L : List Block) (b : Block) (al : ℕ) → is_front_within start end L b al ≡ true → has_room_within start end L b.size al ≡ true
front_has_room start end L b al h = some_front_has_room start end L b al (starts_from start L) h

-- whether a search finds something is whether there is room
pub found_is_room : (Q N al n : ℕ) (old : RegionView) (r : Option ℕ) → MatchOption r (IsTrue (has_room_within old.first (old.first + Q * N) old.live (Q * n) al) → ⊥)
    (λ q. IsTrue (is_front_within old.first (old.first + Q * N) old.live (block_at (old.first + Q * q) (Q * n)) al)
    × IsTrue (is_idle old.first (old.first + Q * N) old.live (old.first + Q * q) (old.first + Q * q + Q * n)))
    → has_room_within old.first (old.first + Q * N) old.live (Q * n) al ≡ is_some r
found_is_room Q N al n old None said = false_from_ne_true (has_room_within old.first (old.first + Q * N) old.live (Q * n) al) said
found_is_room Q N al n old (Some q) said = front_has_room old.first (old.first + Q * N) old.live (block_at (old.first + Q * q) (Q * n)) al said.0
