-- Idle bytes, as a test and in words, and room, which is idle bytes at a multiple.
use Rattle.std.proofs.Common.{◌≡◌, ℕ, ◌+◌, ◌-◌, ◌*◌, ◌/◌, ◌%◌, ◌<◌, ◌≤◌, ◌⊎◌, List, [], ◌∷◌, Bool, true, false, refl, sym, ap, ◌∙◌, inl, inr, arith}
use Rattle.std.specs.Prelude.{nat_le, map, ◌&&◌, ◌==◌}
use Rattle.std.specs.List.{All, list_any, list_all}
use Rattle.std.proofs.Math.Nat.{mul-le-mul_right, mul-mod_left}
use Rattle.std.proofs.lemmas.Nat.{div-add-mod'}
use Rattle.std.proofs.lemmas.Bool.{and_parts, and_from, or_cases, or_left, or_right, leb-true, le-leb, eqb-true, cases_lt, false≢true}
use Rattle.std.proofs.lemmas.List.Elements.{All-nil, All-cons, All-head, All-tail, All-weaker}
use Rattle.mz_base.specs.Space.{Block, block_at, block_end, blocks_apart, least_multiple}
use Rattle.mz_base.specs.Room.{lies_within, is_idle, starts_from, has_room_within_from, has_room_within, is_front_within}
use Rattle.mz_base.specs.IdleRuns.{MeetsNone, IsIdle}

-- one of those that all have a property passes
pub among : {A : Type 0} (P : A → Type 0) (p : A → Bool) (xs : List A) → All P xs → list_any p xs ≡ true → (x : A) × P x × (p x ≡ true)
among P p [] each h = absurd (false≢true h)
among P p (x ∷ xs) each h =
    elim (or_cases (p x) (list_any p xs) h) [
      | inl here ↦ (x, All-head P x xs each, here)
      | inr later ↦ among P p xs (All-tail P x xs each) later
    ]

-- tests that agree on each find the same
pub any_agree : {A : Type 0} (p q : A → Bool) (xs : List A) → All (λ x. p x ≡ q x) xs → list_any p xs ≡ list_any q xs
any_agree p q [] h = refl
any_agree {A} p q (x ∷ xs) h =
    let P : A → Type 0 = λ y. p y ≡ q y in
    let here : p x ≡ q x = All-head P x xs h in
    let later : list_any p xs ≡ list_any q xs = any_agree p q xs (All-tail P x xs h) in
    cc

-- the test that no block is met, in words
pub meets_from_test : (L : List Block) (x y : ℕ) → x ≤ y → list_all (λ c. blocks_apart c (block_at x (y - x))) L ≡ true → MeetsNone L x y
meets_from_test [] x y up h = All-nil (λ b. (block_end b ≤ x) ⊎ (y ≤ b.first))
meets_from_test (c ∷ cs) x y up h =
    let parts = and_parts (blocks_apart c (block_at x (y - x))) (list_all (λ d. blocks_apart d (block_at x (y - x))) cs) h in
    All-cons (λ b. (block_end b ≤ x) ⊎ (y ≤ b.first)) c cs (elim (or_cases (nat_le (block_end c) x) (nat_le (x + (y - x)) c.first) parts.0) [
      | inl low ↦ inl (leb-true (block_end c) x low)
      | inr high ↦ let k = leb-true (x + (y - x)) c.first high in inr (omega arith)
    ]) (meets_from_test cs x y up parts.1)

pub test_from_meets : (L : List Block) (x y : ℕ) → x ≤ y → MeetsNone L x y → list_all (λ c. blocks_apart c (block_at x (y - x))) L ≡ true
test_from_meets [] x y up h = refl
test_from_meets (c ∷ cs) x y up h =
    and_from (blocks_apart c (block_at x (y - x))) (list_all (λ d. blocks_apart d (block_at x (y - x))) cs) (elim (All-head (λ b. (block_end b ≤ x) ⊎ (y ≤ b.first)) c cs h) [
      | inl low ↦ or_left (nat_le (block_end c) x) (nat_le (x + (y - x)) c.first) (le-leb (block_end c) x low)
      | inr high ↦ or_right (nat_le (block_end c) x) (nat_le (x + (y - x)) c.first) (le-leb (x + (y - x)) c.first (omega arith))
    ]) (test_from_meets cs x y up (All-tail (λ b. (block_end b ≤ x) ⊎ (y ≤ b.first)) c cs h))

-- what meets no block in more bytes meets none in fewer
pub meets_less : (L : List Block) (v x y z : ℕ) → v ≤ x → y ≤ z → MeetsNone L v z → MeetsNone L x y
meets_less L v x y z low high h =
    All-weaker (λ b. (block_end b ≤ v) ⊎ (z ≤ b.first)) (λ b. (block_end b ≤ x) ⊎ (y ≤ b.first))
    (λ b away. elim away [ inl before ↦ inl (omega arith) | inr behind ↦ inr (omega arith) ]) L h

pub idle_from_test : (s e : ℕ) (L : List Block) (x y : ℕ) → x < y → is_idle s e L x y ≡ true → IsIdle s e L x y
idle_from_test s e L x y up h =
    let parts = and_parts (lies_within s e x y) (list_all (λ c. blocks_apart c (block_at x (y - x))) L) h in
    let within = and_parts (nat_le s x) (nat_le y e) parts.0 in
    record { some = up; not_below = leb-true s x within.0; not_above = leb-true y e within.1; meets_none = meets_from_test L x y (omega arith) parts.1 }

pub test_from_idle : (s e : ℕ) (L : List Block) (x y : ℕ) → IsIdle s e L x y → is_idle s e L x y ≡ true
test_from_idle s e L x y h =
    let up = h.some in
    and_from (lies_within s e x y) (list_all (λ c. blocks_apart c (block_at x (y - x))) L)
    (and_from (nat_le s x) (nat_le y e) (le-leb s x h.not_below) (le-leb y e h.not_above)) (test_from_meets L x y (omega arith) h.meets_none)

-- the least multiple of al at or above x
pub multiple_above : (al x : ℕ) → 1 ≤ al → x ≤ least_multiple al x
multiple_above al x some = omega (arith, div-add-mod' (x + al - 1) al)

pub multiple_below : (al x a : ℕ) → 1 ≤ al → a % al ≡ 0 → x ≤ a → least_multiple al x ≤ a
multiple_below al x a some whole up =
    let parts = div-add-mod' (x + al - 1) al in
    let all = div-add-mod' a al in
    elim (cases_lt (a / al) ((x + al - 1) / al)) [
      | inl less ↦ let step : (a / al + 1) * al ≤ (x + al - 1) / al * al = mul-le-mul_right al (omega arith) in absurd (omega (arith, parts, all))
      | inr no_less ↦ let step : (x + al - 1) / al * al ≤ a / al * al = mul-le-mul_right al no_less in omega (arith, all)
    ]

-- a multiple is its own
pub multiple_same : (al x : ℕ) → 1 ≤ al → x % al ≡ 0 → least_multiple al x ≡ x
multiple_same al x some whole = let low = multiple_above al x some in let high = multiple_below al x x some whole (omega arith) in omega arith

-- Room is idle bytes from a start to the end of a block at its front.
pub room_is_idle : (P : ℕ → Type 0) (s e : ℕ) (L : List Block) (n al : ℕ) → 1 ≤ n → 1 ≤ al → All P (starts_from s L) → has_room_within s e L n al ≡ true → (x : ℕ) × P x × IsIdle s e L x (least_multiple al x + n)
room_is_idle P s e L n al some step each h =
    let found = among P (has_room_within_from s e L n al) (starts_from s L) each h in
    let up = multiple_above al found.0 step in
    (found.0, found.1, idle_from_test s e L found.0 (least_multiple al found.0 + n) (omega arith) found.2)

-- where the bytes from a to y are idle, some start before them begins as idle a stretch
record Start (s a y : ℕ) (L : List Block) : Type 0 where
  pub at : ℕ
  pub low : s ≤ at
  pub high : at ≤ a
  pub meets : MeetsNone L at y
  pub one : (p : ℕ → Bool) → p at ≡ true → list_any p (starts_from s L) ≡ true

start_before : (s a y : ℕ) (L : List Block) → s ≤ a → MeetsNone L a y → Start s a y L
start_before s a y [] low h = record { at = s; low = omega arith; high = low; meets = All-nil (λ c. (block_end c ≤ s) ⊎ (y ≤ c.first)); one = λ p here. or_left (p s) false here }
start_before s a y (b ∷ bs) low h =
    let rest = start_before s a y bs low (All-tail (λ c. (block_end c ≤ a) ⊎ (y ≤ c.first)) b bs h) in
    let under = rest.low in
    let over = rest.high in
    let again : (p : ℕ → Bool) → p rest.at ≡ true → list_any p (starts_from s (b ∷ bs)) ≡ true = λ p here.
    elim (or_cases (p s) (list_any p (map block_end bs)) (rest.one p here)) [
      | inl first ↦ or_left (p s) (list_any p (map block_end (b ∷ bs))) first
      | inr later ↦ or_right (p s) (list_any p (map block_end (b ∷ bs))) (or_right (p (block_end b)) (list_any p (map block_end bs)) later)
    ] in
    elim (All-head (λ c. (block_end c ≤ a) ⊎ (y ≤ c.first)) b bs h) [
      | inr behind ↦ record {
        at = rest.at;
        low = under;
        high = over;
        meets = All-cons (λ c. (block_end c ≤ rest.at) ⊎ (y ≤ c.first)) b bs (inr behind) rest.meets;
        one = again;
      }
      | inl ends ↦ elim (cases_lt rest.at (block_end b)) [
        | inl later ↦ record {
          at = block_end b;
          low = omega arith;
          high = ends;
          meets = All-cons (λ c. (block_end c ≤ block_end b) ⊎ (y ≤ c.first)) b bs (inl (omega arith)) (meets_less bs rest.at (block_end b) y y (omega arith) (omega arith) rest.meets);
          one = λ p here. or_right (p s) (list_any p (map block_end (b ∷ bs))) (or_left (p (block_end b)) (list_any p (map block_end bs)) here);
        }
        | inr earlier ↦ record {
          at = rest.at;
          low = under;
          high = over;
          meets = All-cons (λ c. (block_end c ≤ rest.at) ⊎ (y ≤ c.first)) b bs (inl earlier) rest.meets;
          one = again;
        }
      ]
    ]

-- Idle bytes at a multiple are in an idle run with room.
pub idle_is_room : (s e : ℕ) (L : List Block) (n al a : ℕ) → 1 ≤ n → 1 ≤ al → a % al ≡ 0 → IsIdle s e L a (a + n) → has_room_within s e L n al ≡ true
idle_is_room s e L n al a some step whole h =
    let start = start_before s a (a + n) L h.not_below h.meets_none in
    let over = start.high in
    let front = multiple_below al start.at a step whole over in
    let above = multiple_above al start.at step in
    let end = h.not_above in
    start.one (has_room_within_from s e L n al) (test_from_idle s e L start.at (least_multiple al start.at + n) (record {
      some = omega arith;
      not_below = start.low;
      not_above = omega arith;
      meets_none = meets_less L start.at start.at (least_multiple al start.at + n) (a + n) (omega arith) (omega arith) start.meets;
    }))

-- where what is idle among these blocks is so among those, room there is
pub room_through : (s e : ℕ) (A B : List Block) (n al : ℕ) → 1 ≤ n → 1 ≤ al → ((x y : ℕ) → IsIdle s e A x y → IsIdle s e B x y) → has_room_within s e A n al ≡ true → has_room_within s e B n al ≡ true
room_through s e A B n al some step through h =
    let found = room_is_idle (λ x. x ≡ x) s e A n al some step (λ k d _. refl) h in
    let up = multiple_above al found.0 step in
    let there = through found.0 (least_multiple al found.0 + n) found.2 in
    let low = there.not_below in
    idle_is_room s e B n al (least_multiple al found.0) some step (mul-mod_left ((found.0 + al - 1) / al) al) (record {
      some = omega arith;
      not_below = omega arith;
      not_above = there.not_above;
      meets_none = meets_less B found.0 (least_multiple al found.0) (least_multiple al found.0 + n) (least_multiple al found.0 + n) up (omega arith) there.meets_none;
    })

-- the block at a front is idle
pub front_is_idle : (s e : ℕ) (L : List Block) (b : Block) (al : ℕ) → 1 ≤ b.size → 1 ≤ al → is_front_within s e L b al ≡ true → IsIdle s e L b.first (block_end b) × (b.first % al ≡ 0)
front_is_idle s e L b al some step h =
    let found = among (λ x. x ≡ x) (λ x. (least_multiple al x == b.first) && has_room_within_from s e L b.size al x) (starts_from s L) (λ k d _. refl) h in
    let parts = and_parts (least_multiple al found.0 == b.first) (has_room_within_from s e L b.size al found.0) found.2 in
    let at = eqb-true (least_multiple al found.0) b.first parts.0 in
    let up = multiple_above al found.0 step in
    let idle = idle_from_test s e L found.0 (least_multiple al found.0 + b.size) (omega arith) parts.1 in
    let low = idle.not_below in
    let high = idle.not_above in (
      record {
        some = omega arith;
        not_below = omega arith;
        not_above = omega arith;
        meets_none = meets_less L found.0 b.first (block_end b) (least_multiple al found.0 + b.size) (omega arith) (omega arith) idle.meets_none;
      },
      ap (λ n. n % al) (sym at) ∙ mul-mod_left ((found.0 + al - 1) / al) al,
    )
