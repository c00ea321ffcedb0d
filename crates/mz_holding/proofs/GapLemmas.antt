-- Tests over a list of blocks are tests of a gap.
use Rattle.std.proofs.Common.{◌≡◌, ℕ, ◌+◌, ◌-◌, ◌*◌, ◌<◌, ◌≤◌, ◌⊎◌, Bool, true, false, List, [], ◌∷◌, refl, sym, subst, ap, ◌∙◌, inl, inr, arith}
use Rattle.std.specs.Prelude.{◌&&◌, ◌==◌, nat_le, map, max, min}
use Rattle.std.specs.List.{All, list_any, list_all}
use Rattle.std.proofs.lemmas.Bool.{and_parts, and_from, or_cases, or_left, or_right, cases_lt, false≢true, leb-true, le-leb, eqb-true, eq-eqb}
use Rattle.std.proofs.lemmas.List.Elements.{All-nil, All-cons, All-head, All-tail}
use Rattle.std.proofs.Math.Nat.{mod-lt}
use Rattle.std.proofs.lemmas.Nat.{div-add-mod'}
use Rattle.mz_base.specs.declared.range.TheConstants.{PAGE}
use Rattle.mz_base.specs.Space.{Block, Run, block_at, run_at, block_end, run_end, blocks_apart, least_multiple, same_block, same_run}
use Rattle.mz_base.specs.Lists.{has_block}
use Rattle.mz_base.specs.Room.{lies_in, has_room_from, is_front_of}
use Rattle.mz_holding.specs.Gaps.{IsGap}

-- each block has a byte at least
abbrev pub HaveBytes : List Block → Type 0
HaveBytes live = All (λ c. 1 ≤ c.size) live

-- the test of a front, by a gap
abbrev pub front_in_gap : Run → ℕ → ℕ → Block → ℕ → Bool
front_in_gap r low high b al =
    let x = max (r.first * PAGE) low in
    (least_multiple al x == b.first) && lies_in r x (block_end b) && nat_le (block_end b) high

-- the least multiple lies at or above the address
pub multiple-above : (al x : ℕ) → 1 ≤ al → x ≤ least_multiple al x
multiple-above al x whole =
    let split = div-add-mod' (x + al - 1) al in
    let less = mod-lt (x + al - 1) whole in
    omega arith

-- the same block is equal
pub same_is : (b c : Block) → same_block b c ≡ true → b ≡ c
same_is b c h =
    let parts = and_parts (b.first == c.first) (b.size == c.size) h in
    let f : b.first ≡ c.first = eqb-true b.first c.first parts.0 in
    let s : b.size ≡ c.size = eqb-true b.size c.size parts.1 in
    ap (λ n. block_at n b.size) f ∙ ap (λ n. block_at c.first n) s

pub same_run_is : (r t : Run) → same_run r t ≡ true → r ≡ t
same_run_is r t h =
    let parts = and_parts (r.first == t.first) (r.pages == t.pages) h in
    let f : r.first ≡ t.first = eqb-true r.first t.first parts.0 in
    let s : r.pages ≡ t.pages = eqb-true r.pages t.pages parts.1 in
    ap (λ n. run_at n r.pages) f ∙ ap (λ n. run_at t.first n) s

pub same_self : (c : Block) → same_block c c ≡ true
same_self c = and_from (c.first == c.first) (c.size == c.size) (eq-eqb c.first c.first refl) (eq-eqb c.size c.size refl)

-- what holds of each block holds of one that is there
pub all_has : (P : Block → Type 0) (live : List Block) (b : Block) → All P live → has_block live b ≡ true → P b
all_has P [] b all h = absurd (false≢true h)
all_has P (c ∷ live) b all h = elim (or_cases (same_block b c) (has_block live b) h) [
  | inl here ↦ subst P (sym (same_is b c here)) (All-head P c live all)
  | inr later ↦ all_has P live b (All-tail P c live all) later
]

-- what holds of each that is there holds of all
pub all_from_has : (P : Block → Type 0) (live : List Block) → ((b : Block) → has_block live b ≡ true → P b) → All P live
all_from_has P [] f = All-nil P
all_from_has P (c ∷ live) f = All-cons P c live (f c (or_left (same_block c c) (has_block live c) (same_self c))) (all_from_has P live (λ b there. f b (or_right (same_block b c) (has_block live b) there)))

-- two tests with the same answers
pub bool_same : (x y : Bool) → (x ≡ true → y ≡ true) → (y ≡ true → x ≡ true) → x ≡ y
bool_same true y f g = sym (f refl)
bool_same false true f g = g refl
bool_same false false f g = refl

-- apart from each block, as numbers
pub apart_numbers : (live : List Block) (b : Block) → list_all (λ c. blocks_apart c b) live ≡ true → All (λ c. (block_end c ≤ b.first) ⊎ (block_end b ≤ c.first)) live
apart_numbers [] b h = All-nil (λ c. (block_end c ≤ b.first) ⊎ (block_end b ≤ c.first))
apart_numbers (c ∷ live) b h =
    let parts = and_parts (blocks_apart c b) (list_all (λ d. blocks_apart d b) live) h in
    All-cons (λ d. (block_end d ≤ b.first) ⊎ (block_end b ≤ d.first)) c live (elim (or_cases (nat_le (block_end c) b.first) (nat_le (block_end b) c.first) parts.0) [
      | inl low ↦ inl (leb-true (block_end c) b.first low)
      | inr high ↦ inr (leb-true (block_end b) c.first high)
    ]) (apart_numbers live b parts.1)

pub numbers_apart : (live : List Block) (b : Block) → All (λ c. (block_end c ≤ b.first) ⊎ (block_end b ≤ c.first)) live → list_all (λ c. blocks_apart c b) live ≡ true
numbers_apart [] b h = refl
numbers_apart (c ∷ live) b h =
    and_from (blocks_apart c b) (list_all (λ d. blocks_apart d b) live) (elim (All-head (λ d. (block_end d ≤ b.first) ⊎ (block_end b ≤ d.first)) c live h) [
      | inl low ↦ or_left (nat_le (block_end c) b.first) (nat_le (block_end b) c.first) (le-leb (block_end c) b.first low)
      | inr high ↦ or_right (nat_le (block_end c) b.first) (nat_le (block_end b) c.first) (le-leb (block_end b) c.first high)
    ]) (numbers_apart live b (All-tail (λ d. (block_end d ≤ b.first) ⊎ (block_end b ≤ d.first)) c live h))

weaker : (P Q : Block → Type 0) (live : List Block) → ((c : Block) → P c → Q c) → All P live → All Q live
weaker P Q [] f h = All-nil Q
weaker P Q (c ∷ live) f h = All-cons Q c live (f c (All-head P c live h)) (weaker P Q live f (All-tail P c live h))

-- a block that passes is there: so some end of a block passes
pub ends_pass : (p : ℕ → Bool) (live : List Block) → list_any p (map block_end live) ≡ true → (c : Block) × (has_block live c ≡ true) × (p (block_end c) ≡ true)
ends_pass p [] h = absurd (false≢true h)
ends_pass p (c ∷ live) h = elim (or_cases (p (block_end c)) (list_any p (map block_end live)) h) [
  | inl here ↦ (c, or_left (same_block c c) (has_block live c) (same_self c), here)
  | inr later ↦ let rest = ends_pass p live later in (rest.0, or_right (same_block rest.0 c) (has_block live rest.0) rest.1, rest.2)
]

pub pass_ends : (p : ℕ → Bool) (live : List Block) (c : Block) → has_block live c ≡ true → p (block_end c) ≡ true → list_any p (map block_end live) ≡ true
pass_ends p [] c h g = absurd (false≢true h)
pass_ends p (d ∷ live) c h g = elim (or_cases (same_block c d) (has_block live c) h) [
  | inl here ↦ or_left (p (block_end d)) (list_any p (map block_end live)) (subst (λ e. p (block_end e) ≡ true) (same_is c d here) g)
  | inr later ↦ or_right (p (block_end d)) (list_any p (map block_end live)) (pass_ends p live c later g)
]

abbrev pub Clear : List Block → ℕ → ℕ → Type 0
Clear live x y = All (λ c. (block_end c ≤ x) ⊎ (y ≤ c.first)) live

-- the numbers of a gap
pub record Bounds (live : List Block) (a low high : ℕ) (x y : ℕ) : Type 0 where
  pub up : low ≤ x
  pub down : y ≤ high

module _ (start end : ℕ) (live : List Block) (a low high : ℕ) (gap : IsGap start end live a low high) (bytes : HaveBytes live) where
  -- what is clear from x to y lies in the gap, where a is between them
  pub bounds_clear : (x y : ℕ) → start ≤ x → x ≤ a → a < y → y ≤ end → Clear live x y → Bounds live a low high x y
  bounds_clear x y from left right fits clear = record {
    up = elim gap.below [
      | inl none ↦ omega arith
      | inr at ↦ let is = at.3 in let less = at.2 in elim (all_has (λ c. (block_end c ≤ x) ⊎ (y ≤ c.first)) live at.0 clear at.1) [
        | inl before ↦ omega arith
        | inr behind ↦ absurd (omega arith)
      ]
    ];
    down = elim gap.above [
      | inl none ↦ omega arith
      | inr at ↦ let is = at.3 in let more = at.2 in let one : 1 ≤ at.0.size = all_has (λ c. 1 ≤ c.size) live at.0 bytes at.1 in elim (all_has (λ c. (block_end c ≤ x) ⊎ (y ≤ c.first)) live at.0 clear at.1) [
        | inl before ↦ absurd (omega arith)
        | inr behind ↦ omega arith
      ]
    ];
  }

  pub clear_bounds : (x y : ℕ) → low ≤ x → y ≤ high → Clear live x y
  clear_bounds x y up down = weaker (λ c. (block_end c ≤ low) ⊎ (high ≤ c.first)) (λ c. (block_end c ≤ x) ⊎ (y ≤ c.first)) live (λ c h. elim h [ inl before ↦ inl (omega arith) | inr behind ↦ inr (omega arith) ]) gap.none

  -- an end of a block at or below a is no higher than the gap
  end_low : (c : Block) → has_block live c ≡ true → block_end c ≤ a → a ≤ end → block_end c ≤ low
  end_low c there less fits =
      let one : 1 ≤ c.size = all_has (λ d. 1 ≤ d.size) live c bytes there in
      elim (all_has (λ d. (block_end d ≤ low) ⊎ (high ≤ d.first)) live c gap.none there) [
        | inl before ↦ before
        | inr behind ↦ elim gap.above [
          | inl none ↦ absurd (omega arith)
          | inr at ↦ let is = at.3 in let more = at.2 in absurd (omega arith)
        ]
      ]

-- APART: a block is apart from each live block exactly where it lies in the gap
pub apart_in_gap : (start end : ℕ) (live : List Block) (b : Block) (low high : ℕ) → IsGap start end live b.first low high → HaveBytes live → 1 ≤ b.size → start ≤ b.first → block_end b ≤ end → list_all (λ c. blocks_apart c b) live ≡ (nat_le low b.first && nat_le (block_end b) high)
apart_in_gap start end live b low high gap bytes some from fits = bool_same (list_all (λ c. blocks_apart c b) live) (nat_le low b.first && nat_le (block_end b) high)
    (λ h. let in' = bounds_clear start end live b.first low high gap bytes b.first (block_end b) from (omega arith) (omega arith) fits (apart_numbers live b h) in
    and_from (nat_le low b.first) (nat_le (block_end b) high) (le-leb low b.first in'.up) (le-leb (block_end b) high in'.down))
    (λ h. let parts = and_parts (nat_le low b.first) (nat_le (block_end b) high) h in
    numbers_apart live b (clear_bounds start end live b.first low high gap bytes b.first (block_end b) (leb-true low b.first parts.0) (leb-true (block_end b) high parts.1)))

module _ (r : Run) (live : List Block) (b : Block) (al : ℕ) (whole : 1 ≤ al) where
  abbrev passes : ℕ → Bool
  passes x = (least_multiple al x == b.first) && has_room_from r live b.size al x

  pub record Passes (x : ℕ) : Type 0 where
    pub front : least_multiple al x ≡ b.first
    pub left : r.first * PAGE ≤ x
    pub near : x ≤ b.first
    pub right : block_end b ≤ run_end r * PAGE
    pub clear : Clear live x (block_end b)

  pass_parts : (x : ℕ) → passes x ≡ true → Passes x
  pass_parts x h =
      let parts = and_parts (least_multiple al x == b.first) (has_room_from r live b.size al x) h in
      let front : least_multiple al x ≡ b.first = eqb-true (least_multiple al x) b.first parts.0 in
      let inner = and_parts (lies_in r x (least_multiple al x + b.size)) (list_all (λ c. blocks_apart c (block_at x (least_multiple al x + b.size - x))) live) parts.1 in
      let within = and_parts (nat_le (r.first * PAGE) x) (nat_le (least_multiple al x + b.size) (run_end r * PAGE)) inner.0 in
      let right = leb-true (least_multiple al x + b.size) (run_end r * PAGE) within.1 in
      let up = multiple-above al x whole in
      let clear = apart_numbers live (block_at x (least_multiple al x + b.size - x)) inner.1 in
      record {
        front = front;
        left = leb-true (r.first * PAGE) x within.0;
        near = omega arith;
        right = omega arith;
        clear = weaker (λ c. (block_end c ≤ x) ⊎ (x + (least_multiple al x + b.size - x) ≤ c.first)) (λ c. (block_end c ≤ x) ⊎ (block_end b ≤ c.first)) live (λ c h. elim h [ inl before ↦ inl before | inr behind ↦ inr (omega arith) ]) clear;
      }

  pass_from : (x : ℕ) → Passes x → passes x ≡ true
  pass_from x h =
      let front = h.front in
      let left = h.left in
      let near = h.near in
      let right = h.right in
      and_from (least_multiple al x == b.first) (has_room_from r live b.size al x) (eq-eqb (least_multiple al x) b.first front)
      (and_from (lies_in r x (least_multiple al x + b.size)) (list_all (λ c. blocks_apart c (block_at x (least_multiple al x + b.size - x))) live)
      (and_from (nat_le (r.first * PAGE) x) (nat_le (least_multiple al x + b.size) (run_end r * PAGE)) (le-leb (r.first * PAGE) x left) (le-leb (least_multiple al x + b.size) (run_end r * PAGE) (omega arith)))
      (numbers_apart live (block_at x (least_multiple al x + b.size - x)) (weaker (λ c. (block_end c ≤ x) ⊎ (block_end b ≤ c.first)) (λ c. (block_end c ≤ x) ⊎ (x + (least_multiple al x + b.size - x) ≤ c.first)) live (λ c h. elim h [ inl before ↦ inl before | inr behind ↦ inr (omega arith) ]) h.clear)))

  -- what is at a front lies in the run
  pub front_lies : is_front_of r live b al ≡ true → lies_in r b.first (block_end b) ≡ true
  front_lies h = elim (or_cases (passes (r.first * PAGE)) (list_any passes (map block_end live)) h) [
    | inl here ↦ lies (r.first * PAGE) (pass_parts (r.first * PAGE) here)
    | inr later ↦ let c = ends_pass passes live later in lies (block_end c.0) (pass_parts (block_end c.0) c.2)
  ]
    where
      lies : (x : ℕ) → Passes x → lies_in r b.first (block_end b) ≡ true
      lies x h = let left = h.left in let near = h.near in and_from (nat_le (r.first * PAGE) b.first) (nat_le (block_end b) (run_end r * PAGE)) (le-leb (r.first * PAGE) b.first (omega arith)) (le-leb (block_end b) (run_end r * PAGE) h.right)

  module _ (low high : ℕ) (gap : IsGap (r.first * PAGE) (run_end r * PAGE) live b.first low high) (bytes : HaveBytes live) (some : 1 ≤ b.size) where
    front_forth : (x : ℕ) → Passes x → x ≤ max (r.first * PAGE) low → front_in_gap r low high b al ≡ true
    front_forth x h least =
        let in' = bounds_clear (r.first * PAGE) (run_end r * PAGE) live b.first low high gap bytes x (block_end b) h.left h.near (omega arith) h.right h.clear in
        let up = in'.up in
        let left = h.left in
        let is : x ≡ max (r.first * PAGE) low = omega arith in
        and_from ((least_multiple al (max (r.first * PAGE) low) == b.first) && lies_in r (max (r.first * PAGE) low) (block_end b)) (nat_le (block_end b) high)
        (and_from (least_multiple al (max (r.first * PAGE) low) == b.first) (lies_in r (max (r.first * PAGE) low) (block_end b))
        (eq-eqb (least_multiple al (max (r.first * PAGE) low)) b.first (ap (least_multiple al) (sym is) ∙ h.front))
        (and_from (nat_le (r.first * PAGE) (max (r.first * PAGE) low)) (nat_le (block_end b) (run_end r * PAGE)) (le-leb (r.first * PAGE) (max (r.first * PAGE) low) (omega arith)) (le-leb (block_end b) (run_end r * PAGE) h.right)))
        (le-leb (block_end b) high in'.down)

    -- FRONT: a block is at a front of the run exactly where it is so in the gap
    pub front_is_in_gap : is_front_of r live b al ≡ front_in_gap r low high b al
    front_is_in_gap = bool_same (is_front_of r live b al) (front_in_gap r low high b al)
        (λ h. elim (or_cases (passes (r.first * PAGE)) (list_any passes (map block_end live)) h) [
          | inl here ↦ front_forth (r.first * PAGE) (pass_parts (r.first * PAGE) here) (omega arith)
          | inr later ↦
              let c = ends_pass passes live later in
              let parts = pass_parts (block_end c.0) c.2 in
              let near = parts.near in
              let right = parts.right in
              let less = end_low (r.first * PAGE) (run_end r * PAGE) live b.first low high gap bytes c.0 c.1 near (omega arith) in
              front_forth (block_end c.0) parts (omega arith)
        ])
        (λ h.
        let outer = and_parts ((least_multiple al (max (r.first * PAGE) low) == b.first) && lies_in r (max (r.first * PAGE) low) (block_end b)) (nat_le (block_end b) high) h in
        let inner = and_parts (least_multiple al (max (r.first * PAGE) low) == b.first) (lies_in r (max (r.first * PAGE) low) (block_end b)) outer.0 in
        let within = and_parts (nat_le (r.first * PAGE) (max (r.first * PAGE) low)) (nat_le (block_end b) (run_end r * PAGE)) inner.1 in
        let front : least_multiple al (max (r.first * PAGE) low) ≡ b.first = eqb-true (least_multiple al (max (r.first * PAGE) low)) b.first inner.0 in
        let up = multiple-above al (max (r.first * PAGE) low) whole in
        let clear = clear_bounds (r.first * PAGE) (run_end r * PAGE) live b.first low high gap bytes (max (r.first * PAGE) low) (block_end b) (omega arith) (leb-true (block_end b) high outer.1) in
        let pass : passes (max (r.first * PAGE) low) ≡ true = pass_from (max (r.first * PAGE) low) (record { front = front; left = omega arith; near = omega arith; right = leb-true (block_end b) (run_end r * PAGE) within.1; clear = clear }) in
        elim (cases_lt (r.first * PAGE) low) [
          | inr start ↦ let is : max (r.first * PAGE) low ≡ r.first * PAGE = omega arith in or_left (passes (r.first * PAGE)) (list_any passes (map block_end live)) (subst (λ x. passes x ≡ true) is pass)
          | inl more ↦ elim gap.below [
            | inl none ↦ absurd (omega arith)
            | inr at ↦
                let is = at.3 in
                let is : max (r.first * PAGE) low ≡ block_end at.0 = omega arith in
                or_right (passes (r.first * PAGE)) (list_any passes (map block_end live)) (pass_ends passes live at.0 at.1 (subst (λ x. passes x ≡ true) is pass))
          ]
        ])

-- BESIDE: the gap beside one more block, which begins below a or not
pub gap_lower : (start end : ℕ) (live : List Block) (a low high : ℕ) (f : Block) → IsGap start end live a low high → f.first < a → IsGap start end (f ∷ live) a (max low (block_end f)) high
gap_lower start end live a low high f gap less = record {
  none = All-cons (λ c. (block_end c ≤ max low (block_end f)) ⊎ (high ≤ c.first)) f live (inl (omega arith))
      (weaker (λ c. (block_end c ≤ low) ⊎ (high ≤ c.first)) (λ c. (block_end c ≤ max low (block_end f)) ⊎ (high ≤ c.first)) live (λ c h. elim h [ inl before ↦ inl (omega arith) | inr behind ↦ inr behind ]) gap.none);
  below = elim (cases_lt low (block_end f)) [
    | inl more ↦ inr (f, or_left (same_block f f) (has_block live f) (same_self f), less, omega arith)
    | inr most ↦ elim gap.below [
      | inl none ↦ inl (omega arith)
      | inr at ↦ let is = at.3 in inr (at.0, or_right (same_block at.0 f) (has_block live at.0) at.1, at.2, omega arith)
    ]
  ];
  above = elim gap.above [ inl none ↦ inl none | inr at ↦ inr (at.0, or_right (same_block at.0 f) (has_block live at.0) at.1, at.2, at.3) ];
}

pub gap_upper : (start end : ℕ) (live : List Block) (a low high : ℕ) (f : Block) → IsGap start end live a low high → a ≤ f.first → IsGap start end (f ∷ live) a low (min high f.first)
gap_upper start end live a low high f gap more = record {
  none = All-cons (λ c. (block_end c ≤ low) ⊎ (min high f.first ≤ c.first)) f live (inr (omega arith))
      (weaker (λ c. (block_end c ≤ low) ⊎ (high ≤ c.first)) (λ c. (block_end c ≤ low) ⊎ (min high f.first ≤ c.first)) live (λ c h. elim h [ inl before ↦ inl before | inr behind ↦ inr (omega arith) ]) gap.none);
  below = elim gap.below [ inl none ↦ inl none | inr at ↦ inr (at.0, or_right (same_block at.0 f) (has_block live at.0) at.1, at.2, at.3) ];
  above = elim (cases_lt f.first high) [
    | inl less ↦ inr (f, or_left (same_block f f) (has_block live f) (same_self f), more, omega arith)
    | inr least ↦ elim gap.above [
      | inl none ↦ inl (omega arith)
      | inr at ↦ let is = at.3 in inr (at.0, or_right (same_block at.0 f) (has_block live at.0) at.1, at.2, omega arith)
    ]
  ];
}
