-- Blocks outside a stretch of bytes change none of its tests.
use Rattle.std.proofs.Common.{◌≡◌, ℕ, ◌+◌, ◌-◌, ◌<◌, ◌≤◌, ◌⊎◌, Bool, true, false, List, [], ◌∷◌, ◌++◌, refl, sym, subst, ap, ◌∙◌, inl, inr, arith}
use Rattle.std.specs.Prelude.{◌&&◌, ◌||◌, ◌==◌, nat_le, map, Option, Some, None}
use Rattle.std.specs.List.{list_any, list_all}
use Rattle.std.specs.Option.{option_to_list}
use Rattle.std.proofs.lemmas.Bool.{and_parts, and_from, or_cases, or_left, or_right, false≢true, leb-true, le-leb}
use Rattle.mz_base.specs.Space.{Block, block_at, block_end, blocks_apart, least_multiple, same_block}
use Rattle.mz_base.specs.Lists.{has_block}
use Rattle.mz_base.specs.Room.{starts_from, lies_within, has_room_within_from, has_room_within, is_front_within}
use Rattle.mz_holding.proofs.GapLemmas.{same_is, same_self, bool_same, ends_pass, pass_ends, multiple-above}

-- the block lies outside of the bytes from start to end
abbrev pub IsOutside : ℕ → ℕ → Block → Type 0
IsOutside start end c = (block_end c ≤ start) ⊎ (end ≤ c.first)

-- own has all of these blocks that don't lie outside, and no others
pub record IsPart (start end : ℕ) (big own : List Block) : Type 0 where
  pub forth : (c : Block) → has_block own c ≡ true → has_block big c ≡ true
  pub back : (c : Block) → has_block big c ≡ true → (has_block own c ≡ true) ⊎ IsOutside start end c

pub and_same : (x y z : Bool) → (x ≡ true → y ≡ z) → (x && y) ≡ (x && z)
and_same true y z h = h refl
and_same false y z h = refl

pub all_at : (test : Block → Bool) (bs : List Block) (c : Block) → list_all test bs ≡ true → has_block bs c ≡ true → test c ≡ true
all_at test [] c h there = absurd (false≢true there)
all_at test (b ∷ bs) c h there =
    let parts = and_parts (test b) (list_all test bs) h in
    elim (or_cases (same_block c b) (has_block bs c) there) [
      | inl here ↦ subst (λ d. test d ≡ true) (sym (same_is c b here)) parts.0
      | inr later ↦ all_at test bs c parts.1 later
    ]

pub all_from : (test : Block → Bool) (bs : List Block) → ((c : Block) → has_block bs c ≡ true → test c ≡ true) → list_all test bs ≡ true
all_from test [] h = refl
all_from test (b ∷ bs) h = and_from (test b) (list_all test bs) (h b (or_left (same_block b b) (has_block bs b) (same_self b))) (all_from test bs (λ c there. h c (or_right (same_block c b) (has_block bs c) there)))

any_agree : (f g : ℕ → Bool) (xs : List ℕ) → ((x : ℕ) → f x ≡ g x) → list_any f xs ≡ list_any g xs
any_agree f g [] h = refl
any_agree f g (x ∷ xs) h = ap (λ t. t || list_any f xs) (h x) ∙ ap (λ t. g x || t) (any_agree f g xs h)

module _ (start end : ℕ) (big own : List Block) (part : IsPart start end big own) where
  -- a test that each block outside passes
  pub all_part : (test : Block → Bool) → ((c : Block) → IsOutside start end c → test c ≡ true) → list_all test big ≡ list_all test own
  all_part test outside = bool_same (list_all test big) (list_all test own)
      (λ h. all_from test own (λ c there. all_at test big c h (part.forth c there)))
      (λ h. all_from test big (λ c there. elim (part.back c there) [ inl mine ↦ all_at test own c h mine | inr out ↦ outside c out ]))

  outside_apart : (b : Block) → start ≤ b.first → block_end b ≤ end → (c : Block) → IsOutside start end c → blocks_apart c b ≡ true
  outside_apart b from to c (inl before) = or_left (nat_le (block_end c) b.first) (nat_le (block_end b) c.first) (le-leb (block_end c) b.first (omega arith))
  outside_apart b from to c (inr behind) = or_right (nat_le (block_end c) b.first) (nat_le (block_end b) c.first) (le-leb (block_end b) c.first (omega arith))

  pub all_apart_part : (b : Block) → start ≤ b.first → block_end b ≤ end → list_all (λ c. blocks_apart c b) big ≡ list_all (λ c. blocks_apart c b) own
  all_apart_part b from to = all_part (λ c. blocks_apart c b) (outside_apart b from to)

  pub all_but_part : (a : ℕ) (b : Block) → start ≤ b.first → block_end b ≤ end → list_all (λ c. (c.first == a) || blocks_apart c b) big ≡ list_all (λ c. (c.first == a) || blocks_apart c b) own
  all_but_part a b from to = all_part (λ c. (c.first == a) || blocks_apart c b) (λ c out. or_right (c.first == a) (blocks_apart c b) (outside_apart b from to c out))

  -- a test of starts that only those within pass
  pub any_start_part : (p : ℕ → Bool) → ((x : ℕ) → p x ≡ true → (start ≤ x) × (x < end)) → list_any p (starts_from start big) ≡ list_any p (starts_from start own)
  any_start_part p within = bool_same (list_any p (starts_from start big)) (list_any p (starts_from start own))
      (λ h. elim (or_cases (p start) (list_any p (map block_end big)) h) [
        | inl here ↦ or_left (p start) (list_any p (map block_end own)) here
        | inr later ↦ let c = ends_pass p big later in elim (part.back c.0 c.1) [
          | inl mine ↦ or_right (p start) (list_any p (map block_end own)) (pass_ends p own c.0 mine c.2)
          | inr out ↦ or_left (p start) (list_any p (map block_end own)) (at_start c.0 c.2 out)
        ]
      ])
      (λ h. elim (or_cases (p start) (list_any p (map block_end own)) h) [
        | inl here ↦ or_left (p start) (list_any p (map block_end big)) here
        | inr later ↦ let c = ends_pass p own later in or_right (p start) (list_any p (map block_end big)) (pass_ends p big c.0 (part.forth c.0 c.1) c.2)
      ])
    where
      at_start : (c : Block) → p (block_end c) ≡ true → IsOutside start end c → p start ≡ true
      at_start c yes_ (inl before) = let low = (within (block_end c) yes_).0 in let is : block_end c ≡ start = omega arith in subst (λ x. p x ≡ true) is yes_
      at_start c yes_ (inr behind) = let high = (within (block_end c) yes_).1 in absurd (omega arith)

  module _ (n al : ℕ) (some : 1 ≤ n) (whole : 1 ≤ al) where
    room_from_part : (x : ℕ) → has_room_within_from start end big n al x ≡ has_room_within_from start end own n al x
    room_from_part x = and_same (lies_within start end x (least_multiple al x + n)) (list_all (λ c. blocks_apart c (block_at x (least_multiple al x + n - x))) big) (list_all (λ c. blocks_apart c (block_at x (least_multiple al x + n - x))) own) (λ yes_.
        let parts = and_parts (nat_le start x) (nat_le (least_multiple al x + n) end) yes_ in
        let from = leb-true start x parts.0 in
        let to = leb-true (least_multiple al x + n) end parts.1 in
        let up = multiple-above al x whole in
        all_apart_part (block_at x (least_multiple al x + n - x)) from (omega arith))

    room_within : (x : ℕ) → has_room_within_from start end own n al x ≡ true → (start ≤ x) × (x < end)
    room_within x h =
        let outer = and_parts (lies_within start end x (least_multiple al x + n)) (list_all (λ c. blocks_apart c (block_at x (least_multiple al x + n - x))) own) h in
        let parts = and_parts (nat_le start x) (nat_le (least_multiple al x + n) end) outer.0 in
        let to = leb-true (least_multiple al x + n) end parts.1 in
        let up = multiple-above al x whole in
        (leb-true start x parts.0, omega arith)

    -- ROOM: there is room exactly where it is among its own blocks
    pub room_part : has_room_within start end big n al ≡ has_room_within start end own n al
    room_part = any_agree (has_room_within_from start end big n al) (has_room_within_from start end own n al) (starts_from start big) room_from_part ∙ any_start_part (has_room_within_from start end own n al) room_within

    -- FRONT: and a block of n bytes is at a front where it is among them
    pub front_part : (a : ℕ) → is_front_within start end big (block_at a n) al ≡ is_front_within start end own (block_at a n) al
    front_part a =
        any_agree (λ x. (least_multiple al x == a) && has_room_within_from start end big n al x) (λ x. (least_multiple al x == a) && has_room_within_from start end own n al x) (starts_from start big) (λ x. ap (λ t. (least_multiple al x == a) && t) (room_from_part x))
        ∙ any_start_part (λ x. (least_multiple al x == a) && has_room_within_from start end own n al x) (λ x h. room_within x (and_parts (least_multiple al x == a) (has_room_within_from start end own n al x) h).1)

-- one more block in both
pub part_beside : (start end : ℕ) (big own : List Block) (o : Option Block) → IsPart start end big own → IsPart start end (option_to_list o ++ big) (option_to_list o ++ own)
part_beside start end big own None part = part
part_beside start end big own (Some f) part = record {
  forth = λ c there. elim (or_cases (same_block c f) (has_block own c) there) [
    | inl here ↦ or_left (same_block c f) (has_block big c) here
    | inr later ↦ or_right (same_block c f) (has_block big c) (part.forth c later)
  ];
  back = λ c there. elim (or_cases (same_block c f) (has_block big c) there) [
    | inl here ↦ inl (or_left (same_block c f) (has_block own c) here)
    | inr later ↦ elim (part.back c later) [ inl mine ↦ inl (or_right (same_block c f) (has_block own c) mine) | inr out ↦ inr out ]
  ];
}
