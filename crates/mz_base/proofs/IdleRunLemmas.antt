-- The tests of room mean what IdleRuns says.
use Rattle.std.proofs.Common.{◌≡◌, ℕ, ◌+◌, ◌-◌, ◌*◌, ◌<◌, ◌≤◌, ◌⊎◌, Bool, true, false, cond, List, [], ◌∷◌, refl, sym, subst, inl, inr, arith}
use Rattle.std.specs.Prelude.{IsTrue, ◌&&◌, ◌==◌, nat_le, map, min}
use Rattle.std.specs.List.{All, list_any, list_all}
use Rattle.std.proofs.lemmas.Bool.{and_parts, and_from, or_cases, or_left, or_right, or_parts, cases_Bool, cases_lt, false≢true, leb-true, le-leb, leb-false, eqb-true, eqb-false, eq-eqb, cond-true, cond-false}
use Rattle.std.proofs.lemmas.List.Elements.{All-nil, All-cons, All-head, All-tail}
use Rattle.mz_base.specs.Space.{Block, block_at, block_end, blocks_apart, least_multiple}
use Rattle.mz_base.specs.Room.{lies_within, starts_from, has_room_within_from, has_room_within, is_front_within}
use Rattle.mz_base.specs.IdleRuns.{MeetsNone, IsIdle, IsIdleRun, IsRoom, IsFront}
use Rattle.mz_base.proofs.SpaceLemmas.{least_multiple-above}

-- where an idle stretch up to z can't go on: the least start of a block at or above z, or the limit
end_above : List Block → ℕ → ℕ → ℕ
end_above [] z limit = limit
end_above (b ∷ bs) z limit = cond (nat_le z b.first) (min b.first (end_above bs z limit)) (end_above bs z limit)

end-none : (z limit : ℕ) → end_above [] z limit ≡ limit
unfolding end_above
end-none z limit = refl

end-near : (b : Block) (bs : List Block) (z limit : ℕ) → nat_le z b.first ≡ true → end_above (b ∷ bs) z limit ≡ min b.first (end_above bs z limit)
unfolding end_above
end-near b bs z limit h = cond-true (nat_le z b.first) (min b.first (end_above bs z limit)) (end_above bs z limit) h

end-far : (b : Block) (bs : List Block) (z limit : ℕ) → nat_le z b.first ≡ false → end_above (b ∷ bs) z limit ≡ end_above bs z limit
unfolding end_above
end-far b bs z limit h = cond-false (nat_le z b.first) (min b.first (end_above bs z limit)) (end_above bs z limit) h

end-within : (bs : List Block) (z limit : ℕ) → z ≤ limit → (z ≤ end_above bs z limit) × (end_above bs z limit ≤ limit)
end-within [] z limit h = let e = end-none z limit in omega arith
end-within (b ∷ bs) z limit h =
    let rest : (z ≤ end_above bs z limit) × (end_above bs z limit ≤ limit) = end-within bs z limit h in
    elim (cases_Bool (nat_le z b.first)) [
      | inl near ↦ let e = end-near b bs z limit near in let k = leb-true z b.first near in omega arith
      | inr far ↦ let e = end-far b bs z limit far in omega arith
    ]

-- up to there no block is met
end-meets : (bs : List Block) (x z limit e : ℕ) → e ≤ end_above bs z limit → MeetsNone bs x z → MeetsNone bs x e
end-meets [] x z limit e below h = All-nil (λ b. (block_end b ≤ x) ⊎ (e ≤ b.first))
end-meets (b ∷ bs) x z limit e below h =
    let here = All-head (λ c. (block_end c ≤ x) ⊎ (z ≤ c.first)) b bs h in
    let rest = All-tail (λ c. (block_end c ≤ x) ⊎ (z ≤ c.first)) b bs h in
    elim (cases_Bool (nat_le z b.first)) [
      | inl near ↦
          let is = end-near b bs z limit near in
          All-cons (λ c. (block_end c ≤ x) ⊎ (e ≤ c.first)) b bs (inr (omega arith)) (end-meets bs x z limit e (omega arith) rest)
      | inr far ↦
          let is = end-far b bs z limit far in
          let k = leb-false z b.first far in
          let low : block_end b ≤ x = elim here [ inl low ↦ low | inr high ↦ absurd (omega arith) ] in
          All-cons (λ c. (block_end c ≤ x) ⊎ (e ≤ c.first)) b bs (inl low) (end-meets bs x z limit e (omega arith) rest)
    ]

-- and further than that one is
end-last : (bs : List Block) (z limit v w : ℕ) → v < z → end_above bs z limit < w → w ≤ limit → MeetsNone bs v w → ⊥
end-last [] z limit v w low more within h = let e = end-none z limit in absurd (omega arith)
end-last (b ∷ bs) z limit v w low more within h =
    let here = All-head (λ c. (block_end c ≤ v) ⊎ (w ≤ c.first)) b bs h in
    let rest = All-tail (λ c. (block_end c ≤ v) ⊎ (w ≤ c.first)) b bs h in
    elim (cases_Bool (nat_le z b.first)) [
      | inr far ↦ let e = end-far b bs z limit far in end-last bs z limit v w low (omega arith) within rest
      | inl near ↦
          let e = end-near b bs z limit near in
          let k = leb-true z b.first near in
          elim here [
            | inl before ↦ absurd (omega arith)
            | inr behind ↦ end-last bs z limit v w low (omega arith) within rest
          ]
    ]

-- the test that no block is met, in words
meets_from_test : (bs : List Block) (x z : ℕ) → x ≤ z → list_all (λ b. blocks_apart b (block_at x (z - x))) bs ≡ true → MeetsNone bs x z
meets_from_test [] x z up h = All-nil (λ b. (block_end b ≤ x) ⊎ (z ≤ b.first))
meets_from_test (b ∷ bs) x z up h =
    let parts = and_parts (blocks_apart b (block_at x (z - x))) (list_all (λ c. blocks_apart c (block_at x (z - x))) bs) h in
    All-cons (λ c. (block_end c ≤ x) ⊎ (z ≤ c.first)) b bs (elim (or_cases (nat_le (block_end b) x) (nat_le (x + (z - x)) b.first) parts.0) [
      | inl low ↦ inl (leb-true (block_end b) x low)
      | inr high ↦ let k = leb-true (x + (z - x)) b.first high in inr (omega arith)
    ]) (meets_from_test bs x z up parts.1)

test_from_meets : (bs : List Block) (x z y : ℕ) → x ≤ z → z ≤ y → MeetsNone bs x y → list_all (λ b. blocks_apart b (block_at x (z - x))) bs ≡ true
test_from_meets [] x z y up within h = refl
test_from_meets (b ∷ bs) x z y up within h =
    let here = All-head (λ c. (block_end c ≤ x) ⊎ (y ≤ c.first)) b bs h in
    let rest = All-tail (λ c. (block_end c ≤ x) ⊎ (y ≤ c.first)) b bs h in
    and_from (blocks_apart b (block_at x (z - x))) (list_all (λ c. blocks_apart c (block_at x (z - x))) bs) (elim here [
      | inl low ↦ or_left (nat_le (block_end b) x) (nat_le (x + (z - x)) b.first) (le-leb (block_end b) x low)
      | inr high ↦ or_right (nat_le (block_end b) x) (nat_le (x + (z - x)) b.first) (le-leb (x + (z - x)) b.first (omega arith))
    ]) (test_from_meets bs x z y up within rest)

-- what passes at x passes somewhere, where x is among these
any_by_member : (p : ℕ → Bool) (xs : List ℕ) (x : ℕ) → list_any (λ s. s == x) xs ≡ true → p x ≡ true → list_any p xs ≡ true
any_by_member p [] x among h = absurd (false≢true among)
any_by_member p (s ∷ xs) x among h =
    elim (or_cases (s == x) (list_any (λ t. t == x) xs) among) [
      | inl here ↦ or_left (p s) (list_any p xs) (subst (λ t. p t ≡ true) (sym (eqb-true s x here)) h)
      | inr later ↦ or_right (p s) (list_any p xs) (any_by_member p xs x later h)
    ]

-- where no block ends at x, an idle stretch can begin one byte lower
meets-lower : (bs : List Block) (x y : ℕ) → 0 < x → list_any (λ s. s == x) (map block_end bs) ≡ false → MeetsNone bs x y → MeetsNone bs (x - 1) y
meets-lower [] x y some none h = All-nil (λ b. (block_end b ≤ x - 1) ⊎ (y ≤ b.first))
meets-lower (b ∷ bs) x y some none h =
    let here = All-head (λ c. (block_end c ≤ x) ⊎ (y ≤ c.first)) b bs h in
    let rest = All-tail (λ c. (block_end c ≤ x) ⊎ (y ≤ c.first)) b bs h in
    let parts = or_parts (block_end b == x) (list_any (λ s. s == x) (map block_end bs)) none in
    All-cons (λ c. (block_end c ≤ x - 1) ⊎ (y ≤ c.first)) b bs (elim here [
      | inl low ↦ elim (cases_lt (block_end b) x) [
        | inl less ↦ inl (omega arith)
        | inr not_less ↦ absurd (eqb-false (block_end b) x parts.0 (omega arith))
      ]
      | inr high ↦ inr high
    ]) (meets-lower bs x y some parts.1 rest)

-- an idle run begins at the stretch's first byte or behind a block
begins_at_start : (start end : ℕ) (live : List Block) (x y : ℕ) → IsIdleRun start end live x y → list_any (λ s. s == x) (starts_from start live) ≡ true
begins_at_start start end live x y h =
    elim (cases_Bool (list_any (λ s. s == x) (starts_from start live))) [
      | inl yes_ ↦ yes_
      | inr no_ ↦
          let parts = or_parts (start == x) (list_any (λ s. s == x) (map block_end live)) no_ in
          let other = eqb-false start x parts.0 in
          let low = h.idle.not_below in
          let some = h.idle.some in
          let less : start < x = elim (cases_lt start x) [ inl less ↦ less | inr not_less ↦ absurd (other (omega arith)) ] in
          let longer : IsIdle start end live (x - 1) y = record {
            some = omega arith;
            not_below = omega arith;
            not_above = h.idle.not_above;
            meets_none = meets-lower live x y (omega arith) parts.1 h.idle.meets_none;
          } in
          let same = (h.longest (x - 1) y (omega arith) (omega arith) longer).0 in
          absurd (omega arith)
    ]

module _ (start end : ℕ) (live : List Block) (n al : ℕ) (q : ℕ → Bool) (whole : 1 ≤ al) where
  abbrev front : ℕ → ℕ
  front x = least_multiple al x

  abbrev passes : ℕ → Bool
  passes x = q x && has_room_within_from start end live n al x

  abbrev IsRoomBy : Type 0
  IsRoomBy = (x : ℕ) × (y : ℕ) × IsIdleRun start end live x y × (q x ≡ true) × (front x + n ≤ y)

  -- from an idle run to the test
  pub test_from_room : IsRoomBy → list_any passes (starts_from start live) ≡ true
  test_from_room h =
      let x = h.0 in
      let y = h.1 in
      let run : IsIdleRun start end live h.0 h.1 = h.2 in
      let within : front h.0 + n ≤ h.1 = h.4 in
      let up = least_multiple-above al h.0 whole in
      let low = run.idle.not_below in
      let high = run.idle.not_above in
      any_by_member passes (starts_from start live) h.0 (begins_at_start start end live h.0 h.1 run) (and_from (q h.0) (has_room_within_from start end live n al h.0) h.3
      (and_from (lies_within start end h.0 (front h.0 + n)) (list_all (λ b. blocks_apart b (block_at h.0 (front h.0 + n - h.0))) live)
      (and_from (nat_le start h.0) (nat_le (front h.0 + n) end) (le-leb start h.0 low) (le-leb (front h.0 + n) end (omega arith)))
      (test_from_meets live h.0 (front h.0 + n) h.1 (omega arith) within run.idle.meets_none)))

  -- a start that passes is the start of an idle run, where nothing lower is
  room_at : (x : ℕ) → 1 ≤ n → ((v z : ℕ) → x < z → IsIdle start end live v z → x ≤ v) → passes x ≡ true → IsRoomBy
  room_at x some lowest h =
      let parts = and_parts (q x) (has_room_within_from start end live n al x) h in
      let inner = and_parts (lies_within start end x (front x + n)) (list_all (λ b. blocks_apart b (block_at x (front x + n - x))) live) parts.1 in
      let within = and_parts (nat_le start x) (nat_le (front x + n) end) inner.0 in
      let low = leb-true start x within.0 in
      let high = leb-true (front x + n) end within.1 in
      let up = least_multiple-above al x whole in
      let meets = meets_from_test live x (front x + n) (omega arith) inner.1 in
      let ends = end-within live (front x + n) end high in
      let y = end_above live (front x + n) end in
      let run : IsIdleRun start end live x (end_above live (front x + n) end) = record {
        idle = record {
          some = omega arith;
          not_below = low;
          not_above = ends.1;
          meets_none = end-meets live x (front x + n) end (end_above live (front x + n) end) (omega arith) meets;
        };
        longest = λ v z down over idle.
            let left : x ≤ v = lowest v z (omega arith) idle in
            let right : z ≤ end_above live (front x + n) end = elim (cases_lt (end_above live (front x + n) end) z) [
              | inl more ↦ absurd (end-last live (front x + n) end v z (omega arith) more idle.not_above idle.meets_none)
              | inr not_more ↦ not_more
            ] in
            (omega arith, omega arith);
      } in
      (x, end_above live (front x + n) end, run, parts.0, ends.0)

  room_behind : 1 ≤ n → (bs : List Block) → ((P : Block → Type 0) → All P live → All P bs) → list_any passes (map block_end bs) ≡ true → IsRoomBy
  room_behind some [] each h = absurd (false≢true h)
  room_behind some (b ∷ bs) each h =
      elim (or_cases (passes (block_end b)) (list_any passes (map block_end bs)) h) [
        | inl here ↦ room_at (block_end b) some (λ v z more idle.
            elim (All-head (λ c. (block_end c ≤ v) ⊎ (z ≤ c.first)) b bs (each (λ c. (block_end c ≤ v) ⊎ (z ≤ c.first)) idle.meets_none)) [
              | inl low ↦ low
              | inr high ↦ absurd (omega arith)
            ]) here
        | inr later ↦ room_behind some bs (λ P all. All-tail P b bs (each P all)) later
      ]

  -- and from the test to an idle run
  pub room_from_test : 1 ≤ n → list_any passes (starts_from start live) ≡ true → IsRoomBy
  room_from_test some h =
      elim (or_cases (passes start) (list_any passes (map block_end live)) h) [
        | inl here ↦ room_at start some (λ v z more idle. idle.not_below) here
        | inr later ↦ room_behind some live (λ P all. all) later
      ]

pub has_room_within-is : (start end : ℕ) (live : List Block) (n al : ℕ) → 1 ≤ n → 1 ≤ al → (IsTrue (has_room_within start end live n al) → IsRoom start end live n al) × (IsRoom start end live n al → IsTrue (has_room_within start end live n al))
has_room_within-is start end live n al some whole = (
  λ h. let room = room_from_test start end live n al (λ x. true) whole some h in (room.0, room.1, room.2, room.4),
  λ room. test_from_room start end live n al (λ x. true) whole (room.0, room.1, room.2, refl, room.3),
)

pub is_front_within-is : (start end : ℕ) (live : List Block) (b : Block) (al : ℕ) → 1 ≤ b.size → 1 ≤ al → (IsTrue (is_front_within start end live b al) → IsFront start end live b al) × (IsFront start end live b al → IsTrue (is_front_within start end live b al))
is_front_within-is start end live b al some whole = (
  λ h.
      let room = room_from_test start end live b.size al (λ x. least_multiple al x == b.first) whole some h in
      let at = eqb-true (least_multiple al room.0) b.first room.3 in
      let over = room.4 in
      (room.0, room.1, room.2, at, omega arith),
  λ room.
      let at = room.3 in
      let over = room.4 in
      test_from_room start end live b.size al (λ x. least_multiple al x == b.first) whole (room.0, room.1, room.2, eq-eqb (least_multiple al room.0) b.first at, omega arith),
)
