-- How often a block is among some: by parts, without one, in a hand.
use Rattle.std.proofs.Common.{◌≡◌, ℕ, ◌+◌, ◌≤◌, Bool, true, false, cond, not, List, [], ◌∷◌, ◌++◌, length, Some, None, refl, ap, sym, ◌∙◌, inl, inr, arith, eq-eqb}
use Rattle.std.specs.Prelude.{◌==◌, ◌||◌, map, filter}
use Rattle.std.proofs.lemmas.Bool.{cases_Bool, false≢true, and_parts, and_from, eqb-true}
use Rattle.mz_base.specs.Space.{Block, same_block}
use Rattle.mz_base.specs.Lists.{has_block, drop_block}
use Rattle.mz_events.specs.Changes.{one_for}
use Rattle.mz_book.specs.declared.pair.Pair.{Pair}
use Rattle.mz_book.specs.Pairs.{block_of as block_of_pair, hand_among, owners}
use Rattle.mz_book.specs.Living.{times}

pub some-is : {A : Type 0} (a b : A) → Some a ≡ Some b → a ≡ b
some-is a b same = ap (λ o. elim o [ None ↦ a | Some x ↦ x ]) same

-- blocks that are the same pair are one
pub same-is : (b c : Block) → same_block b c ≡ true → b ≡ c
same-is b c same =
    let parts = and_parts (b.first == c.first) (b.size == c.size) same in
    ap (λ n. record { first = n; size = b.size }) (eqb-true b.first c.first parts.0) ∙ ap (λ n. record { first = c.first; size = n }) (eqb-true b.size c.size parts.1)

pub same-self : (b : Block) → same_block b b ≡ true
same-self b = and_from (b.first == b.first) (b.size == b.size) (eq-eqb b.first b.first refl) (eq-eqb b.size b.size refl)

pub one-true : (d : Bool) → d ≡ true → one_for d ≡ 1
one-true d is = ap one_for is

pub one-false : (d : Bool) → d ≡ false → one_for d ≡ 0
one-false d is = ap one_for is

length-case : {A : Type 0} (x : A) (xs : List A) (d : Bool) → length (cond d (x ∷ xs) xs) ≡ one_for d + length xs
length-case x xs true = omega arith
length-case x xs false = omega arith

pub count-cons : (b c : Block) (bs : List Block) → times b (c ∷ bs) ≡ one_for (same_block b c) + times b bs
count-cons b c bs = length-case c (filter (same_block b) bs) (same_block b c)

pub count-append : (b : Block) (bs cs : List Block) → times b (bs ++ cs) ≡ times b bs + times b cs
count-append b [] cs = omega arith
count-append b (c ∷ bs) cs =
    let rest = count-append b bs cs in
    let whole = count-cons b c (bs ++ cs) in
    let front = count-cons b c bs in
    omega (arith, rest, whole, front)

drop-case : (b c : Block) (bs : List Block) (d : Bool) → same_block b c ≡ d → drop_block b (c ∷ bs) ≡ cond (not d) (c ∷ drop_block b bs) (drop_block b bs)
drop-case b c bs d is = ap (λ t. cond (not t) (c ∷ drop_block b bs) (drop_block b bs)) is

-- a dropped block isn't counted
pub count-gone : (b : Block) (bs : List Block) → times b (drop_block b bs) ≡ 0
count-gone b [] = refl
count-gone b (c ∷ bs) = elim (cases_Bool (same_block b c)) [
  | inl same ↦ ap (times b) (drop-case b c bs true same) ∙ count-gone b bs
  | inr other ↦
      let kept = count-cons b c (drop_block b bs) in
      let zero = one-false (same_block b c) other in
      let rest = count-gone b bs in
      let whole = ap (times b) (drop-case b c bs false other) in
      omega (arith, kept, zero, rest, whole)
]

-- and the others are as often there
pub count-others : (b c : Block) (bs : List Block) → same_block c b ≡ false → times c (drop_block b bs) ≡ times c bs
count-others b c [] other = refl
count-others b c (d ∷ bs) other = elim (cases_Bool (same_block b d)) [
  | inl same ↦
      let rest = count-others b c bs other in
      let gone = ap (times c) (drop-case b d bs true same) in
      let here = count-cons c d bs in
      let zero = one-false (same_block c d) (ap (same_block c) (sym (same-is b d same)) ∙ other) in
      omega (arith, rest, gone, here, zero)
  | inr kept ↦
      let rest = count-others b c bs other in
      let stays = ap (times c) (drop-case b d bs false kept) in
      let old = count-cons c d bs in
      let new = count-cons c d (drop_block b bs) in
      omega (arith, rest, stays, old, new)
]

pub or-left : (a b : Bool) → a ≡ true → (a || b) ≡ true
or-left true b h = refl
or-left false b h = absurd (false≢true h)

pub or-right : (a b : Bool) → b ≡ true → (a || b) ≡ true
or-right true b h = refl
or-right false b h = h

-- a block that is counted is there
pub counted-there : (b : Block) (bs : List Block) → 1 ≤ times b bs → has_block bs b ≡ true
counted-there b [] some = absurd (omega (arith, some))
counted-there b (c ∷ bs) some = elim (cases_Bool (same_block b c)) [
  | inl same ↦ or-left (same_block b c) (has_block bs b) same
  | inr other ↦
      let here = count-cons b c bs in
      let zero = one-false (same_block b c) other in
      or-right (same_block b c) (has_block bs b) (counted-there b bs (omega (arith, here, zero, some)))
]

among-case : (c : ℕ) (h : Pair) (hs : List Pair) (d : Bool) → (h.caller == c) ≡ d → hand_among c (h ∷ hs) ≡ cond d (block_of_pair h ∷ hand_among c hs) (hand_among c hs)
among-case c h hs true is = ap (λ t. map block_of_pair (cond t (h ∷ filter (λ x. x.caller == c) hs) (filter (λ x. x.caller == c) hs))) is
among-case c h hs false is = ap (λ t. map block_of_pair (cond t (h ∷ filter (λ x. x.caller == c) hs) (filter (λ x. x.caller == c) hs))) is

-- no block of a hand is counted more often than among all pairs
pub hand-counted : (c : ℕ) (b : Block) (pairs : List Pair) → times b (hand_among c pairs) ≤ owners pairs b
hand-counted c b [] = omega arith
hand-counted c b (h ∷ hs) =
    let rest = hand-counted c b hs in
    let all : owners (h ∷ hs) b ≡ one_for (same_block b (block_of_pair h)) + owners hs b = length-case h (filter (λ x. same_block b (block_of_pair x)) hs) (same_block b (block_of_pair h)) in
    elim (cases_Bool (h.caller == c)) [
      | inl mine ↦
          let here = ap (times b) (among-case c h hs true mine) in
          let counted = count-cons b (block_of_pair h) (hand_among c hs) in
          omega (arith, rest, all, here, counted)
      | inr other ↦
          let here = ap (times b) (among-case c h hs false other) in
          omega (arith, rest, all, here)
    ]
