-- A block that was made begins elsewhere than one that was in the hand before.
use Rattle.std.proofs.Common.{◌≡◌, ℕ, ◌+◌, ◌≤◌, ◌==◌, Bool, true, false, cond, List, [], ◌∷◌, ◌++◌, length, refl, ap, sym, subst, ◌∙◌, inl, inr, arith, eq-eqb}
use Rattle.std.specs.Prelude.{◌||◌, filter, map, nat_le}
use Rattle.std.proofs.lemmas.Bool.{cases_Bool, and_from, false≢true}
use Rattle.std.proofs.lemmas.Bool.Decides.{nat_tests}
use Rattle.mz_base.specs.Space.{Block, block_end, blocks_apart, same_block}
use Rattle.mz_base.specs.Lists.{has_block}
use Rattle.mz_events.specs.Changes.{one_for}
use Rattle.mz_book.specs.declared.pair.Pair.{Pair}
use Rattle.mz_book.specs.Pairs.{block_of as block_of_pair, hand_among, owners}
use Rattle.mz_book.specs.Account.{Account, IsOrderly, state_of, hand, is_live}
use Rattle.mz_book.specs.Living.{times}
use Rattle.mz_zone.specs.ZoneLaws.{ZoneLaws}

pub same_self : (b : Block) → same_block b b ≡ true
same_self b = and_from (b.first == b.first) (b.size == b.size) (eq-eqb b.first b.first refl) (eq-eqb b.size b.size refl)

-- how often a block is in a hand

one_more : {A : Type 0} (x : A) (xs : List A) (d : Bool) → length (cond d (x ∷ xs) xs) ≡ one_for d + length xs
one_more x xs true = omega arith
one_more x xs false = omega arith

times_more : (b c : Block) (bs : List Block) → times b (c ∷ bs) ≡ one_for (same_block b c) + times b bs
times_more b c bs = one_more c (filter (same_block b) bs) (same_block b c)

times_behind : (b : Block) (bs : List Block) → times b (bs ++ b ∷ []) ≡ times b bs + 1
times_behind b [] =
    let one = times_more b b [] in
    let same = ap one_for (same_self b) in
    omega (arith, one, same)
times_behind b (c ∷ bs) =
    let rest = times_behind b bs in
    let whole = times_more b c (bs ++ b ∷ []) in
    let front = times_more b c bs in
    omega (arith, rest, whole, front)

times_there : (b : Block) (bs : List Block) → has_block bs b ≡ true → 1 ≤ times b bs
times_there b [] there = absurd (false≢true there)
times_there b (c ∷ bs) there =
    let whole = times_more b c bs in
    elim (cases_Bool (same_block b c)) [
      | inl same ↦ let one = ap one_for same in omega (arith, whole, one)
      | inr other ↦ let rest = times_there b bs (sym (ap (λ d. d || has_block bs b) other) ∙ there) in omega (arith, whole, rest)
    ]

among : (c : ℕ) (h : Pair) (hs : List Pair) (d : Bool) → (h.caller == c) ≡ d → hand_among c (h ∷ hs) ≡ cond d (block_of_pair h ∷ hand_among c hs) (hand_among c hs)
among c h hs true is = ap (λ t. map block_of_pair (cond t (h ∷ filter (λ x. x.caller == c) hs) (filter (λ x. x.caller == c) hs))) is
among c h hs false is = ap (λ t. map block_of_pair (cond t (h ∷ filter (λ x. x.caller == c) hs) (filter (λ x. x.caller == c) hs))) is

times_owned : (c : ℕ) (b : Block) (pairs : List Pair) → times b (hand_among c pairs) ≤ owners pairs b
times_owned c b [] = omega arith
times_owned c b (h ∷ hs) =
    let rest = times_owned c b hs in
    let all : owners (h ∷ hs) b ≡ one_for (same_block b (block_of_pair h)) + owners hs b = one_more h (filter (λ x. same_block b (block_of_pair x)) hs) (same_block b (block_of_pair h)) in
    elim (cases_Bool (h.caller == c)) [
      | inl mine ↦
          let here = ap (times b) (among c h hs true mine) in
          let whole = times_more b (block_of_pair h) (hand_among c hs) in
          omega (arith, rest, all, here, whole)
      | inr other ↦
          let here = ap (times b) (among c h hs false other) in
          omega (arith, rest, all, here)
    ]

one_most : (d : Bool) → one_for d ≤ 1
one_most true = omega arith
one_most false = omega arith

-- it is there once at most
once_most : (s : Account) (b : Block) → IsOrderly s → times b (hand s) ≤ 1
once_most s b orderly =
    let most = times_owned s.caller b s.pairs in
    let owned = orderly.owned b in
    let one = one_most (is_live (state_of s) b) in
    omega (arith, most, owned, one)

pub last_there : (bs : List Block) (b : Block) → has_block (bs ++ b ∷ []) b ≡ true
last_there [] b = ap (λ d. d || false) (same_self b)
last_there (c ∷ bs) b = or_last (same_block b c) (last_there bs b)
  where
    or_last : (d : Bool) → has_block (bs ++ b ∷ []) b ≡ true → (d || has_block (bs ++ b ∷ []) b) ≡ true
    or_last true rest = refl
    or_last false rest = rest

pub front_there : (bs cs : List Block) (b : Block) → has_block bs b ≡ true → has_block (bs ++ cs) b ≡ true
front_there [] cs b there = absurd (false≢true there)
front_there (c ∷ bs) cs b there = or_front (same_block b c) (front_there bs cs b) there
  where
    or_front : (d : Bool) → (has_block bs b ≡ true → has_block (bs ++ cs) b ≡ true) → (d || has_block bs b) ≡ true → (d || has_block (bs ++ cs) b) ≡ true
    or_front true rest h = refl
    or_front false rest h = rest h

not_apart : (b c : Block) → 1 ≤ b.size → 1 ≤ c.size → b.first ≡ c.first → blocks_apart b c ≡ true → ⊥
not_apart b c some_b some_c first apart = by_end (nat_le (block_end b) c.first) refl apart
  where
    by_end : (d : Bool) → nat_le (block_end b) c.first ≡ d → (d || nat_le (block_end c) b.first) ≡ true → ⊥
    by_end true is either = let low : block_end b ≤ c.first = grind (arith, nat_tests, is) in omega (arith, low, some_b, first)
    by_end false is either = let low : block_end c ≤ b.first = grind (arith, nat_tests, either) in omega (arith, low, some_c, first)

-- A hand that has another block behind those that it had has none of these where that begins.
pub begins_elsewhere :
    (laws : ZoneLaws) (s : Account) (old : List Block) (b d : Block) → IsOrderly s → hand s ≡ old ++ d ∷ [] → has_block old b ≡ true → b.first ≡ d.first → ⊥
begins_elsewhere laws s old b d orderly is there first =
    let b_there : has_block (hand s) b ≡ true = ap (λ bs. has_block bs b) is ∙ front_there old (d ∷ []) b there in
    let d_there : has_block (hand s) d ≡ true = ap (λ bs. has_block bs d) is ∙ last_there old d in
    let i = laws.somewhere s b orderly b_there in
    let j = laws.somewhere s d orderly d_there in
    let ascending = laws.ascending s.profile s.seen orderly.lawful in
    elim ((laws.separate s.profile s.seen orderly.lawful).blocks_are_apart i.0 j.0 b d i.1 j.1) [
      | inl same ↦
          let some = times_there d old (subst (λ c. has_block old c ≡ true) same.1 there) in
          let behind = times_behind d old in
          let whole = ap (times d) is in
          let once = once_most s d orderly in
          omega (arith, some, behind, whole, once)
      | inr apart ↦ not_apart b d (ascending.sizes i.0 b i.1) (ascending.sizes j.0 d j.1) first apart
    ]
