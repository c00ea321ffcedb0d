-- Blocks that are tiled: each of them, and what adding and dropping one leaves.
use Rattle.std.proofs.Common.{◌≡◌, ℕ, ◌<◌, ◌≤◌, Bool, true, false, not, List, [], ◌∷◌, refl, ap, sym, subst, ◌∙◌, inl, inr, arith}
use Rattle.std.specs.Prelude.{◌||◌, ◌==◌, nat_le, nat_lt}
use Rattle.std.specs.List.{list_all}
use Rattle.std.proofs.lemmas.Bool.{and_parts, and_from, and_left, or_cases, or_left, or_right, false≢true, leb-true, le-leb, ltb-true, ltb-false, eqb-true, eq-eqb, ne_eqb, cond-true, cond-false, cond_both}
use Rattle.mz_base.specs.Space.{Block, block_end, blocks_apart, same_block}
use Rattle.mz_base.specs.Lists.{insert_by, has_block, add_block, drop_block}
use Rattle.mz_large.specs.Blocks.{IsPaged, IsTiled}

-- blocks that are tested the same are one
pub same_block-true : (b c : Block) → same_block b c ≡ true → b ≡ c
same_block-true b c h =
    let parts = and_parts (b.first == c.first) (b.size == c.size) h in
    let firsts = eqb-true b.first c.first parts.0 in
    let sizes = eqb-true b.size c.size parts.1 in
    let first : b ≡ record { first = c.first; size = b.size } = ap (λ n. record { first = n; size = b.size }) firsts in
    let second : record { first = c.first; size = b.size } ≡ c = ap (λ n. record { first = c.first; size = n }) sizes in
    first ∙ second

pub same_block-refl : (b : Block) → same_block b b ≡ true
same_block-refl b = rw (eq-eqb b.first b.first refl, eq-eqb b.size b.size refl) refl

-- blocks with different first addresses are not the same
same_block-below : (b c : Block) → b.first < c.first → same_block b c ≡ false
same_block-below b c low = and_left (b.first == c.first) (b.size == c.size) (ne_eqb b.first c.first (λ e. omega arith))

or_comm : (x y : Bool) → (x || y) ≡ (y || x)
or_comm true true = refl
or_comm true false = refl
or_comm false true = refl
or_comm false false = refl

-- to be apart is symmetric
pub blocks_apart-comm : (b c : Block) → blocks_apart b c ≡ blocks_apart c b
blocks_apart-comm b c = or_comm (nat_le (block_end b) c.first) (nat_le (block_end c) b.first)

-- a block that ends at or before another begins is apart from it
pub apart_below : (b c : Block) → block_end b ≤ c.first → blocks_apart b c ≡ true
apart_below b c low = or_left (nat_le (block_end b) c.first) (nat_le (block_end c) b.first) (le-leb (block_end b) c.first low)

pub apart_above : (b c : Block) → block_end c ≤ b.first → blocks_apart b c ≡ true
apart_above b c high = or_right (nat_le (block_end b) c.first) (nat_le (block_end c) b.first) (le-leb (block_end c) b.first high)

-- what apart means, for blocks of some bytes
pub apart_orders : (b c : Block) → blocks_apart b c ≡ true → b.first ≤ c.first → 1 ≤ c.size → block_end b ≤ c.first
apart_orders b c h order some =
    elim (or_cases (nat_le (block_end b) c.first) (nat_le (block_end c) b.first) h) [
      | inl low ↦ leb-true (block_end b) c.first low
      | inr high ↦ let k = leb-true (block_end c) b.first high in absurd (omega arith)
    ]

-- the block is some paged, begins at or behind x, and ends within the region
pub record IsPlaced (end x : ℕ) (c : Block) : Type 0 where
  pub low : x ≤ c.first
  pub paged : IsPaged c
  pub high : block_end c ≤ end

placed-lower : (end : ℕ) (x y : ℕ) (c : Block) → x ≤ y → IsPlaced end y c → IsPlaced end x c
placed-lower end x y c order h = let low = h.low in record { low = omega arith; paged = h.paged; high = h.high }

pub tiled-lower : (end : ℕ) (bs : List Block) (x y : ℕ) → x ≤ y → IsTiled end y bs → IsTiled end x bs
tiled-lower end [] x y order h = omega arith
tiled-lower end (b ∷ bs) x y order h = let low = h.0 in (omega arith, h.1, h.2)

-- tiled blocks begin within the region
pub tiled-end : (end : ℕ) (bs : List Block) (x : ℕ) → IsTiled end x bs → x ≤ end
tiled-end end [] x h = h
tiled-end end (b ∷ bs) x h = let low = h.0 in let rest : block_end b ≤ end = tiled-end end bs (block_end b) h.2 in omega arith

-- each of them is placed
pub tiled-member : (end : ℕ) (bs : List Block) (x : ℕ) (c : Block) → IsTiled end x bs → has_block bs c ≡ true → IsPlaced end x c
tiled-member end [] x c h among = absurd (false≢true among)
tiled-member end (b ∷ bs) x c h among =
    elim (or_cases (same_block c b) (has_block bs c) among) [
      | inl here ↦ subst (λ d. IsPlaced end x d) (sym (same_block-true c b here)) (record { low = h.0; paged = h.1; high = tiled-end end bs (block_end b) h.2 })
      | inr later ↦ let low = h.0 in placed-lower end x (block_end b) c (omega arith) (tiled-member end bs (block_end b) c h.2 later)
    ]

-- what holds of each placed block holds of each of them
pub tiled-all : (end : ℕ) (q : Block → Bool) (bs : List Block) (x : ℕ) → ((c : Block) → IsPlaced end x c → q c ≡ true) → IsTiled end x bs → list_all q bs ≡ true
tiled-all end q [] x each h = refl
tiled-all end q (b ∷ bs) x each h =
    let low = h.0 in
    and_from (q b) (list_all q bs) (each b (record { low = low; paged = h.1; high = tiled-end end bs (block_end b) h.2 }))
    (tiled-all end q bs (block_end b) (λ c placed. each c (placed-lower end x (block_end b) c (omega arith) placed)) h.2)

-- a tiled list stays tiled without a block
pub tiled-drop : (end : ℕ) (bs : List Block) (x : ℕ) (c : Block) → IsTiled end x bs → IsTiled end x (drop_block c bs)
tiled-drop end [] x c h = h
tiled-drop end (b ∷ bs) x c h =
    let rest = tiled-drop end bs (block_end b) c h.2 in
    let low = h.0 in
    cond_both (not (same_block c b)) (b ∷ drop_block c bs) (drop_block c bs) (λ l. IsTiled end x l)
    (λ _. (h.0, h.1, rest))
    (λ _. tiled-lower end (drop_block c bs) x (block_end b) (omega arith) rest)

-- and with one more that is placed and apart from each
pub tiled-add : (end : ℕ) (bs : List Block) (x : ℕ) (b : Block) → IsTiled end x bs → IsPlaced end x b → list_all (λ c. blocks_apart c b) bs ≡ true → IsTiled end x (add_block b bs)
unfolding insert_by
tiled-add end [] x b h placed apart = (placed.low, placed.paged, placed.high)
tiled-add end (c ∷ cs) x b h placed apart =
    let parts = and_parts (blocks_apart c b) (list_all (λ d. blocks_apart d b) cs) apart in
    let own = placed.paged.some in
    let other = h.1.some in
    cond_both (nat_lt b.first c.first) (b ∷ c ∷ cs) (c ∷ add_block b cs) (λ l. IsTiled end x l)
    (λ less.
    let k = ltb-true b.first c.first less in
    let below : block_end b ≤ c.first = apart_orders b c (blocks_apart-comm b c ∙ parts.0) (omega arith) (omega arith) in
    (placed.low, placed.paged, (below, h.1, h.2)))
    (λ not_less.
    let k = ltb-false b.first c.first not_less in
    let above : block_end c ≤ b.first = apart_orders c b parts.0 k (omega arith) in
    (h.0, h.1, tiled-add end cs (block_end c) b h.2 (record { low = above; paged = placed.paged; high = placed.high }) parts.1))

-- what holds of each and of one more holds of each when that is added
pub all-insert : {A : Type 0} (key : A → ℕ) (q : A → Bool) (xs : List A) (x : A) → q x ≡ true → list_all q xs ≡ true → list_all q (insert_by key x xs) ≡ true
unfolding insert_by
all-insert key q [] x own h = and_from (q x) true own refl
all-insert key q (y ∷ ys) x own h =
    let parts = and_parts (q y) (list_all q ys) h in
    cond_both (nat_lt (key x) (key y)) (x ∷ y ∷ ys) (y ∷ insert_by key x ys) (λ l. list_all q l ≡ true)
    (λ _. and_from (q x) (list_all q (y ∷ ys)) own h)
    (λ _. and_from (q y) (list_all q (insert_by key x ys)) parts.0 (all-insert key q ys x own parts.1))

-- a block that begins before all of them is none of them
drop-none : (end : ℕ) (bs : List Block) (x : ℕ) (c : Block) → IsTiled end x bs → c.first < x → drop_block c bs ≡ bs
drop-none end [] x c h below = refl
drop-none end (b ∷ bs) x c h below =
    let low = h.0 in
    cond-true (not (same_block c b)) (b ∷ drop_block c bs) (drop_block c bs) (ap not (same_block-below c b (omega arith)))
    ∙ ap (λ l. b ∷ l) (drop-none end bs (block_end b) c h.2 (omega arith))

-- the first of them is dropped alone
pub drop-first : (end : ℕ) (b : Block) (bs : List Block) (x : ℕ) → IsTiled end x (b ∷ bs) → drop_block b (b ∷ bs) ≡ bs
drop-first end b bs x h =
    let some = h.1.some in
    cond-false (not (same_block b b)) (b ∷ drop_block b bs) (drop_block b bs) (ap not (same_block-refl b))
    ∙ drop-none end bs (block_end b) b h.2 (omega arith)

-- another one leaves the first
pub drop-later : (end : ℕ) (b : Block) (bs : List Block) (x : ℕ) (c : Block) → IsTiled end x (b ∷ bs) → b.first < c.first → drop_block c (b ∷ bs) ≡ b ∷ drop_block c bs
drop-later end b bs x c h above =
    cond-true (not (same_block c b)) (b ∷ drop_block c bs) (drop_block c bs)
    (ap not (and_left (c.first == b.first) (c.size == b.size) (ne_eqb c.first b.first (λ e. omega arith))))
