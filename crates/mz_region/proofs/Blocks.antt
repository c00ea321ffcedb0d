-- Blocks, and the bits that stand for them.
use Rattle.std.proofs.Common.{◌≡◌, ℕ, zero, suc, ◌+◌, ◌-◌, ◌*◌, ◌<◌, ◌≤◌, ◌⊎◌, List, [], ◌∷◌, Bool, true, false, length, get_or, set, drop, refl, sym, ap, ◌∙◌, subst, inl, inr, mul-add, arith}
use Rattle.std.specs.Prelude.{nat_lt}
use Rattle.std.specs.List.{All}
use Rattle.std.proofs.lemmas.Bool.{lt-ltb, le-ltb, cases_Bool, cond-true, cond-false}
use Rattle.std.proofs.lemmas.List.Elements.{All-nil, All-cons, All-head, All-tail, All-weaker}
use Rattle.std.proofs.lemmas.List.{length-drop, get_or_default, drop_more, drop_all}
use Rattle.std.proofs.Math.Nat.{mul-le-mul_left}
use Rattle.mz_base.specs.Space.{Block, block_at, block_end}
use Rattle.mz_base.specs.Lists.{insert_by, add_block}
use Rattle.mz_bits.specs.Runs.{with_run}
use Rattle.mz_region.specs.Quanta.{rest_of, blocks_of, FitTogether}
use Rattle.mz_region.proofs.Runs.{Are, run_here, run_there, are_head, are_tail, are_there, are_cons, are_behind}

-- true and false are two
pub two : true ≡ false → ⊥
two e = cc

-- there are as many of both bits
pub fit_length : (p : Bool) (bs us : List Bool) → FitTogether p bs us → length bs ≡ length us
fit_length p [] [] f = refl
fit_length p [] (u ∷ us) f = absurd f
fit_length p (b ∷ bs) [] f = absurd f
fit_length p (b ∷ bs) (u ∷ us) f = ap suc (fit_length u bs us f.2)

-- behind an idle quantum no block goes on
pub rest_none : (bs us : List Bool) → FitTogether false bs us → rest_of bs us ≡ 0
unfolding rest_of
rest_none [] us f = refl
rest_none (b ∷ bs) [] f = refl
rest_none (true ∷ bs) (true ∷ us) f = refl
rest_none (true ∷ bs) (false ∷ us) f = refl
rest_none (false ∷ bs) (false ∷ us) f = refl
rest_none (false ∷ bs) (true ∷ us) f = absurd (two (sym (f.1 refl refl)))

-- a block ends at the latest where a quantum is idle
pub rest_below : (bs us : List Bool) (q : ℕ) → q < length us → get_or us q false ≡ false → rest_of bs us ≤ q
unfolding rest_of
rest_below [] us q within h = omega arith
rest_below (b ∷ bs) [] q within h = omega arith
rest_below (true ∷ bs) (true ∷ us) q within h = omega arith
rest_below (true ∷ bs) (false ∷ us) q within h = omega arith
rest_below (false ∷ bs) (false ∷ us) q within h = omega arith
rest_below (false ∷ bs) (true ∷ us) zero within h = absurd (two h)
rest_below (false ∷ bs) (true ∷ us) (suc q) within h = let deeper = rest_below bs us q (omega arith) h in omega arith

-- and within the bits
pub rest_within : (bs us : List Bool) → rest_of bs us ≤ length us
unfolding rest_of
rest_within [] us = omega arith
rest_within (b ∷ bs) [] = omega arith
rest_within (true ∷ bs) (true ∷ us) = omega arith
rest_within (true ∷ bs) (false ∷ us) = omega arith
rest_within (false ∷ bs) (false ∷ us) = omega arith
rest_within (false ∷ bs) (true ∷ us) = let deeper = rest_within bs us in omega arith

-- what goes on with a block is in use
pub rest_used : (bs us : List Bool) (m : ℕ) → rest_of bs us ≡ m → Are true us 0 (0 + m)
unfolding rest_of
rest_used bs us zero e = λ k d low high. absurd (omega arith)
rest_used [] us (suc m) e = absurd (omega arith)
rest_used (b ∷ bs) [] (suc m) e = absurd (omega arith)
rest_used (true ∷ bs) (true ∷ us) (suc m) e = absurd (omega arith)
rest_used (true ∷ bs) (false ∷ us) (suc m) e = absurd (omega arith)
rest_used (false ∷ bs) (false ∷ us) (suc m) e = absurd (omega arith)
rest_used (false ∷ bs) (true ∷ us) (suc m) e = are_cons true true us m refl (rest_used bs us m (omega arith))

-- how far a block reaches isn't changed by a block made behind it
rest_kept : (bs us : List Bool) (q n : ℕ) → q < length us → 1 ≤ n → get_or us q false ≡ false → rest_of (set bs q true) (with_run us q n true) ≡ rest_of bs us
unfolding rest_of
rest_kept [] us q n within some h = refl
rest_kept (b ∷ bs) [] q n within some h = absurd (omega arith)
rest_kept (b ∷ bs) (u ∷ us) q zero within some h = absurd (omega arith)
rest_kept (b ∷ bs) (true ∷ us) zero (suc n) within some h = absurd (two h)
rest_kept (b ∷ bs) (false ∷ us) zero (suc n) within some h = ap (λ l. rest_of (true ∷ bs) l) (run_here false us n true)
rest_kept (true ∷ bs) (true ∷ us) (suc q) (suc n) within some h = ap (λ l. rest_of (true ∷ set bs q true) l) (run_there true us q (suc n) true)
rest_kept (true ∷ bs) (false ∷ us) (suc q) (suc n) within some h = ap (λ l. rest_of (true ∷ set bs q true) l) (run_there false us q (suc n) true)
rest_kept (false ∷ bs) (false ∷ us) (suc q) (suc n) within some h = ap (λ l. rest_of (false ∷ set bs q true) l) (run_there false us q (suc n) true)
rest_kept (false ∷ bs) (true ∷ us) (suc q) (suc n) within some h =
    ap (λ l. rest_of (false ∷ set bs q true) l) (run_there true us q (suc n) true) ∙ ap (λ m. 1 + m) (rest_kept bs us q (suc n) (omega arith) some h)

-- idle quanta that are taken into a block go on with it, and end it
rest_filled : (bs us : List Bool) (m : ℕ) → m ≤ length us → FitTogether false bs us → Are false us 0 (0 + m) → rest_of bs (with_run us 0 m true) ≡ m
unfolding rest_of
rest_filled bs us zero within f h = rest_none bs us f
rest_filled [] [] (suc m) within f h = absurd (omega arith)
rest_filled [] (u ∷ us) (suc m) within f h = absurd f
rest_filled (b ∷ bs) [] (suc m) within f h = absurd f
rest_filled (b ∷ bs) (true ∷ us) (suc m) within f h = absurd (two (are_head false true us m h))
rest_filled (true ∷ bs) (false ∷ us) (suc m) within f h = absurd (two (sym (f.0 refl)))
rest_filled (false ∷ bs) (false ∷ us) (suc m) within f h =
    let deeper = rest_filled bs us m (omega arith) f.2 (are_tail false false us m h) in
    ap (λ l. rest_of (false ∷ bs) l) (run_here false us m true) ∙ ap (λ k. 1 + k) deeper ∙ omega arith

-- and change no other block
blocks_filled : (Q a : ℕ) (bs us : List Bool) (m : ℕ) → m ≤ length us → FitTogether false bs us → Are false us 0 (0 + m) → blocks_of Q a bs (with_run us 0 m true) ≡ blocks_of Q a bs us
unfolding blocks_of
blocks_filled Q a bs us zero within f h = refl
blocks_filled Q a [] [] (suc m) within f h = absurd (omega arith)
blocks_filled Q a [] (u ∷ us) (suc m) within f h = absurd f
blocks_filled Q a (b ∷ bs) [] (suc m) within f h = absurd f
blocks_filled Q a (b ∷ bs) (true ∷ us) (suc m) within f h = absurd (two (are_head false true us m h))
blocks_filled Q a (true ∷ bs) (false ∷ us) (suc m) within f h = absurd (two (sym (f.0 refl)))
blocks_filled Q a (false ∷ bs) (false ∷ us) (suc m) within f h =
    ap (λ l. blocks_of Q a (false ∷ bs) l) (run_here false us m true) ∙ blocks_filled Q (a + Q) bs us m (omega arith) f.2 (are_tail false false us m h)

-- a block that is below all of these comes first
insert_below : (Q a : ℕ) (bs us : List Bool) (x : Block) → x.first < a → add_block x (blocks_of Q a bs us) ≡ x ∷ blocks_of Q a bs us
unfolding blocks_of insert_by
insert_below Q a [] us x low = refl
insert_below Q a (b ∷ bs) [] x low = refl
insert_below Q a (true ∷ bs) (u ∷ us) x low = let e : nat_lt x.first a ≡ true = lt-ltb x.first a low in
    let rest = blocks_of Q (a + Q) bs us in
    let head = block_at a (Q * (1 + rest_of bs us)) in
    cond-true (nat_lt x.first a) (x ∷ head ∷ rest) (head ∷ insert_by (λ c. c.first) x rest) e
insert_below Q a (false ∷ bs) (u ∷ us) x low = insert_below Q (a + Q) bs us x (omega arith)

-- Idle quanta that are made a block are one more block.
pub blocks_added : (Q a : ℕ) (p : Bool) (bs us : List Bool) (q n x : ℕ) → x ≡ a + Q * q → 0 < Q → 1 ≤ n → q + n ≤ length us → FitTogether p bs us → Are false us q (q + n)
    → blocks_of Q a (set bs q true) (with_run us q n true) ≡ add_block (block_at x (Q * n)) (blocks_of Q a bs us)
unfolding blocks_of insert_by
blocks_added Q a p bs us q zero x at filled some within f h = absurd (omega arith)
blocks_added Q a p [] [] q (suc n) x at filled some within f h = absurd (omega arith)
blocks_added Q a p [] (u ∷ us) q (suc n) x at filled some within f h = absurd f
blocks_added Q a p (b ∷ bs) [] q (suc n) x at filled some within f h = absurd f
blocks_added Q a p (b ∷ bs) (true ∷ us) zero (suc n) x at filled some within f h = absurd (two (are_head false true us n h))
blocks_added Q a p (true ∷ bs) (false ∷ us) zero (suc n) x at filled some within f h = absurd (two (sym (f.0 refl)))
blocks_added Q a p (false ∷ bs) (false ∷ us) zero (suc n) x at filled some within f h =
    let here : x ≡ a = omega arith in
    let idle = are_tail false false us n h in
    let long : 1 + rest_of bs (with_run us 0 n true) ≡ suc n = ap (λ k. 1 + k) (rest_filled bs us n (omega arith) f.2 idle) ∙ omega arith in
    let others = blocks_filled Q (a + Q) bs us n (omega arith) f.2 idle in
    ap (λ l. blocks_of Q a (true ∷ bs) l) (run_here false us n true)
    ∙ ap (λ k. block_at a (Q * k) ∷ blocks_of Q (a + Q) bs (with_run us 0 n true)) long
    ∙ ap (λ l. block_at a (Q * suc n) ∷ l) others
    ∙ ap (λ y. block_at y (Q * suc n) ∷ blocks_of Q (a + Q) bs us) (sym here)
    ∙ sym (insert_below Q (a + Q) bs us (block_at x (Q * suc n)) (omega arith))
blocks_added Q a p (false ∷ bs) (u ∷ us) (suc q) (suc n) x at filled some within f h =
    ap (λ l. blocks_of Q a (false ∷ set bs q true) l) (run_there u us q (suc n) true)
    ∙ blocks_added Q (a + Q) u bs us q (suc n) x (omega arith) filled some (omega arith) f.2 (are_there false u us q (suc n) h)
blocks_added Q a p (true ∷ bs) (u ∷ us) (suc q) (suc n) x at filled some within f h =
    let kept = rest_kept bs us q (suc n) (omega arith) some (h (suc q) false (omega arith) (omega arith)) in
    let later = blocks_added Q (a + Q) u bs us q (suc n) x (omega arith) filled some (omega arith) f.2 (are_there false u us q (suc n) h) in
    let head = block_at a (Q * (1 + rest_of bs us)) in
    let rest = blocks_of Q (a + Q) bs us in
    let above : nat_lt x a ≡ false = le-ltb x a (omega arith) in
    ap (λ l. blocks_of Q a (true ∷ set bs q true) l) (run_there u us q (suc n) true)
    ∙ ap (λ k. block_at a (Q * (1 + k)) ∷ blocks_of Q (a + Q) (set bs q true) (with_run us q (suc n) true)) kept
    ∙ ap (λ l. head ∷ l) later
    ∙ sym (cond-false (nat_lt x a) (block_at x (Q * suc n) ∷ head ∷ rest) (head ∷ insert_by (λ c. c.first) (block_at x (Q * suc n)) rest) above)

-- the bits still fit together
fit_behind_used : (bs us : List Bool) → FitTogether false bs us → FitTogether true bs us
fit_behind_used [] [] f = tt
fit_behind_used [] (u ∷ us) f = f
fit_behind_used (b ∷ bs) [] f = f
fit_behind_used (b ∷ bs) (u ∷ us) f = (f.0, (λ used none. refl), f.2)

fit_filled : (bs us : List Bool) (m : ℕ) → m ≤ length us → FitTogether false bs us → Are false us 0 (0 + m) → FitTogether true bs (with_run us 0 m true)
fit_filled bs us zero within f h = fit_behind_used bs us f
fit_filled [] [] (suc m) within f h = absurd (omega arith)
fit_filled [] (u ∷ us) (suc m) within f h = absurd f
fit_filled (b ∷ bs) [] (suc m) within f h = absurd f
fit_filled (b ∷ bs) (true ∷ us) (suc m) within f h = absurd (two (are_head false true us m h))
fit_filled (true ∷ bs) (false ∷ us) (suc m) within f h = absurd (two (sym (f.0 refl)))
fit_filled (false ∷ bs) (false ∷ us) (suc m) within f h =
    subst (FitTogether true (false ∷ bs)) (sym (run_here false us m true))
    ((λ e. refl), (λ used none. refl), fit_filled bs us m (omega arith) f.2 (are_tail false false us m h))

pub fit_added : (p : Bool) (bs us : List Bool) (q n : ℕ) → 1 ≤ n → q + n ≤ length us → FitTogether p bs us → Are false us q (q + n) → FitTogether p (set bs q true) (with_run us q n true)
fit_added p bs us q zero some within f h = absurd (omega arith)
fit_added p [] [] q (suc n) some within f h = absurd (omega arith)
fit_added p [] (u ∷ us) q (suc n) some within f h = absurd f
fit_added p (b ∷ bs) [] q (suc n) some within f h = absurd f
fit_added p (b ∷ bs) (true ∷ us) zero (suc n) some within f h = absurd (two (are_head false true us n h))
fit_added p (b ∷ bs) (false ∷ us) zero (suc n) some within f h =
    subst (FitTogether p (true ∷ bs)) (sym (run_here false us n true))
    ((λ e. refl), (λ used none. absurd (two none)), fit_filled bs us n (omega arith) f.2 (are_tail false false us n h))
fit_added p (b ∷ bs) (u ∷ us) (suc q) (suc n) some within f h =
    subst (FitTogether p (b ∷ set bs q true)) (sym (run_there u us q (suc n) true))
    (f.0, f.1, fit_added u bs us q (suc n) some (omega arith) f.2 (are_there false u us q (suc n) h))

-- and where a block's quanta are made idle
fit_emptied : (bs us : List Bool) (m : ℕ) → FitTogether true bs us → rest_of bs us ≡ m → FitTogether false bs (with_run us 0 m false)
unfolding rest_of
fit_emptied [] [] zero f e = tt
fit_emptied [] (u ∷ us) m f e = absurd f
fit_emptied (b ∷ bs) [] m f e = absurd f
fit_emptied [] [] (suc m) f e = absurd (omega arith)
fit_emptied (true ∷ bs) (u ∷ us) zero f e = (f.0, (λ used none. absurd (two none)), f.2)
fit_emptied (false ∷ bs) (false ∷ us) zero f e = (f.0, (λ used none. used), f.2)
fit_emptied (false ∷ bs) (true ∷ us) zero f e = absurd (omega arith)
fit_emptied (true ∷ bs) (true ∷ us) (suc m) f e = absurd (omega arith)
fit_emptied (true ∷ bs) (false ∷ us) (suc m) f e = absurd (omega arith)
fit_emptied (false ∷ bs) (false ∷ us) (suc m) f e = absurd (omega arith)
fit_emptied (false ∷ bs) (true ∷ us) (suc m) f e =
    subst (FitTogether false (false ∷ bs)) (sym (run_here true us m false))
    ((λ none. none), (λ used none. used), fit_emptied bs us m f.2 (omega arith))

-- how many quanta the block that begins at the q-th has
abbrev pub block_quanta : List Bool → List Bool → ℕ → ℕ
block_quanta bs us q = 1 + rest_of (drop (suc q) bs) (drop (suc q) us)

pub fit_cleared : (p : Bool) (bs us : List Bool) (q n : ℕ) → FitTogether p bs us → q < length bs → get_or bs q false ≡ true → block_quanta bs us q ≡ n → FitTogether p (set bs q false) (with_run us q n false)
fit_cleared p bs us q zero f within b e = absurd (omega arith)
fit_cleared p [] us q (suc n) f within b e = absurd (omega arith)
fit_cleared p (b ∷ bs) [] q (suc n) f within set' e = absurd f
fit_cleared p (false ∷ bs) (u ∷ us) zero (suc n) f within begun e = absurd (two (sym begun))
fit_cleared p (true ∷ bs) (false ∷ us) zero (suc n) f within begun e = absurd (two (sym (f.0 refl)))
fit_cleared p (true ∷ bs) (true ∷ us) zero (suc n) f within begun e =
    subst (FitTogether p (false ∷ bs)) (sym (run_here true us n false))
    ((λ none. none), (λ used none. absurd (two (sym used))), fit_emptied bs us n f.2 (omega arith))
fit_cleared p (b ∷ bs) (u ∷ us) (suc q) (suc n) f within begun e =
    subst (FitTogether p (b ∷ set bs q false)) (sym (run_there u us q (suc n) false))
    (f.0, f.1, fit_cleared u bs us q (suc n) f.2 (omega arith) begun e)

-- a block's quanta are in use, and there
pub block_used : (p : Bool) (bs us : List Bool) (q n : ℕ) → FitTogether p bs us → q < length bs → get_or bs q false ≡ true → block_quanta bs us q ≡ n → Are true us q (q + n)
block_used p bs us q zero f within begun e = absurd (omega arith)
block_used p [] us q (suc n) f within begun e = absurd (omega arith)
block_used p (b ∷ bs) [] q (suc n) f within begun e = absurd f
block_used p (false ∷ bs) (u ∷ us) zero (suc n) f within begun e = absurd (two (sym begun))
block_used p (true ∷ bs) (u ∷ us) zero (suc n) f within begun e = are_cons true u us n (f.0 refl) (rest_used bs us n (omega arith))
block_used p (b ∷ bs) (u ∷ us) (suc q) (suc n) f within begun e = are_behind true u us q (suc n) (block_used u bs us q (suc n) f.2 (omega arith) begun e)

pub block_within : (bs us : List Bool) (q : ℕ) → q < length us → q + block_quanta bs us q ≤ length us
block_within bs us q h =
    let low = rest_within (drop (suc q) bs) (drop (suc q) us) in
    let long : length (drop (suc q) us) ≡ length us - suc q = length-drop (suc q) us in
    omega arith

-- the blocks that are left are apart from quanta that are idle
blocks_above : (Q a : ℕ) (bs us : List Bool) (y : ℕ) → y ≤ a → All (λ b. y ≤ b.first) (blocks_of Q a bs us)
unfolding blocks_of
blocks_above Q a [] us y low = All-nil (λ b. y ≤ b.first)
blocks_above Q a (b ∷ bs) [] y low = All-nil (λ b. y ≤ b.first)
blocks_above Q a (true ∷ bs) (u ∷ us) y low = All-cons (λ b. y ≤ b.first) (block_at a (Q * (1 + rest_of bs us))) (blocks_of Q (a + Q) bs us) low (blocks_above Q (a + Q) bs us y (omega arith))
blocks_above Q a (false ∷ bs) (u ∷ us) y low = blocks_above Q (a + Q) bs us y (omega arith)

blocks_behind : (Q a : ℕ) (p : Bool) (bs us : List Bool) (n y : ℕ) → y ≡ a + Q * n → n ≤ length us → FitTogether p bs us → Are false us 0 (0 + n) → All (λ b. y ≤ b.first) (blocks_of Q a bs us)
unfolding blocks_of
blocks_behind Q a p bs us zero y e within f h = blocks_above Q a bs us y (omega arith)
blocks_behind Q a p [] us (suc n) y e within f h = All-nil (λ b. y ≤ b.first)
blocks_behind Q a p (b ∷ bs) [] (suc n) y e within f h = absurd f
blocks_behind Q a p (b ∷ bs) (true ∷ us) (suc n) y e within f h = absurd (two (are_head false true us n h))
blocks_behind Q a p (true ∷ bs) (false ∷ us) (suc n) y e within f h = absurd (two (sym (f.0 refl)))
blocks_behind Q a p (false ∷ bs) (false ∷ us) (suc n) y e within f h = blocks_behind Q (a + Q) false bs us n y (omega arith) (omega arith) f.2 (are_tail false false us n h)

-- each block ends at or before x, or begins at or behind y
abbrev pub Miss : ℕ → ℕ → Block → Type 0
Miss x y b = (block_end b ≤ x) ⊎ (y ≤ b.first)

pub idle_apart : (Q a : ℕ) (p : Bool) (bs us : List Bool) (q n x y : ℕ) → x ≡ a + Q * q → y ≡ x + Q * n → 1 ≤ n → q + n ≤ length us → FitTogether p bs us → Are false us q (q + n) → All (Miss x y) (blocks_of Q a bs us)
unfolding blocks_of
idle_apart Q a p bs us zero n x y at end some within f h =
    All-weaker (λ b. y ≤ b.first) (Miss x y) (λ b low. inr low) (blocks_of Q a bs us) (blocks_behind Q a p bs us n y (omega arith) (omega arith) f h)
idle_apart Q a p [] us (suc q) n x y at end some within f h = All-nil (Miss x y)
idle_apart Q a p (b ∷ bs) [] (suc q) n x y at end some within f h = absurd f
idle_apart Q a p (false ∷ bs) (u ∷ us) (suc q) n x y at end some within f h =
    idle_apart Q (a + Q) u bs us q n x y (omega arith) end some (omega arith) f.2 (are_there false u us q n h)
idle_apart Q a p (true ∷ bs) (u ∷ us) (suc q) n x y at end some within f h =
    let short = rest_below bs us q (omega arith) (h (suc q) false (omega arith) (omega arith)) in
    let low : Q * (1 + rest_of bs us) ≤ Q * suc q = mul-le-mul_left Q (omega arith) in
    All-cons (Miss x y) (block_at a (Q * (1 + rest_of bs us))) (blocks_of Q (a + Q) bs us) (inl (omega arith))
    (idle_apart Q (a + Q) u bs us q n x y (omega arith) end some (omega arith) f.2 (are_there false u us q n h))

-- A quantum that is in use goes on with the block that begins before these, or lies in one of them.
pub covered : (Q a : ℕ) (p : Bool) (bs us : List Bool) (k : ℕ) → 0 < Q → FitTogether p bs us → k < length us → get_or us k false ≡ true → (P : Block → Type 0) → All P (blocks_of Q a bs us)
    → (k < rest_of bs us) ⊎ ((b : Block) × P b × (b.first ≤ a + Q * k) × (a + Q * k + Q ≤ block_end b))
unfolding rest_of blocks_of
covered Q a p [] [] k filled f within used P each = absurd (omega arith)
covered Q a p [] (u ∷ us) k filled f within used P each = absurd f
covered Q a p (b ∷ bs) [] k filled f within used P each = absurd f
covered Q a p (b ∷ bs) (false ∷ us) zero filled f within used P each = absurd (two (sym used))
covered Q a p (false ∷ bs) (true ∷ us) zero filled f within used P each = inl (omega arith)
covered Q a p (true ∷ bs) (true ∷ us) zero filled f within used P each =
    let head = block_at a (Q * (1 + rest_of bs us)) in
    let long : Q * 1 ≤ Q * (1 + rest_of bs us) = mul-le-mul_left Q (omega arith) in
    inr (head, All-head P head (blocks_of Q (a + Q) bs us) each, omega arith, omega arith)
covered Q a p (false ∷ bs) (u ∷ us) (suc k) filled f within used P each =
    elim (covered Q (a + Q) u bs us k filled f.2 (omega arith) used P each) [
      | inl more ↦ goes_on u f.2 more
      | inr found ↦ let low = found.2 in let high = found.3 in inr (found.0, found.1, omega arith, omega arith)
    ]
  where
    goes_on : (u : Bool) → FitTogether u bs us → k < rest_of bs us → (suc k < rest_of (false ∷ bs) (u ∷ us)) ⊎ ((b : Block) × P b × (b.first ≤ a + Q * suc k) × (a + Q * suc k + Q ≤ block_end b))
    goes_on true g more = inl (omega arith)
    goes_on false g more = let none = rest_none bs us g in absurd (omega arith)
covered Q a p (true ∷ bs) (u ∷ us) (suc k) filled f within used P each =
    let head = block_at a (Q * (1 + rest_of bs us)) in
    let rest = blocks_of Q (a + Q) bs us in
    elim (covered Q (a + Q) u bs us k filled f.2 (omega arith) used P (All-tail P head rest each)) [
      | inl more ↦
          let long : Q * (suc k + 1) ≤ Q * (1 + rest_of bs us) = mul-le-mul_left Q (omega arith) in
          let parts : Q * (suc k + 1) ≡ Q * suc k + Q * 1 = mul-add Q (suc k) 1 in
          inr (head, All-head P head rest each, omega arith, omega arith)
      | inr found ↦ let low = found.2 in let high = found.3 in inr (found.0, found.1, omega arith, omega arith)
    ]

-- So quanta that no block meets are idle.
pub apart_idle : (Q a : ℕ) (bs us : List Bool) (q n x y : ℕ) → 0 < Q → x ≡ a + Q * q → y ≡ x + Q * n → q + n ≤ length us → FitTogether false bs us → All (Miss x y) (blocks_of Q a bs us) → Are false us q (q + n)
apart_idle Q a bs us q n x y filled at end within f each k d low high =
    elim (cases_Bool (get_or us k false)) [
      | inr idle ↦ get_or_default us k d false (omega arith) ∙ idle
      | inl used ↦ elim (covered Q a false bs us k filled f (omega arith) used (Miss x y) each) [
        | inl more ↦ let none = rest_none bs us f in absurd (omega arith)
        | inr found ↦
            let above : Q * q ≤ Q * k = mul-le-mul_left Q low in
            let below : Q * (k + 1) ≤ Q * (q + n) = mul-le-mul_left Q (omega arith) in
            let parts : Q * (k + 1) ≡ Q * k + Q * 1 = mul-add Q k 1 in
            let wholes : Q * (q + n) ≡ Q * q + Q * n = mul-add Q q n in
            let from = found.2 in
            let to = found.3 in
            elim found.1 [ inl before ↦ absurd (omega arith) | inr behind ↦ absurd (omega arith) ]
      ]
    ]

-- one quantum more, and where a block ends
pub rest_more : (bs us : List Bool) (i : ℕ) → i < length bs → i < length us → get_or us i false ≡ true → get_or bs i false ≡ false → rest_of (drop i bs) (drop i us) ≡ 1 + rest_of (drop (i + 1) bs) (drop (i + 1) us)
unfolding rest_of
rest_more bs us i low within used none =
    ap (λ l. rest_of l (drop i us)) (drop_more bs i false low) ∙ ap (λ l. rest_of (get_or bs i false ∷ drop (i + 1) bs) l) (drop_more us i false within)
    ∙ ap (λ b. rest_of (b ∷ drop (i + 1) bs) (get_or us i false ∷ drop (i + 1) us)) none ∙ ap (λ u. rest_of (false ∷ drop (i + 1) bs) (u ∷ drop (i + 1) us)) used

pub rest_ends : (bs us : List Bool) (i : ℕ) → length us ≤ i → rest_of (drop i bs) (drop i us) ≡ 0
unfolding rest_of
rest_ends bs us i past = ap (λ l. rest_of (drop i bs) l) (drop_all i us past) ∙ none (drop i bs)
  where
    none : (l : List Bool) → rest_of l [] ≡ 0
    none [] = refl
    none (b ∷ l) = refl

pub rest_idle : (bs us : List Bool) (i : ℕ) → i < length us → get_or us i false ≡ false → rest_of (drop i bs) (drop i us) ≡ 0
unfolding rest_of
rest_idle bs us i within idle =
    ap (λ l. rest_of (drop i bs) l) (drop_more us i false within) ∙ ap (λ u. rest_of (drop i bs) (u ∷ drop (i + 1) us)) idle ∙ none (drop i bs) (drop (i + 1) us)
  where
    none : (l m : List Bool) → rest_of l (false ∷ m) ≡ 0
    none [] m = refl
    none (true ∷ l) m = refl
    none (false ∷ l) m = refl

pub rest_begins : (bs us : List Bool) (i : ℕ) → i < length bs → get_or bs i false ≡ true → rest_of (drop i bs) (drop i us) ≡ 0
unfolding rest_of
rest_begins bs us i within begun =
    ap (λ l. rest_of l (drop i us)) (drop_more bs i false within) ∙ ap (λ b. rest_of (b ∷ drop (i + 1) bs) (drop i us)) begun ∙ none (drop (i + 1) bs) (drop i us)
  where
    none : (l m : List Bool) → rest_of (true ∷ l) m ≡ 0
    none l [] = refl
    none l (true ∷ m) = refl
    none l (false ∷ m) = refl
