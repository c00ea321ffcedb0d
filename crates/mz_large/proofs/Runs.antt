-- The blocks of all runs: one more, one fewer, and that each is apart from the others.
use Rattle.std.proofs.Common.{◌≡◌, ℕ, ◌+◌, ◌*◌, ◌/◌, ◌<◌, ◌≤◌, Bool, true, false, List, [], ◌∷◌, ◌++◌, map, refl, ap, sym, subst, ◌∙◌, inl, inr, arith}
use Rattle.std.specs.Prelude.{◌==◌, nat_le, nat_lt}
use Rattle.std.specs.List.{All, list_all}
use Rattle.std.proofs.lemmas.Bool.{and_parts, and_from, and_left, or_cases, or_left, or_right, cases_Bool, false≢true, leb-true, ltb-true, ltb-false, lt-ltb, le-ltb, ne_eqb, cond-true, cond-false, cond_both}
use Rattle.std.proofs.lemmas.Nat.{div-add-mod'}
use Rattle.std.proofs.lemmas.List.Elements.{All-nil, All-cons, All-head, All-tail}
use Rattle.mz_base.specs.declared.range.TheConstants.{PAGE}
use Rattle.mz_base.specs.Space.{Block, block_end, blocks_apart, runs_apart, same_block, bytes_of}
use Rattle.mz_base.specs.Lists.{insert_by, has_block, add_block, drop_block, add_run}
use Rattle.mz_ground.specs.Views.{SpanView}
use Rattle.mz_events.specs.Changes.{run_of}
use Rattle.mz_large.specs.Blocks.{IsPaged, IsTiled}
use Rattle.mz_large.specs.Large.{block_of, all_blocks}
use Rattle.mz_large.proofs.Tiled.{tiled-all, tiled-lower, tiled-member, drop-first, drop-later, apart_below, apart_above, same_block-true, same_block-refl}

pub add-here : (b c : Block) (cs : List Block) → b.first < c.first → add_block b (c ∷ cs) ≡ b ∷ c ∷ cs
unfolding insert_by
add-here b c cs low = cond-true (nat_lt b.first c.first) (b ∷ c ∷ cs) (c ∷ add_block b cs) (lt-ltb b.first c.first low)

pub add-later : (b c : Block) (cs : List Block) → c.first ≤ b.first → add_block b (c ∷ cs) ≡ c ∷ add_block b cs
unfolding insert_by
add-later b c cs high = cond-false (nat_lt b.first c.first) (b ∷ c ∷ cs) (c ∷ add_block b cs) (le-ltb b.first c.first high)

pub add-nil : (b : Block) → add_block b [] ≡ b ∷ []
unfolding insert_by
add-nil b = refl

-- two are added in either order, the lower one named first
add-two : (b c : Block) (bs : List Block) → b.first < c.first → add_block b (add_block c bs) ≡ add_block c (add_block b bs)
add-two b c [] low =
    ap (add_block b) (add-nil c) ∙ add-here b c [] low ∙ ap (λ l. b ∷ l) (sym (add-nil c)) ∙ sym (add-later c b [] (omega arith)) ∙ ap (add_block c) (sym (add-nil b))
add-two b c (d ∷ ds) low =
    elim (cases_Bool (nat_lt b.first d.first)) [
      | inl below ↦
          let under = ltb-true b.first d.first below in
          let right : add_block c (add_block b (d ∷ ds)) ≡ b ∷ add_block c (d ∷ ds) = ap (add_block c) (add-here b d ds under) ∙ add-later c b (d ∷ ds) (omega arith) in
          elim (cases_Bool (nat_lt c.first d.first)) [
            | inl before ↦
                let under_c = ltb-true c.first d.first before in
                ap (add_block b) (add-here c d ds under_c) ∙ add-here b c (d ∷ ds) low ∙ ap (λ l. b ∷ l) (sym (add-here c d ds under_c)) ∙ sym right
            | inr behind ↦
                let over_c = ltb-false c.first d.first behind in
                ap (add_block b) (add-later c d ds over_c) ∙ add-here b d (add_block c ds) under ∙ ap (λ l. b ∷ l) (sym (add-later c d ds over_c)) ∙ sym right
          ]
      | inr above ↦
          let over = ltb-false b.first d.first above in
          ap (add_block b) (add-later c d ds (omega arith)) ∙ add-later b d (add_block c ds) over ∙ ap (λ l. d ∷ l) (add-two b c ds low)
          ∙ sym (add-later c d (add_block b ds) (omega arith)) ∙ ap (add_block c) (sym (add-later b d ds over))
    ]

pub add-comm : (b c : Block) (bs : List Block) → (b.first ≡ c.first → ⊥) → add_block b (add_block c bs) ≡ add_block c (add_block b bs)
add-comm b c bs other =
    elim (cases_Bool (nat_lt b.first c.first)) [
      | inl low ↦ add-two b c bs (ltb-true b.first c.first low)
      | inr high ↦ let k = ltb-false b.first c.first high in sym (add-two c b bs (ne_less c.first b.first k other))
    ]
  where
    ne_less : (x y : ℕ) → x ≤ y → (y ≡ x → ⊥) → x < y
    ne_less x y order differs = omega arith

-- a live block more is a run's block more
pub all-add : (live : List Block) (cs : List SpanView) (b : Block) → All (λ s. b.first ≡ s.first → ⊥) cs → all_blocks (add_block b live) cs ≡ add_block b (all_blocks live cs)
all-add live [] b other = refl
all-add live (s ∷ ss) b other =
    let P : SpanView → Type 0 = λ t. b.first ≡ t.first → ⊥ in
    ap (λ l. all_blocks l ss) (sym (add-comm b (block_of s) live (All-head P s ss other))) ∙ all-add (add_block (block_of s) live) ss b (All-tail P s ss other)

-- and so is a cached one
pub all-cached : (live : List Block) (front : List SpanView) (s : SpanView) (back : List SpanView) → All (λ t. s.first ≡ t.first → ⊥) back → all_blocks live (front ++ s ∷ back) ≡ add_block (block_of s) (all_blocks live (front ++ back))
all-cached live [] s back other = all-add live back (block_of s) other
all-cached live (t ∷ ts) s back other = all-cached (add_block (block_of t) live) ts s back other

-- it is there, and so are the others
pub has-added : (b : Block) (bs : List Block) → has_block (add_block b bs) b ≡ true
unfolding insert_by
has-added b [] = or_left (same_block b b) false (same_block-refl b)
has-added b (c ∷ cs) =
    cond_both (nat_lt b.first c.first) (b ∷ c ∷ cs) (c ∷ add_block b cs) (λ l. has_block l b ≡ true)
    (λ _. or_left (same_block b b) (has_block (c ∷ cs) b) (same_block-refl b))
    (λ _. or_right (same_block b c) (has_block (add_block b cs) b) (has-added b cs))

pub has-still : (e b : Block) (bs : List Block) → has_block bs e ≡ true → has_block (add_block b bs) e ≡ true
unfolding insert_by
has-still e b [] h = absurd (false≢true h)
has-still e b (c ∷ cs) h =
    cond_both (nat_lt b.first c.first) (b ∷ c ∷ cs) (c ∷ add_block b cs) (λ l. has_block l e ≡ true)
    (λ _. or_right (same_block e b) (has_block (c ∷ cs) e) h)
    (λ _. elim (or_cases (same_block e c) (has_block cs e) h) [
      | inl here ↦ or_left (same_block e c) (has_block (add_block b cs) e) here
      | inr later ↦ or_right (same_block e c) (has_block (add_block b cs) e) (has-still e b cs later)
    ])

-- one that was added to tiled blocks is apart from each of the others
pub added-apart : (end x : ℕ) (b : Block) (bs : List Block) → IsTiled end x (add_block b bs) → (list_all (λ c. blocks_apart c b) bs ≡ true) × IsTiled end x bs
added-apart end x b [] h = let low = (subst (λ l. IsTiled end x l) (add-nil b) h) in let first = low.0 in let most = low.2 in (refl, omega arith)
added-apart end x b (c ∷ cs) h =
    elim (cases_Bool (nat_lt b.first c.first)) [
      | inl below ↦
          let parts : IsTiled end x (b ∷ c ∷ cs) = subst (λ l. IsTiled end x l) (add-here b c cs (ltb-true b.first c.first below)) h in
          let first = parts.0 in
          (tiled-all end (λ d. blocks_apart d b) (c ∷ cs) (block_end b) (λ d placed. apart_above d b placed.low) parts.2, tiled-lower end (c ∷ cs) x (block_end b) (omega arith) parts.2)
      | inr above ↦
          let parts : IsTiled end x (c ∷ add_block b cs) = subst (λ l. IsTiled end x l) (add-later b c cs (ltb-false b.first c.first above)) h in
          let rest = added-apart end (block_end c) b cs parts.2 in
          let behind = (tiled-member end (add_block b cs) (block_end c) b parts.2 (has-added b cs)).low in
          (and_from (blocks_apart c b) (list_all (λ d. blocks_apart d b) cs) (apart_below c b behind) rest.0, (parts.0, parts.1, rest.1))
    ]

-- what holds of all blocks that are tested holds of one of them
pub of-one : (q : Block → Bool) (bs : List Block) (e : Block) → list_all q bs ≡ true → has_block bs e ≡ true → q e ≡ true
of-one q [] e h among = absurd (false≢true among)
of-one q (c ∷ cs) e h among =
    let parts = and_parts (q c) (list_all q cs) h in
    elim (or_cases (same_block e c) (has_block cs e) among) [
      | inl here ↦ ap q (same_block-true e c here) ∙ parts.0
      | inr later ↦ of-one q cs e parts.1 later
    ]

-- the live blocks are tiled where the blocks of all runs are
pub live-tiled : (end : ℕ) (live : List Block) (cs : List SpanView) → IsTiled end 0 (all_blocks live cs) → IsTiled end 0 live
live-tiled end live [] h = h
live-tiled end live (s ∷ ss) h = (added-apart end 0 (block_of s) live (live-tiled end (add_block (block_of s) live) ss h)).1

-- and each is apart from each cached run
pub cached-apart : (end : ℕ) (live : List Block) (cs : List SpanView) (e : Block) → IsTiled end 0 (all_blocks live cs) → has_block live e ≡ true → All (λ s. blocks_apart e (block_of s) ≡ true) cs
cached-apart end live [] e h among = All-nil (λ (s : SpanView). blocks_apart e (block_of s) ≡ true)
cached-apart end live (s ∷ ss) e h among =
    let here = (added-apart end 0 (block_of s) live (live-tiled end (add_block (block_of s) live) ss h)).0 in
    All-cons (λ (t : SpanView). blocks_apart e (block_of t) ≡ true) s ss (of-one (λ c. blocks_apart c (block_of s)) live e here among)
    (cached-apart end (add_block (block_of s) live) ss e h (has-still e (block_of s) live among))

-- blocks of some bytes that are apart begin at different addresses
pub apart-differ : (b c : Block) → 1 ≤ b.size → 1 ≤ c.size → blocks_apart b c ≡ true → b.first ≡ c.first → ⊥
apart-differ b c own other h same =
    elim (or_cases (nat_le (block_end b) c.first) (nat_le (block_end c) b.first) h) [
      | inl low ↦ let k = leb-true (block_end b) c.first low in absurd (omega arith)
      | inr high ↦ let k = leb-true (block_end c) b.first high in absurd (omega arith)
    ]

-- runs compare as their blocks do
first-less : (b c : Block) → IsPaged b → IsPaged c → nat_lt (b.first / PAGE) (c.first / PAGE) ≡ nat_lt b.first c.first
first-less b c own other =
    let x = own.first in
    let y = other.first in
    elim (cases_Bool (nat_lt b.first c.first)) [
      | inl low ↦ let k = ltb-true b.first c.first low in lt-ltb (b.first / PAGE) (c.first / PAGE) (omega (arith, div-add-mod' b.first PAGE, div-add-mod' c.first PAGE)) ∙ sym low
      | inr high ↦ let k = ltb-false b.first c.first high in le-ltb (b.first / PAGE) (c.first / PAGE) (omega (arith, div-add-mod' b.first PAGE, div-add-mod' c.first PAGE)) ∙ sym high
    ]

-- the run of a block more is a run more
pub runs-added : (end x : ℕ) (b : Block) (bs : List Block) → IsPaged b → IsTiled end x bs → map run_of (add_block b bs) ≡ add_run (run_of b) (map run_of bs)
unfolding insert_by
runs-added end x b [] own h = refl
runs-added end x b (c ∷ cs) own h =
    let less = first-less b c own h.1 in
    elim (cases_Bool (nat_lt b.first c.first)) [
      | inl low ↦
          ap (map run_of) (cond-true (nat_lt b.first c.first) (b ∷ c ∷ cs) (c ∷ add_block b cs) low)
          ∙ sym (cond-true (nat_lt (b.first / PAGE) (c.first / PAGE)) (run_of b ∷ map run_of (c ∷ cs)) (run_of c ∷ add_run (run_of b) (map run_of cs)) (less ∙ low))
      | inr high ↦
          ap (map run_of) (cond-false (nat_lt b.first c.first) (b ∷ c ∷ cs) (c ∷ add_block b cs) high) ∙ ap (λ l. run_of c ∷ l) (runs-added end (block_end c) b cs own h.2)
          ∙ sym (cond-false (nat_lt (b.first / PAGE) (c.first / PAGE)) (run_of b ∷ map run_of (c ∷ cs)) (run_of c ∷ add_run (run_of b) (map run_of cs)) (less ∙ high))
    ]

-- a run of whole pages is its bytes again
pub whole-bytes : (b : Block) → IsPaged b → bytes_of (run_of b) ≡ b
whole-bytes b own =
    let x = own.first in
    let y = own.size in
    let first : b.first / PAGE * PAGE ≡ b.first = omega (arith, div-add-mod' b.first PAGE) in
    let size : b.size / PAGE * PAGE ≡ b.size = omega (arith, div-add-mod' b.size PAGE) in
    ap (λ n. record { first = n; size = b.size / PAGE * PAGE }) first ∙ ap (λ n. record { first = b.first; size = n }) size

-- what is tested of the blocks of all runs is tested of the live ones and of the cached ones
pub of-added : (q : Block → Bool) (b : Block) (bs : List Block) → list_all q (add_block b bs) ≡ true → (q b ≡ true) × (list_all q bs ≡ true)
unfolding insert_by
of-added q b [] h = ((and_parts (q b) true h).0, refl)
of-added q b (c ∷ cs) h =
    elim (cases_Bool (nat_lt b.first c.first)) [
      | inl low ↦ and_parts (q b) (list_all q (c ∷ cs)) (subst (λ l. list_all q l ≡ true) (cond-true (nat_lt b.first c.first) (b ∷ c ∷ cs) (c ∷ add_block b cs) low) h)
      | inr high ↦
          let parts = and_parts (q c) (list_all q (add_block b cs)) (subst (λ l. list_all q l ≡ true) (cond-false (nat_lt b.first c.first) (b ∷ c ∷ cs) (c ∷ add_block b cs) high) h) in
          let rest = of-added q b cs parts.1 in
          (rest.0, and_from (q c) (list_all q cs) parts.0 rest.1)
    ]

pub of-live : (q : Block → Bool) (live : List Block) (cs : List SpanView) → list_all q (all_blocks live cs) ≡ true → list_all q live ≡ true
of-live q live [] h = h
of-live q live (s ∷ ss) h = (of-added q (block_of s) live (of-live q (add_block (block_of s) live) ss h)).1

pub of-cached : (q : Block → Bool) (live : List Block) (cs : List SpanView) → list_all q (all_blocks live cs) ≡ true → All (λ s. q (block_of s) ≡ true) cs
of-cached q live [] h = All-nil (λ (s : SpanView). q (block_of s) ≡ true)
of-cached q live (s ∷ ss) h =
    All-cons (λ (t : SpanView). q (block_of t) ≡ true) s ss (of-added q (block_of s) live (of-live q (add_block (block_of s) live) ss h)).0 (of-cached q (add_block (block_of s) live) ss h)

-- runs are apart where their blocks are
ends-before : (b c : Block) → IsPaged b → IsPaged c → nat_le (b.first / PAGE + b.size / PAGE) (c.first / PAGE) ≡ true → block_end b ≤ c.first
ends-before b c own other h =
    let k = leb-true (b.first / PAGE + b.size / PAGE) (c.first / PAGE) h in
    let x = own.first in
    let y = own.size in
    let z = other.first in
    omega (arith, div-add-mod' b.first PAGE, div-add-mod' b.size PAGE, div-add-mod' c.first PAGE)

apart-run : (b c : Block) → IsPaged b → IsPaged c → runs_apart (run_of b) (run_of c) ≡ true → blocks_apart b c ≡ true
apart-run b c own other h =
    elim (or_cases (nat_le (b.first / PAGE + b.size / PAGE) (c.first / PAGE)) (nat_le (c.first / PAGE + c.size / PAGE) (b.first / PAGE)) h) [
      | inl low ↦ apart_below b c (ends-before b c own other low)
      | inr high ↦ apart_above b c (ends-before c b other own high)
    ]

pub apart-runs : (end x : ℕ) (b : Block) (bs : List Block) → IsPaged b → IsTiled end x bs → list_all (λ r. runs_apart r (run_of b)) (map run_of bs) ≡ true → list_all (λ c. blocks_apart c b) bs ≡ true
apart-runs end x b [] own h apart = refl
apart-runs end x b (c ∷ cs) own h apart =
    let parts = and_parts (runs_apart (run_of c) (run_of b)) (list_all (λ r. runs_apart r (run_of b)) (map run_of cs)) apart in
    and_from (blocks_apart c b) (list_all (λ d. blocks_apart d b) cs) (apart-run c b h.1 own parts.0) (apart-runs end (block_end c) b cs own h.2 parts.1)

-- blocks of some bytes that are apart are not one
pub apart-other : (b c : Block) → 1 ≤ b.size → 1 ≤ c.size → blocks_apart c b ≡ true → same_block b c ≡ false
apart-other b c own other h = and_left (b.first == c.first) (b.size == c.size) (ne_eqb b.first c.first (λ e. apart-differ c b other own h (sym e)))

-- cached runs are whole pages
pub cached-paged : (end : ℕ) (live : List Block) (cs : List SpanView) → IsTiled end 0 (all_blocks live cs) → All (λ s. IsPaged (block_of s)) cs
cached-paged end live [] h = All-nil (λ (s : SpanView). IsPaged (block_of s))
cached-paged end live (s ∷ ss) h =
    All-cons (λ (t : SpanView). IsPaged (block_of t)) s ss (tiled-member end (add_block (block_of s) live) 0 (block_of s) (live-tiled end (add_block (block_of s) live) ss h) (has-added (block_of s) live)).paged
    (cached-paged end (add_block (block_of s) live) ss h)

-- one that is dropped and added again
add-front : (end : ℕ) (b : Block) (bs : List Block) → IsPaged b → IsTiled end (block_end b) bs → add_block b bs ≡ b ∷ bs
add-front end b [] own h = add-nil b
add-front end b (c ∷ cs) own h =
    let some = own.some in
    let low = h.0 in
    add-here b c cs (omega arith)

pub dropped-added : (end : ℕ) (bs : List Block) (x : ℕ) (b : Block) → IsTiled end x bs → has_block bs b ≡ true → add_block b (drop_block b bs) ≡ bs
dropped-added end [] x b h among = absurd (false≢true among)
dropped-added end (c ∷ cs) x b h among =
    elim (or_cases (same_block b c) (has_block cs b) among) [
      | inl here ↦
          subst (λ d. add_block d (drop_block d (c ∷ cs)) ≡ c ∷ cs) (sym (same_block-true b c here))
          (ap (add_block c) (drop-first end c cs x h) ∙ add-front end c cs h.1 h.2)
      | inr later ↦
          let some = h.1.some in
          let low = (tiled-member end cs (block_end c) b h.2 later).low in
          ap (add_block b) (drop-later end c cs x b h (omega arith)) ∙ add-later b c (drop_block b cs) (omega arith) ∙ ap (λ l. c ∷ l) (dropped-added end cs (block_end c) b h.2 later)
    ]
