-- Ascending lists of blocks that are apart are sets: equal where they have the same blocks.
use Rattle.std.proofs.Common.{◌≡◌, ◌≤◌, ◌⊎◌, Bool, true, false, cond, List, [], ◌∷◌, refl, sym, subst, ap, ◌∙◌, inl, inr, arith}
use Rattle.std.specs.Prelude.{◌&&◌, ◌||◌, fold}
use Rattle.std.specs.List.{All, filter, list_all}
use Rattle.std.proofs.lemmas.Bool.{or_cases, or_left, or_right, and_parts, and_from, false≢true, cases_Bool, cases_lt}
use Rattle.mz_base.specs.Space.{Block, block_end, same_block, blocks_apart}
use Rattle.mz_base.specs.Lists.{has_block}
use Rattle.mz_base.specs.Lists.{add_block}
use Rattle.mz_holding.specs.Gaps.{AreSpread, far}
use Rattle.mz_holding.proofs.GapLemmas.{same_is, same_self, all_has, all_from_has, bool_same, numbers_apart}
use Rattle.mz_holding.proofs.NeighbourLemmas.{Apart, add_none, add_before, add_behind, all_add, spread_add, spread_filter}

-- SET: two such lists with the same blocks are one
pub same_spread : (xs ys : List Block) → AreSpread xs → AreSpread ys → ((b : Block) → has_block xs b ≡ has_block ys b) → xs ≡ ys
same_spread [] [] g h same = refl
same_spread [] (y ∷ ys) g h same = absurd (false≢true (same y ∙ or_left (same_block y y) (has_block ys y) (same_self y)))
same_spread (x ∷ xs) [] g h same = absurd (false≢true (sym (same x) ∙ or_left (same_block x x) (has_block xs x) (same_self x)))
same_spread (x ∷ xs) (y ∷ ys) g h same =
    let one = g.0 in
    let other = h.0 in
    let heads : x ≡ y = elim (or_cases (same_block x y) (has_block ys x) (sym (same x) ∙ or_left (same_block x x) (has_block xs x) (same_self x))) [
      | inl here ↦ same_is x y here
      | inr later ↦
          let behind : block_end y ≤ x.first = all_has (λ c. block_end y ≤ c.first) ys x h.2 later in
          elim (or_cases (same_block y x) (has_block xs y) (same y ∙ or_left (same_block y y) (has_block ys y) (same_self y))) [
            | inl here ↦ sym (same_is y x here)
            | inr after ↦ let before : block_end x ≤ y.first = all_has (λ c. block_end x ≤ c.first) xs y g.2 after in absurd (omega arith)
          ]
    ] in
    let tails : xs ≡ ys = same_spread xs ys g.3 h.3 (λ b. bool_same (has_block xs b) (has_block ys b)
    (λ there. elim (or_cases (same_block b y) (has_block ys b) (sym (same b) ∙ or_right (same_block b x) (has_block xs b) there)) [
      | inl here ↦ let behind : block_end x ≤ b.first = all_has (λ c. block_end x ≤ c.first) xs b g.2 there in let at : b.first ≡ x.first = ap (λ (c : Block). c.first) (same_is b y here ∙ sym heads) in absurd (omega arith)
      | inr later ↦ later
    ])
    (λ there. elim (or_cases (same_block b x) (has_block xs b) (same b ∙ or_right (same_block b y) (has_block ys b) there)) [
      | inl here ↦ let behind : block_end y ≤ b.first = all_has (λ c. block_end y ≤ c.first) ys b h.2 there in let at : b.first ≡ y.first = ap (λ (c : Block). c.first) (same_is b x here ∙ heads) in absurd (omega arith)
      | inr later ↦ later
    ])) in
    ap (λ z. z ∷ xs) heads ∙ ap (λ zs. y ∷ zs) tails

pub has_add : (b : Block) (bs : List Block) (c : Block) → has_block (add_block b bs) c ≡ (same_block c b || has_block bs c)
has_add b [] c = ap (λ xs. has_block xs c) (add_none b)
has_add b (d ∷ bs) c = elim (cases_lt b.first d.first) [
  | inl less ↦ ap (λ xs. has_block xs c) (add_before b d bs less)
  | inr more ↦ ap (λ xs. has_block xs c) (add_behind b d bs more) ∙ ap (λ t. same_block c d || t) (has_add b bs c) ∙ swap (same_block c d) (same_block c b) (has_block bs c)
]
  where
    swap : (x y z : Bool) → (x || (y || z)) ≡ (y || (x || z))
    swap true true z = refl
    swap true false z = refl
    swap false true z = refl
    swap false false z = refl

pub has_filter : (p : Block → Bool) (bs : List Block) (c : Block) → has_block (filter p bs) c ≡ (has_block bs c && p c)
has_filter p [] c = refl
has_filter p (d ∷ bs) c = elim (cases_Bool (same_block c d)) [
  | inl here ↦ elim (cases_Bool (p d)) [
    | inl yes_ ↦ ap (λ t. has_block (cond t (d ∷ filter p bs) (filter p bs)) c) yes_ ∙ or_left (same_block c d) (has_block (filter p bs) c) here
        ∙ sym (and_from (same_block c d || has_block bs c) (p c) (or_left (same_block c d) (has_block bs c) here) (ap p (same_is c d here) ∙ yes_))
    | inr no_ ↦ ap (λ t. has_block (cond t (d ∷ filter p bs) (filter p bs)) c) no_ ∙ has_filter p bs c ∙ both (has_block bs c) (p c) (same_block c d) (ap p (same_is c d here) ∙ no_)
  ]
  | inr other ↦ elim (cases_Bool (p d)) [
    | inl yes_ ↦ ap (λ t. has_block (cond t (d ∷ filter p bs) (filter p bs)) c) yes_ ∙ ap (λ t. t || has_block (filter p bs) c) other ∙ has_filter p bs c ∙ ap (λ t. (t || has_block bs c) && p c) (sym other)
    | inr no_ ↦ ap (λ t. has_block (cond t (d ∷ filter p bs) (filter p bs)) c) no_ ∙ has_filter p bs c ∙ ap (λ t. (t || has_block bs c) && p c) (sym other)
  ]
]
  where
    both : (x y z : Bool) → y ≡ false → (x && y) ≡ ((z || x) && y)
    both true true z h = absurd (false≢true (sym h))
    both true false true h = refl
    both true false false h = refl
    both false true z h = absurd (false≢true (sym h))
    both false false true h = refl
    both false false false h = refl

apart_filter : (p : Block → Bool) (bs : List Block) (b : Block) → Apart bs b → Apart (filter p bs) b
apart_filter p [] b h = refl
apart_filter p (c ∷ bs) b h =
    let parts = and_parts (blocks_apart c b) (list_all (λ d. blocks_apart d b) bs) h in
    elim (cases_Bool (p c)) [
      | inl yes_ ↦ rw yes_ (and_from (blocks_apart c b) (list_all (λ d. blocks_apart d b) (filter p bs)) parts.0 (apart_filter p bs b parts.1))
      | inr no_ ↦ rw no_ (apart_filter p bs b parts.1)
    ]

-- a place's blocks are those of all blocks that a test chooses: a block that comes into the place comes among them
pub chosen_add : (p : Block → Bool) (bs : List Block) (b : Block) → AreSpread bs → 1 ≤ b.size → block_end b ≤ far → Apart bs b → p b ≡ true → filter p (add_block b bs) ≡ add_block b (filter p bs)
chosen_add p bs b h some fits apart yes_ = same_spread (filter p (add_block b bs)) (add_block b (filter p bs)) (spread_filter p (add_block b bs) (spread_add b bs some fits apart h)) (spread_add b (filter p bs) some fits (apart_filter p bs b apart) (spread_filter p bs h))
    (λ c. has_filter p (add_block b bs) c ∙ ap (λ t. t && p c) (has_add b bs c) ∙ spread c (cases_Bool (same_block c b)) ∙ ap (λ t. same_block c b || t) (sym (has_filter p bs c)) ∙ sym (has_add b (filter p bs) c))
  where
    spread : (c : Block) → (same_block c b ≡ true) ⊎ (same_block c b ≡ false) → ((same_block c b || has_block bs c) && p c) ≡ (same_block c b || (has_block bs c && p c))
    spread c (inl here) = and_from (same_block c b || has_block bs c) (p c) (or_left (same_block c b) (has_block bs c) here) (ap p (same_is c b here) ∙ yes_) ∙ sym (or_left (same_block c b) (has_block bs c && p c) here)
    spread c (inr other) = ap (λ t. (t || has_block bs c) && p c) other ∙ sym (ap (λ t. t || (has_block bs c && p c)) other)

-- the blocks of a region that enters a place, one after another
pub has_fold : (ms bs : List Block) (c : Block) → has_block (fold (λ xs b. add_block b xs) bs ms) c ≡ (has_block ms c || has_block bs c)
has_fold [] bs c = refl
has_fold (m ∷ ms) bs c = has_fold ms (add_block m bs) c ∙ ap (λ t. has_block ms c || t) (has_add m bs c) ∙ swap (has_block ms c) (same_block c m) (has_block bs c)
  where
    swap : (x y z : Bool) → (x || (y || z)) ≡ ((y || x) || z)
    swap true true z = refl
    swap true false z = refl
    swap false true z = refl
    swap false false z = refl

pub pairwise : (bs : List Block) (c d : Block) → AreSpread bs → has_block bs c ≡ true → has_block bs d ≡ true → (c ≡ d) ⊎ ((block_end c ≤ d.first) ⊎ (block_end d ≤ c.first))
pairwise [] c d h there other = absurd (false≢true there)
pairwise (b ∷ bs) c d h there other = elim (or_cases (same_block c b) (has_block bs c) there) [
  | inl here ↦ elim (or_cases (same_block d b) (has_block bs d) other) [
    | inl also ↦ inl (same_is c b here ∙ sym (same_is d b also))
    | inr later ↦ inr (inl (subst (λ x. block_end x ≤ d.first) (sym (same_is c b here)) (all_has (λ x. block_end b ≤ x.first) bs d h.2 later)))
  ]
  | inr later ↦ elim (or_cases (same_block d b) (has_block bs d) other) [
    | inl also ↦ inr (inr (subst (λ x. block_end x ≤ c.first) (sym (same_is d b also)) (all_has (λ x. block_end b ≤ x.first) bs c h.2 later)))
    | inr last ↦ pairwise bs c d h.3 later last
  ]
]

abbrev Beside : List Block → Block → Type 0
Beside bs m = All (λ c. (block_end c ≤ m.first) ⊎ (block_end m ≤ c.first)) bs

pub spread_fold : (ms bs : List Block) → AreSpread ms → AreSpread bs → ((m : Block) → has_block ms m ≡ true → Beside bs m) → AreSpread (fold (λ xs b. add_block b xs) bs ms)
spread_fold [] bs g h beside = h
spread_fold (m ∷ ms) bs g h beside = spread_fold ms (add_block m bs) g.3 (spread_add m bs g.0 g.1 (numbers_apart bs m (beside m (or_left (same_block m m) (has_block ms m) (same_self m)))) h)
    (λ c there. all_add (λ d. (block_end d ≤ c.first) ⊎ (block_end c ≤ d.first)) m bs (inl (all_has (λ d. block_end m ≤ d.first) ms c g.2 there)) (beside c (or_right (same_block c m) (has_block ms c) there)))

-- MOVE: the blocks of a region that enters a place, where both are chosen from all blocks by tests
pub chosen_enter : (p q : Block → Bool) (bs : List Block) → AreSpread bs → ((c : Block) → p c ≡ true → q c ≡ false) → fold (λ xs b. add_block b xs) (filter p bs) (filter q bs) ≡ filter (λ c. p c || q c) bs
chosen_enter p q bs h either = same_spread (fold (λ xs b. add_block b xs) (filter p bs) (filter q bs)) (filter (λ c. p c || q c) bs)
    (spread_fold (filter q bs) (filter p bs) (spread_filter q bs h) (spread_filter p bs h) beside) (spread_filter (λ c. p c || q c) bs h)
    (λ c. has_fold (filter q bs) (filter p bs) c ∙ ap (λ t. t || has_block (filter p bs) c) (has_filter q bs c) ∙ ap (λ t. (has_block bs c && q c) || t) (has_filter p bs c) ∙ spread (has_block bs c) (p c) (q c) ∙ sym (has_filter (λ d. p d || q d) bs c))
  where
    beside : (m : Block) → has_block (filter q bs) m ≡ true → Beside (filter p bs) m
    beside m there =
        let in_q = and_parts (has_block bs m) (q m) (sym (has_filter q bs m) ∙ there) in
        all_from_has (λ c. (block_end c ≤ m.first) ⊎ (block_end m ≤ c.first)) (filter p bs) (λ c other.
        let in_p = and_parts (has_block bs c) (p c) (sym (has_filter p bs c) ∙ other) in
        elim (pairwise bs c m h in_p.0 in_q.0) [
          | inl same ↦ absurd (false≢true (sym (either c in_p.1) ∙ ap q same ∙ in_q.1))
          | inr apart ↦ apart
        ])

    spread : (x y z : Bool) → ((x && z) || (x && y)) ≡ (x && (y || z))
    spread true true true = refl
    spread true true false = refl
    spread true false true = refl
    spread true false false = refl
    spread false y z = refl
