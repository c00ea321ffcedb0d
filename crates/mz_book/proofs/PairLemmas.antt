-- A caller's hand among the pairs of all, and what the loops over pairs make.
use Rattle.std.proofs.Common.{◌≡◌, ◌≢◌, ℕ, ◌==◌, Bool, true, false, cond, not, List, [], ◌∷◌, ◌++◌, subst, refl, ap, sym, ◌∙◌, eq-eqb, ne_eqb, inl, inr}
use Rattle.std.specs.Prelude.{map, filter}
use Rattle.std.proofs.lemmas.Bool.{cases_Bool, eqb-true, and_parts}
use Rattle.mz_base.specs.Space.{Block, block_at, same_block}
use Rattle.mz_base.specs.Lists.{drop_block}
use Rattle.mz_events.specs.declared.event.Event.{Event}
use Rattle.mz_events.specs.declared.event.Event.TheVariants.{Take, Back, Move, New, End, Size, Full, Dry, No, Open, Shut}
use Rattle.mz_events.specs.Hands.{hand_after}
use Rattle.mz_book.specs.declared.pair.Pair.{Pair}
use Rattle.mz_book.specs.Pairs.{pair_at, block_of, hand_among, is_pair, resized_pair, pairs_after, is_from, given}

hand_snoc : (c : ℕ) (hs : List Pair) (h : Pair) → (h.caller == c) ≡ true → hand_among c (hs ++ h ∷ []) ≡ hand_among c hs ++ block_of h ∷ []
hand_snoc c [] h e = rw e refl
hand_snoc c (g ∷ hs) h e = elim (cases_Bool (g.caller == c)) [
  | inl y ↦ rw y (ap (λ bs. block_of g ∷ bs) (hand_snoc c hs h e))
  | inr n ↦ rw n (hand_snoc c hs h e)
]

hand_snoc_other : (c : ℕ) (hs : List Pair) (h : Pair) → (h.caller == c) ≡ false → hand_among c (hs ++ h ∷ []) ≡ hand_among c hs
hand_snoc_other c [] h e = rw e refl
hand_snoc_other c (g ∷ hs) h e = elim (cases_Bool (g.caller == c)) [
  | inl y ↦ rw y (ap (λ bs. block_of g ∷ bs) (hand_snoc_other c hs h e))
  | inr n ↦ rw n (hand_snoc_other c hs h e)
]

ended : (c : ℕ) (b : Block) (hs : List Pair) → hand_among c (filter (λ h. not (is_pair c b h)) hs) ≡ drop_block b (hand_among c hs)
ended c b [] = refl
ended c b (g ∷ hs) = elim (cases_Bool (g.caller == c)) [
  | inl y ↦ elim (cases_Bool (same_block b (block_of g))) [
    | inl z ↦ rw (y, z) (ended c b hs)
    | inr z ↦ rw (y, z) (rw y (ap (λ bs. block_of g ∷ bs) (ended c b hs)))
  ]
  | inr n ↦ rw n (rw n (ended c b hs))
]

ended_other : (c d : ℕ) (b : Block) (hs : List Pair) → (d == c) ≡ false → hand_among d (filter (λ h. not (is_pair c b h)) hs) ≡ hand_among d hs
ended_other c d b [] o = refl
ended_other c d b (g ∷ hs) o = elim (cases_Bool (g.caller == d)) [
  | inl y ↦
      let n : (g.caller == c) ≡ false = subst (λ i. (i == c) ≡ false) (sym (eqb-true g.caller d y)) o in
      rw n (rw y (ap (λ bs. block_of g ∷ bs) (ended_other c d b hs o)))
  | inr n ↦ elim (cases_Bool (is_pair c b g)) [
    | inl z ↦ rw (z, n) (ended_other c d b hs o)
    | inr z ↦ rw z (rw n (ended_other c d b hs o))
  ]
]

abbrev now_of : Block → ℕ → Block → Block
now_of b m x = cond (same_block b x) (block_at b.first m) x

first_is : (b : Block) (g : Pair) (m : ℕ) → same_block b (block_of g) ≡ true → block_at g.first m ≡ block_at b.first m
first_is b g m z = ap (λ a. block_at a m) (sym (eqb-true b.first g.first ((and_parts (b.first == g.first) (b.size == g.size) z).0)))

resized : (c : ℕ) (b : Block) (m : ℕ) (hs : List Pair) → hand_among c (map (resized_pair c b m) hs) ≡ map (now_of b m) (hand_among c hs)
resized c b m [] = refl
resized c b m (g ∷ hs) = elim (cases_Bool (g.caller == c)) [
  | inl y ↦ elim (cases_Bool (same_block b (block_of g))) [
    | inl z ↦ rw (y, z) (rw y (ap (λ bs. block_at g.first m ∷ bs) (resized c b m hs) ∙ ap (λ x. x ∷ map (now_of b m) (hand_among c hs)) (first_is b g m z)))
    | inr z ↦ rw (y, z) (rw y (ap (λ bs. block_of g ∷ bs) (resized c b m hs)))
  ]
  | inr n ↦ rw n (rw n (resized c b m hs))
]

resized_other : (c d : ℕ) (b : Block) (m : ℕ) (hs : List Pair) → (d == c) ≡ false → hand_among d (map (resized_pair c b m) hs) ≡ hand_among d hs
resized_other c d b m [] o = refl
resized_other c d b m (g ∷ hs) o = elim (cases_Bool (g.caller == d)) [
  | inl y ↦
      let n : (g.caller == c) ≡ false = subst (λ i. (i == c) ≡ false) (sym (eqb-true g.caller d y)) o in
      rw n (rw y (ap (λ bs. block_of g ∷ bs) (resized_other c d b m hs o)))
  | inr n ↦ elim (cases_Bool (is_pair c b g)) [
    | inl z ↦ rw z (rw n (resized_other c d b m hs o))
    | inr z ↦ rw z (rw n (resized_other c d b m hs o))
  ]
]

pub hand_is : (c : ℕ) (hs : List Pair) (e : Event) → hand_among c (pairs_after c hs e) ≡ hand_after (hand_among c hs) e
hand_is c hs (New k a n al) = hand_snoc c hs (pair_at c a n) (eq-eqb c c refl)
hand_is c hs (End k a n) = ended c (block_at a n) hs
hand_is c hs (Size k a n m) = resized c (block_at a n) m hs
hand_is c hs (Take k f w) = refl
hand_is c hs (Back k f w) = refl
hand_is c hs (Move f from to) = refl
hand_is c hs (Full k n al) = refl
hand_is c hs (Dry z w al) = refl
hand_is c hs (No k z a n) = refl
hand_is c hs (Open z) = refl
hand_is c hs (Shut z) = refl

hand_other_at : (c d : ℕ) (hs : List Pair) (e : Event) → (d == c) ≡ false → (c == d) ≡ false → hand_among d (pairs_after c hs e) ≡ hand_among d hs
hand_other_at c d hs (New k a n al) o i = hand_snoc_other d hs (pair_at c a n) i
hand_other_at c d hs (End k a n) o i = ended_other c d (block_at a n) hs o
hand_other_at c d hs (Size k a n m) o i = resized_other c d (block_at a n) m hs o
hand_other_at c d hs (Take k f w) o i = refl
hand_other_at c d hs (Back k f w) o i = refl
hand_other_at c d hs (Move f from to) o i = refl
hand_other_at c d hs (Full k n al) o i = refl
hand_other_at c d hs (Dry z w al) o i = refl
hand_other_at c d hs (No k z a n) o i = refl
hand_other_at c d hs (Open z) o i = refl
hand_other_at c d hs (Shut z) o i = refl

pub hand_other : (c d : ℕ) (hs : List Pair) (e : Event) → d ≢ c → hand_among d (pairs_after c hs e) ≡ hand_among d hs
hand_other c d hs e o = hand_other_at c d hs e (ne_eqb d c o) (ne_eqb c d (λ i. o (sym i)))

pub given_case : (from to a : ℕ) (h : Pair) (hs : List Pair) (b : Bool) → is_from from a h ≡ b → given from to a (h ∷ hs) ≡ cond b (pair_at to h.first h.size ∷ hs) (h ∷ given from to a hs)
given_case from to a h hs b e = ap (λ x. cond x (pair_at to h.first h.size ∷ hs) (h ∷ given from to a hs)) e
