-- Where all pairs are one caller's, its hand has each block as often as there are pairs of it.
use Rattle.std.proofs.Common.{◌≡◌, ℕ, Bool, true, false, cond, List, [], ◌∷◌, ◌++◌, length, refl, ap, ◌∙◌, arith, eq-eqb}
use Rattle.std.specs.Prelude.{◌==◌, not, map, filter}
use Rattle.std.specs.List.{list_all}
use Rattle.std.proofs.lemmas.Bool.{and_parts, and_from}
use Rattle.mz_base.specs.Space.{Block, block_at, same_block}
use Rattle.mz_events.specs.declared.entry.Entry.{Entry}
use Rattle.mz_events.specs.declared.event.Event.{Event}
use Rattle.mz_events.specs.declared.event.Event.TheVariants.{Take, Back, Move, New, End, Size, Full, Dry, No, Open, Shut}
use Rattle.mz_book.specs.declared.pair.Pair.{Pair}
use Rattle.mz_book.specs.Pairs.{block_of as block_of_pair, pair_at, hand_among, owners, is_pair, resized_pair, pairs_after}
use Rattle.mz_book.specs.Growth.{pairs_through}
use Rattle.mz_book.specs.Living.{times}

-- all pairs are the caller's
abbrev pub are_mine : ℕ → List Pair → Bool
are_mine c pairs = list_all (λ h. h.caller == c) pairs

mine-append : (c : ℕ) (xs ys : List Pair) → are_mine c xs ≡ true → are_mine c ys ≡ true → are_mine c (xs ++ ys) ≡ true
mine-append c [] ys front back = back
mine-append c (x ∷ xs) ys front back =
    let parts = and_parts (x.caller == c) (are_mine c xs) front in
    and_from (x.caller == c) (are_mine c (xs ++ ys)) parts.0 (mine-append c xs ys parts.1 back)

filter-case : (c : ℕ) (x : Pair) (xs : List Pair) (d : Bool) → (x.caller == c) ≡ true → are_mine c xs ≡ true → are_mine c (cond d (x ∷ xs) xs) ≡ true
filter-case c x xs true first rest = and_from (x.caller == c) (are_mine c xs) first rest
filter-case c x xs false first rest = rest

mine-filter : (c : ℕ) (test : Pair → Bool) (xs : List Pair) → are_mine c xs ≡ true → are_mine c (filter test xs) ≡ true
mine-filter c test [] all = refl
mine-filter c test (x ∷ xs) all =
    let parts = and_parts (x.caller == c) (are_mine c xs) all in
    filter-case c x (filter test xs) (test x) parts.0 (mine-filter c test xs parts.1)

resized-case : (x : Pair) (m : ℕ) (d : Bool) → (cond d (pair_at x.caller x.first m) x).caller ≡ x.caller
resized-case x m true = refl
resized-case x m false = refl

mine-resized : (c : ℕ) (b : Block) (m : ℕ) (xs : List Pair) → are_mine c xs ≡ true → are_mine c (map (resized_pair c b m) xs) ≡ true
mine-resized c b m [] all = refl
mine-resized c b m (x ∷ xs) all =
    let parts = and_parts (x.caller == c) (are_mine c xs) all in
    and_from ((resized_pair c b m x).caller == c) (are_mine c (map (resized_pair c b m) xs)) (ap (λ n. n == c) (resized-case x m (is_pair c b x)) ∙ parts.0) (mine-resized c b m xs parts.1)

mine-after : (c : ℕ) (pairs : List Pair) (e : Event) → are_mine c pairs ≡ true → are_mine c (pairs_after c pairs e) ≡ true
mine-after c pairs (New k a n al) all = mine-append c pairs (pair_at c a n ∷ []) all (and_from (c == c) true (eq-eqb c c refl) refl)
mine-after c pairs (End k a n) all = mine-filter c (λ h. not (is_pair c (block_at a n) h)) pairs all
mine-after c pairs (Size k a n m) all = mine-resized c (block_at a n) m pairs all
mine-after c pairs (Take k f w) all = all
mine-after c pairs (Back k f w) all = all
mine-after c pairs (Move f from to) all = all
mine-after c pairs (Full k n al) all = all
mine-after c pairs (Dry z w al) all = all
mine-after c pairs (No k z a n) all = all
mine-after c pairs (Open z) all = all
mine-after c pairs (Shut z) all = all

-- and so they are after entries of the caller
pub mine-through : (c : ℕ) (pairs : List Pair) (es : List Entry) → are_mine c pairs ≡ true → are_mine c (pairs_through c pairs es) ≡ true
mine-through c pairs [] all = all
mine-through c pairs (e ∷ es) all = mine-through c (pairs_after c pairs e.event) es (mine-after c pairs e.event all)

all-kept : (c : ℕ) (xs : List Pair) → are_mine c xs ≡ true → filter (λ h. h.caller == c) xs ≡ xs
all-kept c [] all = refl
all-kept c (x ∷ xs) all =
    let parts = and_parts (x.caller == c) (are_mine c xs) all in
    ap (λ d. cond d (x ∷ filter (λ h. h.caller == c) xs) (filter (λ h. h.caller == c) xs)) parts.0 ∙ ap (λ ys. x ∷ ys) (all-kept c xs parts.1)

times-case : (b : Block) (x : Pair) (xs : List Pair) (d : Bool) → length (filter (same_block b) (map block_of_pair xs)) ≡ length (filter (λ h. same_block b (block_of_pair h)) xs)
    → length (cond d (block_of_pair x ∷ filter (same_block b) (map block_of_pair xs)) (filter (same_block b) (map block_of_pair xs))) ≡ length (cond d (x ∷ filter (λ h. same_block b (block_of_pair h)) xs) (filter (λ h. same_block b (block_of_pair h)) xs))
times-case b x xs true rest = omega (arith, rest)
times-case b x xs false rest = rest

times-pairs : (b : Block) (xs : List Pair) → times b (map block_of_pair xs) ≡ owners xs b
times-pairs b [] = refl
times-pairs b (x ∷ xs) = times-case b x xs (same_block b (block_of_pair x)) (times-pairs b xs)

pub times-owners : (c : ℕ) (b : Block) (pairs : List Pair) → are_mine c pairs ≡ true → times b (hand_among c pairs) ≡ owners pairs b
times-owners c b pairs all = ap (λ xs. times b (map block_of_pair xs)) (all-kept c pairs all) ∙ times-pairs b pairs
