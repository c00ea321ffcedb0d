-- Lists of flags with a run made one value: what they say of free pages, and how many these are.
use Rattle.std.proofs.Common.{◌≡◌, ℕ, zero, suc, ◌+◌, ◌-◌, ◌*◌, ◌<◌, ◌≤◌, List, [], ◌∷◌, ◌++◌, Bool, true, false, cond, length, map, get_or, take, drop, replicate, refl, sym, ap, ◌∙◌, arith, drop-drop, length-drop}
use Rattle.std.proofs.lemmas.List.{get_or-drop, map-append, take-map, drop-map, take-append-drop}
use Rattle.std.proofs.lemmas.List.Folds.{sum_by-replicate}
use Rattle.std.proofs.lemmas.List.Sums.{sum_by-append}
use Rattle.std.specs.List.{AllWithin}
use Rattle.mz_bits.specs.Runs.{with_run}
use Rattle.mz_pages.specs.Pages.{free_count}

-- ---- the flags that say what is free

pub map-replicate : {X Y : Type 0} (f : X → Y) (n : ℕ) (x : X) → map f (replicate n x) ≡ replicate n (f x)
map-replicate f zero x = refl
map-replicate f (suc n) x = ap (λ l. f x ∷ l) (map-replicate f n x)

pub map-with_run : (f : Bool → Bool) (bits : List Bool) (i n : ℕ) (v : Bool) → map f (with_run bits i n v) ≡ with_run (map f bits) i n (f v)
map-with_run f bits i n v =
    map-append f (take i bits) (replicate n v ++ drop (i + n) bits) ∙ ap (λ l. map f (take i bits) ++ l) (map-append f (replicate n v) (drop (i + n) bits))
    ∙ ap (λ l. map f (take i bits) ++ (l ++ map f (drop (i + n) bits))) (map-replicate f n v) ∙ ap (λ l. l ++ (replicate n (f v) ++ map f (drop (i + n) bits))) (sym (take-map f i bits))
    ∙ ap (λ l. take i (map f bits) ++ (replicate n (f v) ++ l)) (sym (drop-map f (i + n) bits))

-- ---- a run that has the value already

-- the first n, each by each
front_is : (v : Bool) (xs : List Bool) (n : ℕ) → n ≤ length xs → ((k : ℕ) (d : Bool) → k < n → get_or xs k d ≡ v) → take n xs ≡ replicate n v
front_is v xs zero h each = refl
front_is v [] (suc n) h each = absurd (omega arith)
front_is v (x ∷ xs) (suc n) h each = λ i. each 0 v (omega arith) i ∷ front_is v xs n (omega arith) (λ k d l. each (suc k) d (omega arith)) i

pub with_run-same : (bits : List Bool) (i n : ℕ) (v : Bool) → i + n ≤ length bits → AllWithin (λ b. b ≡ v) bits i (i + n) → with_run bits i n v ≡ bits
with_run-same bits i n v h each =
    let long : length (drop i bits) ≡ length bits - i = length-drop i bits in
    let run : take n (drop i bits) ≡ replicate n v = front_is v (drop i bits) n (omega arith) (λ k d l. get_or-drop i bits k d ∙ each (i + k) d (omega arith) (omega arith)) in
    ap (λ l. take i bits ++ (l ++ drop (i + n) bits)) (sym run) ∙ ap (λ l. take i bits ++ (take n (drop i bits) ++ l)) (sym (drop-drop n i bits)) ∙ ap (λ l. take i bits ++ l) (take-append-drop n (drop i bits)) ∙ take-append-drop i bits

-- ---- counts

free_count-with_run : (bits : List Bool) (i n : ℕ) (v : Bool) → free_count (with_run bits i n v) ≡ free_count (take i bits) + (n * cond v 1 0 + free_count (drop (i + n) bits))
free_count-with_run bits i n v =
    let f : Bool → ℕ = λ b. cond b 1 0 in
    sum_by-append f (take i bits) (replicate n v ++ drop (i + n) bits) ∙ ap (λ m. free_count (take i bits) + m) (sum_by-append f (replicate n v) (drop (i + n) bits) ∙ ap (λ m. m + free_count (drop (i + n) bits)) (sum_by-replicate f n v))

-- n pages that weren't free become free, or the other way round
pub free_count-freed : (bits : List Bool) (i n : ℕ) → i + n ≤ length bits → AllWithin (λ b. b ≡ false) bits i (i + n) → free_count (with_run bits i n true) ≡ free_count bits + n
free_count-freed bits i n h each =
    let before = ap free_count (sym (with_run-same bits i n false h each)) ∙ free_count-with_run bits i n false in
    let after = free_count-with_run bits i n true in
    omega arith

pub free_count-taken : (bits : List Bool) (i n : ℕ) → i + n ≤ length bits → AllWithin (λ b. b ≡ true) bits i (i + n) → free_count bits ≡ free_count (with_run bits i n false) + n
free_count-taken bits i n h each =
    let before = ap free_count (sym (with_run-same bits i n true h each)) ∙ free_count-with_run bits i n true in
    let after = free_count-with_run bits i n false in
    omega arith

-- n pages, all free
pub free_count-all : (n : ℕ) → free_count (replicate n true) ≡ n
free_count-all n = let f : Bool → ℕ = λ b. cond b 1 0 in let all = sum_by-replicate f n true in omega arith
