-- Flags that are set in a row.
use Rattle.std.proofs.Common.{◌≡◌, ℕ, zero, suc, ◌+◌, ◌-◌, ◌<◌, ◌≤◌, List, [], ◌∷◌, ◌++◌, Bool, true, false, length, get_or, take, drop, replicate, refl, sym, ap, ◌∙◌, subst, arith, length-append, length-drop}
use Rattle.std.proofs.lemmas.List.{length-take-le, length-replicate, get_or-drop}
use mathlib.Core.Bool.{beq}
use Rattle.std.specs.List.{AllWithin}
use Rattle.mz_ground.specs.Marks.{AreAll, marked, written}
use Rattle.mz_ground.proofs.Lists.{part_within}

-- the first n, each by each
front_is : {X : Type 0} (v : X) (xs : List X) (n : ℕ) → n ≤ length xs → ((k : ℕ) (d : X) → k < n → get_or xs k d ≡ v) → take n xs ≡ replicate n v
front_is v xs zero h each = refl
front_is v [] (suc n) h each = absurd (omega arith)
front_is v (x ∷ xs) (suc n) h each = λ i. each 0 v (omega arith) i ∷ front_is v xs n (omega arith) (λ k d l. each (suc k) d (omega arith)) i

-- and back
each_is : {X : Type 0} (v : X) (xs : List X) (n k : ℕ) (d : X) → n ≤ length xs → take n xs ≡ replicate n v → k < n → get_or xs k d ≡ v
each_is v xs zero k d h e l = absurd (omega arith)
each_is v [] (suc n) k d h e l = absurd (omega arith)
each_is v (x ∷ xs) (suc n) zero d h e l = ap (λ ys. get_or ys 0 d) e
each_is v (x ∷ xs) (suc n) (suc k) d h e l = each_is v xs n k d (omega arith) (ap (λ ys. drop 1 ys) e) (omega arith)

pub are_all : {X : Type 0} (v : X) (xs : List X) (q n m : ℕ) → m ≡ q + n → m ≤ length xs → AllWithin (λ b. b ≡ v) xs q m → AreAll xs q n v
are_all v xs q n m e h each = front_is v (drop q xs) n (part_within xs q n (omega arith)) (λ k d l. get_or-drop q xs k d ∙ each (q + k) d (omega arith) (omega arith))

pub all_within : {X : Type 0} (v : X) (xs : List X) (q n : ℕ) → q + n ≤ length xs → AreAll xs q n v → AllWithin (λ b. b ≡ v) xs q (q + n)
all_within v xs q n h e k d low high =
    let there : q + (k - q) ≡ k = omega arith in
    ap (λ j. get_or xs j d) (sym there) ∙ sym (get_or-drop q xs (k - q) d) ∙ each_is v (drop q xs) n (k - q) d (part_within xs q n h) e (omega arith)

pub length-marked : {X : Type 0} (v : X) (xs : List X) (q n : ℕ) → q + n ≤ length xs → length (marked xs q n v) ≡ length xs
length-marked v xs q n h =
    let a : length (take q xs) ≡ q = length-take-le q xs (omega arith) in
    let b : length (replicate n v) ≡ n = length-replicate n v in
    let c : length (drop (q + n) xs) ≡ length xs - (q + n) = length-drop (q + n) xs in
    length-append (take q xs) (replicate n v ++ drop (q + n) xs) ∙ ap (λ m. length (take q xs) + m) (length-append (replicate n v) (drop (q + n) xs)) ∙ omega arith

pub length-written : {X : Type 0} (xs ys : List X) (n : ℕ) → n + length ys ≤ length xs → length (written xs n ys) ≡ length xs
length-written xs ys n h =
    let a : length (take n xs) ≡ n = length-take-le n xs (omega arith) in
    let c : length (drop (n + length ys) xs) ≡ length xs - (n + length ys) = length-drop (n + length ys) xs in
    length-append (take n xs) (ys ++ drop (n + length ys) xs) ∙ ap (λ m. length (take n xs) + m) (length-append ys (drop (n + length ys) xs)) ∙ omega arith

not_set : (b : Bool) → beq b true ≡ false → b ≡ false
not_set true e = e
not_set false e = refl

-- flags of which none is set
pub none_set : (ys fs : List Bool) (m : ℕ) → ys ≡ fs → m ≡ length fs → ((k : ℕ) (d : Bool) → 0 ≤ k → k < length ys → beq (get_or ys k d) true ≡ false) → AreAll fs 0 m false
none_set ys fs m e f each =
    let F = λ (l : List Bool). (k : ℕ) (d : Bool) → 0 ≤ k → k < length l → beq (get_or l k d) true ≡ false in
    let these = subst F e each in
    are_all false fs 0 m m (omega arith) (omega arith) (λ k d low high. not_set (get_or fs k d) (these k d low (omega arith)))
