-- Bits with a run of them made one value, a bit at a time.
use Rattle.std.proofs.Common.{◌≡◌, ℕ, zero, suc, ◌+◌, ◌-◌, ◌<◌, ◌≤◌, List, [], ◌∷◌, ◌++◌, Bool, true, false, length, get_or, set, take, drop, replicate, Some, slice_get, refl, sym, ap, ◌∙◌, subst, zero-add, add-zero, arith}
use Rattle.std.proofs.lemmas.List.{set-set, set-get_or, take-append-drop}
use Rattle.std.proofs.lemmas.Option.{slice_get-get_or}
use Rattle.std.specs.List.{AllWithin}
use Rattle.mz_bits.specs.Runs.{with_run}

-- all bits from one place to another are v
abbrev pub Are : Bool → List Bool → ℕ → ℕ → Type 0
Are v us i j = AllWithin (λ u. u ≡ v) us i j

pub run_here : (u : Bool) (us : List Bool) (m : ℕ) (v : Bool) → with_run (u ∷ us) 0 (suc m) v ≡ v ∷ with_run us 0 m v
run_here u us m v = ap (λ k. v ∷ (replicate m v ++ drop k (u ∷ us))) (zero-add (suc m)) ∙ ap (λ k. v ∷ (replicate m v ++ drop k us)) (sym (zero-add m))

pub run_there : (u : Bool) (us : List Bool) (q n : ℕ) (v : Bool) → with_run (u ∷ us) (suc q) n v ≡ u ∷ with_run us q n v
run_there u us q n v = let e : suc q + n ≡ suc (q + n) = omega arith in ap (λ k. u ∷ (take q us ++ (replicate n v ++ drop k (u ∷ us)))) e

pub run_none : (us : List Bool) (v : Bool) → with_run us 0 0 v ≡ us
run_none us v = refl

-- the first of the bits, and those behind it
pub are_head : (v u : Bool) (us : List Bool) (m : ℕ) → Are v (u ∷ us) 0 (0 + suc m) → u ≡ v
are_head v u us m h = h 0 false (omega arith) (omega arith)

pub are_tail : (v u : Bool) (us : List Bool) (m : ℕ) → Are v (u ∷ us) 0 (0 + suc m) → Are v us 0 (0 + m)
are_tail v u us m h k d low high = h (suc k) d (omega arith) (omega arith)

pub are_there : (v u : Bool) (us : List Bool) (q n : ℕ) → Are v (u ∷ us) (suc q) (suc q + n) → Are v us q (q + n)
are_there v u us q n h k d low high = h (suc k) d (omega arith) (omega arith)

pub are_cons : (v u : Bool) (us : List Bool) (m : ℕ) → u ≡ v → Are v us 0 (0 + m) → Are v (u ∷ us) 0 (0 + suc m)
are_cons v u us m e h zero d low high = e
are_cons v u us m e h (suc k) d low high = h k d (omega arith) (omega arith)

pub are_behind : (v u : Bool) (us : List Bool) (q n : ℕ) → Are v us q (q + n) → Are v (u ∷ us) (suc q) (suc q + n)
are_behind v u us q n h zero d low high = absurd (omega arith)
are_behind v u us q n h (suc k) d low high = h k d (omega arith) (omega arith)

-- a run of no bits
pub run_zero : (us : List Bool) (q : ℕ) (v : Bool) → with_run us q 0 v ≡ us
run_zero us q v = ap (λ k. take q us ++ drop k us) (add-zero q) ∙ take-append-drop q us

-- a run whose front is made again what it was
pub front_again : (us : List Bool) (q n m : ℕ) (v w : Bool) → q + n ≤ length us → Are w us q (q + n) → with_run (with_run us q (n + m) v) q n w ≡ with_run us (q + n) m v
front_again us zero zero m v w within h = ap (λ k. with_run us 0 k v) (zero-add m)
front_again [] zero (suc n) m v w within h = absurd (omega arith)
front_again (u ∷ us) zero (suc n) m v w within h =
    let more : suc n + m ≡ suc (n + m) = omega arith in
    let place : suc (0 + n) ≡ 0 + suc n = omega arith in
    ap (λ k. with_run (with_run (u ∷ us) 0 k v) 0 (suc n) w) more
    ∙ ap (λ l. with_run l 0 (suc n) w) (run_here u us (n + m) v)
    ∙ run_here v (with_run us 0 (n + m) v) n w
    ∙ ap (λ l. w ∷ l) (front_again us 0 n m v w (omega arith) (are_tail w u us n h))
    ∙ ap (λ b. b ∷ with_run us (0 + n) m v) (sym (are_head w u us n h))
    ∙ sym (run_there u us (0 + n) m v)
    ∙ ap (λ k. with_run (u ∷ us) k m v) place
front_again [] (suc q) n m v w within h = absurd (omega arith)
front_again (u ∷ us) (suc q) n m v w within h =
    let place : suc (q + n) ≡ suc q + n = omega arith in
    ap (λ l. with_run l (suc q) n w) (run_there u us q (n + m) v)
    ∙ run_there u (with_run us q (n + m) v) q n w
    ∙ ap (λ l. u ∷ l) (front_again us q n m v w (omega arith) (are_there w u us q n h))
    ∙ sym (run_there u us (q + n) m v)
    ∙ ap (λ k. with_run (u ∷ us) k m v) place

-- one that is made again what it was, with more behind it
pub again_with_more : (us : List Bool) (q n m : ℕ) (v w : Bool) → q + n ≤ length us → Are w us q (q + n) → with_run (with_run us q n v) q (n + m) w ≡ with_run us (q + n) m w
again_with_more us zero zero m v w within h = ap (λ k. with_run us 0 k w) (zero-add m)
again_with_more [] zero (suc n) m v w within h = absurd (omega arith)
again_with_more (u ∷ us) zero (suc n) m v w within h =
    let more : suc n + m ≡ suc (n + m) = omega arith in
    let place : suc (0 + n) ≡ 0 + suc n = omega arith in
    ap (λ k. with_run (with_run (u ∷ us) 0 (suc n) v) 0 k w) more
    ∙ ap (λ l. with_run l 0 (suc (n + m)) w) (run_here u us n v)
    ∙ run_here v (with_run us 0 n v) (n + m) w
    ∙ ap (λ l. w ∷ l) (again_with_more us 0 n m v w (omega arith) (are_tail w u us n h))
    ∙ ap (λ b. b ∷ with_run us (0 + n) m w) (sym (are_head w u us n h))
    ∙ sym (run_there u us (0 + n) m w)
    ∙ ap (λ k. with_run (u ∷ us) k m w) place
again_with_more [] (suc q) n m v w within h = absurd (omega arith)
again_with_more (u ∷ us) (suc q) n m v w within h =
    let place : suc (q + n) ≡ suc q + n = omega arith in
    ap (λ l. with_run l (suc q) (n + m) w) (run_there u us q n v)
    ∙ run_there u (with_run us q n v) q (n + m) w
    ∙ ap (λ l. u ∷ l) (again_with_more us q n m v w (omega arith) (are_there w u us q n h))
    ∙ sym (run_there u us (q + n) m w)
    ∙ ap (λ k. with_run (u ∷ us) k m w) place

-- the run itself
pub are_run : (us : List Bool) (q n : ℕ) (v : Bool) → q + n ≤ length us → Are v (with_run us q n v) q (q + n)
are_run us zero zero v within = λ k d low high. absurd (omega arith)
are_run [] zero (suc n) v within = absurd (omega arith)
are_run (u ∷ us) zero (suc n) v within = subst (λ l. Are v l 0 (0 + suc n)) (sym (run_here u us n v)) (are_cons v v (with_run us 0 n v) n refl (are_run us 0 n v (omega arith)))
are_run [] (suc q) n v within = absurd (omega arith)
are_run (u ∷ us) (suc q) n v within = subst (λ l. Are v l (suc q) (suc q + n)) (sym (run_there u us q n v)) (are_behind v u (with_run us q n v) q n (are_run us q n v (omega arith)))

-- and what is behind it
pub are_run_and_more : (us : List Bool) (q n m : ℕ) (v : Bool) → q + (n + m) ≤ length us → Are v us (q + n) (q + n + m) → Are v (with_run us q n v) q (q + (n + m))
are_run_and_more us zero zero m v within h = λ k d low high. h k d (omega arith) (omega arith)
are_run_and_more [] zero (suc n) m v within h = absurd (omega arith)
are_run_and_more (u ∷ us) zero (suc n) m v within h =
    let rest : Are v us (0 + n) (0 + n + m) = λ k d low high. h (suc k) d (omega arith) (omega arith) in
    let deeper = are_cons v v (with_run us 0 n v) (n + m) refl (are_run_and_more us 0 n m v (omega arith) rest) in
    subst (λ l. Are v l 0 (0 + (suc n + m))) (sym (run_here u us n v)) (λ k d low high. deeper k d low (omega arith))
are_run_and_more [] (suc q) n m v within h = absurd (omega arith)
are_run_and_more (u ∷ us) (suc q) n m v within h =
    let rest : Are v us (q + n) (q + n + m) = λ k d low high. h (suc k) d (omega arith) (omega arith) in
    subst (λ l. Are v l (suc q) (suc q + (n + m))) (sym (run_there u us q n v)) (are_behind v u (with_run us q n v) q (n + m) (are_run_and_more us q n m v (omega arith) rest))

-- a bit that is cleared and set again
pub set_again : (bs : List Bool) (q : ℕ) → q < length bs → get_or bs q false ≡ true → set (set bs q false) q true ≡ bs
set_again bs q within h = set-set bs q false true ∙ ap (λ b. set bs q b) (sym h) ∙ set-get_or bs q false

-- as many bits
pub length_run : (us : List Bool) (q n : ℕ) (v : Bool) → q + n ≤ length us → length (with_run us q n v) ≡ length us
length_run us zero zero v within = refl
length_run [] zero (suc n) v within = absurd (omega arith)
length_run (u ∷ us) zero (suc n) v within = ap length (run_here u us n v) ∙ ap suc (length_run us 0 n v (omega arith))
length_run [] (suc q) n v within = absurd (omega arith)
length_run (u ∷ us) (suc q) n v within = ap length (run_there u us q n v) ∙ ap suc (length_run us q n v (omega arith))

-- one bit in front
shifted : (u : Bool) (us : List Bool) (i i' j : ℕ) (v : Bool) → i' ≡ suc i → Are v us i (j - 1) → Are v (u ∷ us) i' j
shifted u us i i' j v e h zero d low high = absurd (omega arith)
shifted u us i i' j v e h (suc k) d low high = h k d (omega arith) (omega arith)

-- what is behind a run is as before
pub are_past_run : (us : List Bool) (q n j : ℕ) (v w : Bool) → q + n ≤ length us → Are v (with_run us q n w) (q + n) j → Are v us (q + n) j
are_past_run us zero zero j v w within h = h
are_past_run [] zero (suc n) j v w within h = absurd (omega arith)
are_past_run (u ∷ us) zero (suc n) j v w within h =
    let here : Are v (w ∷ with_run us 0 n w) (0 + suc n) j = subst (λ l. Are v l (0 + suc n) j) (run_here u us n w) h in
    let rest : Are v us (0 + n) (j - 1) = are_past_run us 0 n (j - 1) v w (omega arith) (λ k d low high. here (suc k) d (omega arith) (omega arith)) in
    shifted u us (0 + n) (0 + suc n) j v (omega arith) rest
are_past_run [] (suc q) n j v w within h = absurd (omega arith)
are_past_run (u ∷ us) (suc q) n j v w within h =
    let here : Are v (u ∷ with_run us q n w) (suc q + n) j = subst (λ l. Are v l (suc q + n) j) (run_there u us q n w) h in
    let rest : Are v us (q + n) (j - 1) = are_past_run us q n (j - 1) v w (omega arith) (λ k d low high. here (suc k) d (omega arith) (omega arith)) in
    shifted u us (q + n) (suc q + n) j v (omega arith) rest

-- what was read
pub read : (xs : List Bool) (i : ℕ) (r : Bool) → i < length xs → slice_get xs i ≡ Some r → get_or xs i false ≡ r
read xs i r within e = let was = slice_get-get_or xs i false within in let both : Some (get_or xs i false) ≡ Some r = sym was ∙ e in cc
