-- What a block shows of the bytes of another, from which it was made.
use Rattle.std.proofs.Common.{◌≡◌, ℕ, ◌-◌, ◌≤◌, true, List, [], ◌∷◌, ◌++◌, Some, length, take, drop, min, map, refl, ap, sym, subst, ◌∙◌, arith, length-append, length-drop}
use Rattle.std.proofs.lemmas.Bool.{eq-eqb}
use Rattle.std.proofs.lemmas.List.{take-map, take_min, length-take, length-take-le}
use Rattle.mz_record.specs.Bytes.{Bytes, fresh, kept, is_shown_as}
use Rattle.mz_zone.specs.ZoneLaws.{ZoneLaws}

-- bytes that are known, and others behind them
known_front : (xs : List ℕ) (rest : Bytes) (ys : List ℕ) → is_shown_as rest ys ≡ true → is_shown_as (map (λ x. Some x) xs ++ rest) (xs ++ ys) ≡ true
known_front [] rest ys h = h
known_front (x ∷ xs) rest ys h = rw (eq-eqb x x refl) (known_front xs rest ys h)

min_length : (n : ℕ) (xs : List ℕ) → length (take (min n (length xs)) xs) ≡ min n (length xs)
min_length n xs = length-take-le (min n (length xs)) xs (omega arith)

-- the first n of some bytes, as many as there are, and any others behind them
pub shown_kept : (laws : ZoneLaws) (n : ℕ) (bs ys : List ℕ) → let ws = take (min n (length bs)) bs ++ ys in is_shown_as (kept n (length ws) (map (λ x. Some x) bs)) ws ≡ true
shown_kept laws n bs ys =
    let xs : List ℕ = take (min n (length bs)) bs in
    let front : take n (map (λ x. Some x) bs) ≡ map (λ x. Some x) xs = take-map (λ x. Some x) n bs ∙ ap (map (λ x. Some x)) (sym (take_min n bs)) in
    let long : length (take n (map (λ x. Some x) bs)) ≡ length xs = ap length front ∙ length-map_known xs in
    let rest : length (xs ++ ys) - length (take n (map (λ x. Some x) bs)) ≡ length ys = let l = length-append xs ys in omega (arith, long, l) in
    subst (λ known. is_shown_as known (xs ++ ys) ≡ true) (sym (ap (λ (fs : Bytes). fs ++ fresh (length (xs ++ ys) - length (take n (map (λ x. Some x) bs)))) front ∙ ap (λ k. map (λ x. Some x) xs ++ fresh k) rest))
    (known_front xs (fresh (length ys)) ys (laws.unknown ys))
  where
    length-map_known : (zs : List ℕ) → length (map (λ x. Some x) zs) ≡ length zs
    length-map_known [] = refl
    length-map_known (z ∷ zs) = let h = length-map_known zs in omega (arith, h)

-- bytes that are written over the first of others are as many
pub written_length : (n : ℕ) (bs cs : List ℕ) → n ≤ length cs → let k = min (length bs) n in length (take k bs ++ drop k cs) ≡ length cs
written_length n bs cs fits = simp (length-append, length-take, length-drop) (omega arith)
