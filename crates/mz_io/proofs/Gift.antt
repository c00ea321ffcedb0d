-- What a copy to the front of a buffer shows of a read.
use Rattle.std.proofs.Common.{◌≡◌, ℕ, ◌+◌, ◌-◌, ◌<◌, List, [], ◌++◌, length, take, drop, min, sym, arith}
use Rattle.std.proofs.lemmas.List.{take-append-drop, nil_from_length, drop-drop, take_rest}

-- a read that gave the first n of the bytes xs, where there was room for `most`, and left ys
gives : (xs ys buf : List ℕ) (most n : ℕ) → n ≡ min most (length xs) → take n buf ≡ take n xs → ys ≡ drop n xs → (0 < length buf → 0 < most) → (xs ≡ take n buf ++ ys) × (n ≡ 0 → 0 < length buf → ys ≡ [])
gives xs ys buf most n count front rest roomy = (rw (front, rest) (sym (take-append-drop n xs)), λ none room. at_end none (roomy room))
  where
    at_end : n ≡ 0 → 0 < most → ys ≡ []
    at_end none some = rw (rest, none) (nil_from_length xs (omega arith))

-- the same, where the bytes are those of a list from a place on
pub gives_from : (all buf : List ℕ) (at most n : ℕ) → n ≡ min most (length (take (length all - at) (drop at all))) → take n buf ≡ take n (take (length all - at) (drop at all)) → (0 < length buf → 0 < most) → (drop at all ≡ take n buf ++ drop (at + n) all) × (n ≡ 0 → 0 < length buf → drop (at + n) all ≡ [])
gives_from all buf at most n count front roomy =
    gives (drop at all) (drop (at + n) all) buf most n (rw take_rest at count) (rw take_rest at front) (sym (drop-drop n at all)) roomy
