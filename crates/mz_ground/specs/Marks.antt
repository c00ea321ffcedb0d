-- Writing over a part of a list. This project's own.
use Rattle.std.specs.Prelude.{◌≡◌, ℕ, ◌+◌, List, ◌++◌, length, take, drop, replicate}

-- xs with ys in the place of as many items from the n-th on
abbrev pub written : {X : Type 0} → List X → ℕ → List X → List X
written xs n ys = take n xs ++ (ys ++ drop (n + length ys) xs)

-- flags with the n of them from the q-th on set to v
abbrev pub marked : {X : Type 0} → List X → ℕ → ℕ → X → List X
marked flags q n v = take q flags ++ (replicate n v ++ drop (q + n) flags)

-- the n items of xs from the q-th on are all v
abbrev pub AreAll : {X : Type 0} → List X → ℕ → ℕ → X → Type 0
AreAll xs q n v = take n (drop q xs) ≡ replicate n v
