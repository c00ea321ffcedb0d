-- What a write does to the bytes that a sink has taken, where it tells them. What a read does to
-- the bytes that a source has left is std's `ReadConsumes`. This project's own.
use Rattle.std.specs.Prelude.{◌≡◌, ℕ, List, [], ◌++◌, take, ⊤, Option, Some, None, Result, MatchResult}

-- What is told now was told before, and has grown at its end by just these bytes.
abbrev pub Takes : Option (List ℕ) → Option (List ℕ) → List ℕ → Type 0
Takes before None bytes = ⊤
Takes None (Some ys) bytes = ⊥
Takes (Some xs) (Some ys) bytes = ys ≡ xs ++ bytes

-- a write took the first n bytes of the piece at `Ok(n)`, and nothing at `Err`
abbrev pub WriteTakes : {E : Type 0} → Option (List ℕ) → Option (List ℕ) → Result ℕ E → List ℕ → Type 0
WriteTakes before after result piece = MatchResult result (λ n. Takes before after (take n piece)) (λ _. Takes before after [])
