-- What a source has given, piece after piece.
use Rattle.std.proofs.Common.{◌≡◌, ◌∙◌, ◌+◌, ◌≤◌, List, ℕ, ◌++◌, length, take, ap, append_assoc, arith, Option, Some, None, Result, Ok, Err}
use Rattle.std.specs.Prelude.{OnErr}
use Rattle.std.specs.Io.KnownBytes.{Consumes}
use Rattle.std.proofs.lemmas.List.{length-append, length-take-le}
use Rattle.mz_run.specs.Top.{most_bytes, IsBounded}

gave_both : (before mid after : Option (List ℕ)) (xs ys : List ℕ) → Consumes before mid xs → Consumes mid after ys → Consumes before after (xs ++ ys)
gave_both None mid after xs ys h k = tt
gave_both (Some before) None after xs ys h k = absurd h
gave_both (Some before) (Some mid) None xs ys h k = absurd k
gave_both (Some before) (Some mid) (Some after) xs ys h k = h ∙ ap (λ (l : List ℕ). xs ++ l) k ∙ (let same : xs ++ (ys ++ after) ≡ xs ++ ys ++ after = simp append_assoc in same)

-- where a piece of n bytes came behind others, and there is no room to keep it
pub bounded_more :
    {A E : Type 0} (r : Result A E) (before mid after : Option (List ℕ)) (xs piece : List ℕ) (n : ℕ) → Consumes before mid xs → Consumes mid after (take n piece)
    → n ≤ length piece → length xs + length piece ≤ most_bytes + 1 → OnErr r (IsBounded before after)
bounded_more (Ok x) before mid after xs piece n h k within few = tt
bounded_more (Err e) before mid after xs piece n h k within few = record {
  bytes = xs ++ take n piece;
  read = gave_both before mid after xs (take n piece) h k;
  few = omega (arith, length-append xs (take n piece), length-take-le n piece within);
}
