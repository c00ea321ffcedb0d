-- What a sink takes in one call after another.
use Rattle.std.proofs.Common.{ℕ, ◌+◌, ◌-◌, List, ◌++◌, length, take, drop, ap, ◌∙◌, append_assoc}
use Rattle.std.proofs.Math.Seq.{take-add}
use Rattle.std.proofs.lemmas.List.{take_rest}
use Rattle.std.specs.Prelude.{Option, Some, None}
use Rattle.mz_io.specs.Stream.{Takes}

-- what two calls took, one after the other
Takes-trans : (a b c : Option (List ℕ)) (bs cs : List ℕ) → Takes a b bs → Takes b c cs → Takes a c (bs ++ cs)
Takes-trans None b None bs cs p q = tt
Takes-trans (Some x) b None bs cs p q = tt
Takes-trans a None (Some z) bs cs p q = absurd q
Takes-trans None (Some y) (Some z) bs cs p q = absurd p
Takes-trans (Some x) (Some y) (Some z) bs cs p q = q ∙ ap (λ l. l ++ cs) p ∙ append_assoc x bs cs

-- a piece written up to `at`, and then n bytes of the rest, `&piece[at..]`
pub Takes-more : (a b c : Option (List ℕ)) (piece : List ℕ) (at n : ℕ) → Takes a b (take at piece) → Takes b c (take n (take (length piece - at) (drop at piece))) → Takes a c (take (at + n) piece)
Takes-more a b c piece at n p q = rw take-add (Takes-trans a b c (take at piece) (take n (drop at piece)) p (rw take_rest at q))
