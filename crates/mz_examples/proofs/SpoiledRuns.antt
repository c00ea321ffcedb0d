-- A run with a record that doesn't fit isn't lawful.
use Rattle.std.proofs.Common.{ℕ, zero, suc, List, [], ◌∷◌}
use Rattle.std.specs.List.{AllByRecursion}
use Rattle.mz_lawful.specs.Fitting.{FitsRecord}
use Rattle.mz_lawful.specs.LawfulRun.{Placed}
use Rattle.mz_examples.specs.Spoiled.{AtRecord}

-- where something holds of one of them that no fitting record has, not all records fit
pub some_unfit :
    (P : Placed → Type 0) → ((x : Placed) → P x → FitsRecord x.setting x.deed → ⊥) → (xs : List Placed) (i : ℕ) → AtRecord P xs i
    → AllByRecursion (λ x. FitsRecord x.setting x.deed) xs → ⊥
some_unfit P apart [] i at all = at
some_unfit P apart (x ∷ xs) zero at all = apart x at all.0
some_unfit P apart (x ∷ xs) (suc i) at all = some_unfit P apart xs i at all.1
