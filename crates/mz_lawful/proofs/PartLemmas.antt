-- Records and rounds in parts.
use Rattle.std.proofs.Common.{◌≡◌, List, [], ◌∷◌, ◌++◌, ap, sym, refl, ◌∙◌, append_assoc}
use Rattle.mz_trace.specs.declared.run.RunRound.{RunRound}
use Rattle.mz_lawful.specs.Records.{LineRecord}
use Rattle.mz_lawful.specs.Settings.{Setting}
use Rattle.mz_lawful.specs.LawfulRun.{Placed, behind, placed, behind_all, placed_round, after_round, placed_rounds, after_rounds}

pub records_in_parts : (s : Setting) (front back : List LineRecord) → placed s (front ++ back) ≡ placed s front ++ placed (behind_all s front) back
records_in_parts s [] back = refl
records_in_parts s (d ∷ ds) back = ap (λ (xs : List Placed). record { setting = s; deed = d } ∷ xs) (records_in_parts (behind s d) ds back)

pub rounds_in_parts : (s : Setting) (front back : List RunRound) → placed_rounds s (front ++ back) ≡ placed_rounds s front ++ placed_rounds (after_rounds s front) back
rounds_in_parts s [] back = refl
rounds_in_parts s (r ∷ rs) back =
    ap (λ (xs : List Placed). placed_round s r ++ xs) (rounds_in_parts (after_round s r) rs back)
    ∙ sym (append_assoc (placed_round s r) (placed_rounds (after_round s r) rs) (placed_rounds (after_rounds (after_round s r) rs) back))
