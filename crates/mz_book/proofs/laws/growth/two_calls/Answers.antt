use Rattle.std.proofs.Common.{◌∷◌, [], subst}
use Rattle.mz_book.specs.Account.{entry_at}
use Rattle.mz_book.specs.Growth.{GrowsHolding}
use Rattle.mz_book.proofs.laws.growth.two_calls.Goals as goal

pub returns-clause-hold_then_note : goal.returns-clause-hold_then_note
returns-clause-hold_then_note c s t u k n e h can z m =
    let L = c.growth_of_calls.ensures in
    let a = L.hold s t k h in
    let j = L.joined s t u [] (entry_at n t.caller e ∷ []) 1 0 a (L.note t u e n can z m) in
    subst (λ i. GrowsHolding s (entry_at n i e ∷ []) 1 u) a.grows.adds.same.caller j

pub returns-clause-note_then_note : goal.returns-clause-note_then_note
returns-clause-note_then_note c s t u d e m n can z h can2 z2 h2 =
    let L = c.growth_of_calls.ensures in
    let a = L.note s t d m can z h in
    let j = L.joined s t u (entry_at m s.caller d ∷ []) (entry_at n t.caller e ∷ []) 0 0 a (L.note t u e n can2 z2 h2) in
    subst (λ i. GrowsHolding s (entry_at m s.caller d ∷ entry_at n i e ∷ []) 0 u) a.grows.adds.same.caller j

pub returns-clause-note_then_release : goal.returns-clause-note_then_release
returns-clause-note_then_release c s t u e n k can z h r =
    let L = c.growth_of_calls.ensures in
    L.release s t u (entry_at n s.caller e ∷ []) 0 k ((L.note s t e n can z h).grows) r
