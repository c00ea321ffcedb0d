use Rattle.std.proofs.Common.{ap, ◌∙◌, ◌++◌, [], ◌∷◌}
use Rattle.mz_events.proofs.EntryLemmas.{own-append, own-one, own-not_mine, hand_through-append, hand_of-append, hand_of-one}
use Rattle.mz_events.specs.Hands.{own, hand_through}
use Rattle.mz_events.proofs.laws.entries.own_entries_and_hands.Goals as goal

pub returns-clause-own : goal.returns-clause-own
returns-clause-own c = own-append

pub returns-clause-mine : goal.returns-clause-mine
returns-clause-mine c k xs e h = own-append k xs (e ∷ []) ∙ ap (λ ys. own k xs ++ ys) (own-one k e h)

pub returns-clause-not_mine : goal.returns-clause-not_mine
returns-clause-not_mine c = own-not_mine

pub returns-clause-through : goal.returns-clause-through
returns-clause-through c = hand_through-append

pub returns-clause-hand : goal.returns-clause-hand
returns-clause-hand c = hand_of-append

pub returns-clause-hand_mine : goal.returns-clause-hand_mine
returns-clause-hand_mine c = hand_of-one

pub returns-clause-hand_not_mine : goal.returns-clause-hand_not_mine
returns-clause-hand_not_mine c k xs e h = ap (hand_through []) (own-not_mine k xs e h)
