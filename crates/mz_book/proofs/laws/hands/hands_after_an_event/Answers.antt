use Rattle.mz_book.proofs.PairLemmas.{hand_is, hand_other}
use Rattle.mz_book.proofs.HandLemmas.{hand_through_all}
use Rattle.mz_book.proofs.laws.hands.hands_after_an_event.Goals as goal

pub returns-clause-own : goal.returns-clause-own
returns-clause-own c = hand_is

pub returns-clause-others : goal.returns-clause-others
returns-clause-others c = hand_other

pub returns-clause-through : goal.returns-clause-through
returns-clause-through c = hand_through_all
