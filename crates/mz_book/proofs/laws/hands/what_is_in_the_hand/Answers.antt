use Rattle.mz_book.proofs.HandLemmas.{in_hand_live, in_hand_somewhere}
use Rattle.mz_book.proofs.laws.hands.what_is_in_the_hand.Goals as goal

pub returns-clause-live : goal.returns-clause-live
returns-clause-live c = in_hand_live

pub returns-clause-somewhere : goal.returns-clause-somewhere
returns-clause-somewhere c = in_hand_somewhere c.of_histories.ensures
