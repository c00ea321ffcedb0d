use Rattle.mz_book.proofs.NanoLemmas.{owned_slot}
use Rattle.mz_book.proofs.NoteLemmas.{one_owner}
use Rattle.mz_book.proofs.laws.notes.slots_are_in_one_hand.Goals as goal

pub returns-clause-live : goal.returns-clause-live
returns-clause-live c = λ p es pairs d b j ok one h. owned_slot c.of_histories.ensures p es ok pairs d b j one h

pub returns-clause-one : goal.returns-clause-one
returns-clause-one c = λ p es pairs d e b j ok one h i. one_owner c.of_histories.ensures p es ok pairs d e b j one h i
