use Rattle.mz_book.proofs.HandLemmas.{slot_owned, slot_fresh, slot_made, slot_ended}
use Rattle.mz_book.proofs.laws.slots.slots_in_the_hand.Goals as goal

pub returns-clause-owned : goal.returns-clause-owned
returns-clause-owned c = slot_owned

pub returns-clause-fresh : goal.returns-clause-fresh
returns-clause-fresh c = slot_fresh

pub returns-clause-made : goal.returns-clause-made
returns-clause-made c = slot_made

pub returns-clause-ended : goal.returns-clause-ended
returns-clause-ended c = slot_ended c.of_histories.ensures
