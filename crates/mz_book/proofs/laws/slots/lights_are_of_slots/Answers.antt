use Rattle.mz_book.proofs.WordLemmas.{light_few}
use Rattle.mz_book.proofs.laws.slots.lights_are_of_slots.Goals as goal

pub returns : goal.returns
returns c = light_few c.of_histories.ensures
