use Rattle.mz_book.proofs.NumberLemmas.{held_place}
use Rattle.mz_book.proofs.laws.numbers.held_places.Goals as goal

pub returns-clause-place : goal.returns-clause-place
returns-clause-place c = held_place
