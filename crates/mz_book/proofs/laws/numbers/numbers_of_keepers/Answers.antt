use Rattle.mz_book.proofs.NumberLemmas.{number_below, place_number, number_place, exists_number, not_nano}
use Rattle.mz_book.proofs.laws.numbers.numbers_of_keepers.Goals as goal

pub returns-clause-number : goal.returns-clause-number
returns-clause-number c = number_below

pub returns-clause-place : goal.returns-clause-place
returns-clause-place c = place_number

pub returns-clause-back : goal.returns-clause-back
returns-clause-back c = number_place

pub returns-clause-exists : goal.returns-clause-exists
returns-clause-exists c p k l = exists_number p k

pub returns-clause-not_nano : goal.returns-clause-not_nano
returns-clause-not_nano c = not_nano
