use Rattle.mz_book.proofs.GrowthLemmas.{grows_nothing, grows_hold, grows_tried, grows_note, adds_joined, grows_joined, grows_ended, grows_release, grows_looked}
use Rattle.mz_book.proofs.laws.growth.growth_of_calls.Goals as goal

pub returns-clause-nothing : goal.returns-clause-nothing
returns-clause-nothing c = grows_nothing

pub returns-clause-hold : goal.returns-clause-hold
returns-clause-hold c = grows_hold c.of_histories.ensures

pub returns-clause-gain : goal.returns-clause-gain
returns-clause-gain c = grows_tried c.of_histories.ensures

pub returns-clause-added : goal.returns-clause-added
returns-clause-added c = adds_joined

pub returns-clause-note : goal.returns-clause-note
returns-clause-note c = grows_note c.of_histories.ensures

pub returns-clause-joined : goal.returns-clause-joined
returns-clause-joined c = grows_joined

pub returns-clause-ended : goal.returns-clause-ended
returns-clause-ended c = grows_ended

pub returns-clause-release : goal.returns-clause-release
returns-clause-release c = grows_release

pub returns-clause-looked : goal.returns-clause-looked
returns-clause-looked c = grows_looked
