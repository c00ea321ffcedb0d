use Rattle.mz_book.proofs.HandedLemmas.{hand_since, handed_more, goes_on}
use Rattle.mz_book.proofs.laws.owners.owners_after_entries.Goals as goal

pub returns-clause-hands : goal.returns-clause-hands
returns-clause-hands c = hand_since

pub returns-clause-more : goal.returns-clause-more
returns-clause-more c = handed_more

pub returns-clause-owners : goal.returns-clause-owners
returns-clause-owners c p before later quanta ok len one h = goes_on c.of_histories.ensures p (c.live_bytes_fit_the_space.ensures p) (c.live_blocks_after_an_event.ensures p) later before quanta ok len one h
