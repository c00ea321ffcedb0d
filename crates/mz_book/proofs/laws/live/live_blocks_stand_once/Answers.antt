use Rattle.mz_events.specs.State.{live_blocks}
use Rattle.mz_book.proofs.SumLemmas.{live_once, times_sorted, sums_agree}
use Rattle.mz_book.proofs.laws.live.live_blocks_stand_once.Goals as goal

pub returns-clause-once : goal.returns-clause-once
returns-clause-once c = live_once c.of_histories.ensures

pub returns-clause-in_order : goal.returns-clause-in_order
returns-clause-in_order c s b = times_sorted b (live_blocks s)

pub returns-clause-sums : goal.returns-clause-sums
returns-clause-sums c = sums_agree
