use Rattle.mz_book.proofs.SumLemmas.{sums_after}
use Rattle.mz_book.proofs.laws.live.live_sums_after_an_event.Goals as goal

pub returns : goal.returns
returns c p es d e ok f = sums_after c.of_histories.ensures p es d ok e f
