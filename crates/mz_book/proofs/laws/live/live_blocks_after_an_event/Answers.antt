use Rattle.mz_book.proofs.LiveLemmas.{live_after}
use Rattle.mz_book.proofs.laws.live.live_blocks_after_an_event.Goals as goal

pub returns : goal.returns
returns c p es d e b ok f = live_after c.of_histories.ensures p es d ok e b f
