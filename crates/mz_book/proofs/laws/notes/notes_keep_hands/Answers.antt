use Rattle.mz_book.proofs.NoteLemmas.{note_is_kept}
use Rattle.mz_book.proofs.laws.notes.notes_keep_hands.Goals as goal

pub returns : goal.returns
returns c = λ s e hands can. note_is_kept c.of_histories.ensures c.live_blocks_after_an_event.ensures s hands e can
