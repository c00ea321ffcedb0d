use Rattle.mz_lists.proofs.WordLemmas.{with_set}
use Rattle.mz_lists.proofs.words.with_bit.Goals as goal

pub returns : goal.returns
returns c = with_set c.args.word c.args.i c.requires
