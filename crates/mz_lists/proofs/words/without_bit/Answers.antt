use Rattle.mz_lists.proofs.WordLemmas.{with_cleared}
use Rattle.mz_lists.proofs.words.without_bit.Goals as goal

pub returns : goal.returns
returns c = with_cleared c.args.word c.args.i c.ranges.word.fits c.requires
