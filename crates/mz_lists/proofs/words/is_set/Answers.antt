use Rattle.mz_lists.proofs.WordLemmas.{read_bit}
use Rattle.mz_lists.proofs.words.is_set.Goals as goal

pub returns : goal.returns
returns c = read_bit c.args.word c.args.i
