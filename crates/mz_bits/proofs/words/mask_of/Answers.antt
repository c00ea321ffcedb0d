use Rattle.mz_bits.proofs.WordLemmas.{mask_is}
use Rattle.mz_bits.proofs.words.mask_of.Goals as goal

pub returns : goal.returns
returns c = mask_is c.args.from c.args.n c.requires.some c.requires.within
