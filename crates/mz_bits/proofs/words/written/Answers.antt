use Rattle.mz_bits.proofs.WordLemmas.{ones_set, ones_cleared}
use Rattle.mz_bits.proofs.words.written.Goals as goal

pub returns-then-value : goal.returns-then-value
returns-then-value c =
    rw c.if-value.true (ones_set c.args.word c.args.from c.args.n c.mask_of-mask.result c.mask_of-mask.ensures)

pub returns-else-value : goal.returns-else-value
returns-else-value c =
    rw c.if-value.false (ones_cleared c.args.word c.args.from c.args.n c.mask_of-mask.result c.requires.within c.mask_of-mask.ensures)
