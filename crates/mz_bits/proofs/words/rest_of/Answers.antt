use Rattle.mz_bits.proofs.WordLemmas.{rest_is, rest_flipped}
use Rattle.mz_bits.proofs.words.rest_of.Goals as goal

pub returns-then-value : goal.returns-then-value
returns-then-value c = rw c.if-value.true (rest_is c.args.word c.args.from c.ranges.word.fits c.requires)

pub returns-else-value : goal.returns-else-value
returns-else-value c = rw c.if-value.false (rest_flipped c.args.word c.args.from c.ranges.word.fits c.requires)
