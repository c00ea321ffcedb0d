use Rattle.std.proofs.Common.{length}
use Rattle.mz_words.proofs.flaw.+some_wrong.Given as goal

abbrev pub decreases-some_wrong : goal.decreases-some_wrong
decreases-some_wrong l = length l.kinds.now
