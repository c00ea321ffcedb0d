use Rattle.std.proofs.Common.{◌-◌}
use Rattle.mz_words.specs.declared.count.TheConstants.{MOST_IN_BATCH}
use Rattle.mz_session.proofs.InTurnLemmas.{Unbatched}
use Rattle.mz_session.proofs.session.Session.unbatch.Given as goal

-- so many blocks of the batch have ended, in the order of their numbers
abbrev pub invariant-loop-index : goal.invariant-loop-index
invariant-loop-index g l = record { begun : Unbatched l.fn.self l.self l.name l.freed }

abbrev pub decreases-loop-index : goal.decreases-loop-index
decreases-loop-index g l = MOST_IN_BATCH - l.freed
