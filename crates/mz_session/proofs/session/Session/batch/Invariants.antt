use Rattle.std.proofs.Common.{◌-◌}
use Rattle.mz_session.proofs.InTurnLemmas.{Batched}
use Rattle.mz_session.proofs.session.Session.batch.Given as goal

-- so many requests brought blocks, which have the first names of the batch
abbrev pub invariant-loop-got : goal.invariant-loop-got
invariant-loop-got g l = record { begun : Batched l.fn.self l.self l.name l.n l.count l.got }

abbrev pub decreases-loop-got : goal.decreases-loop-got
decreases-loop-got g l = l.count - l.got
