use Rattle.mz_large.specs.Best.{IsBestFrom}
use Rattle.mz_large.proofs.cache.Cache.best.Given as goal

-- the best of those from the i-th on is found
abbrev pub invariant-loop-i : goal.invariant-loop-i
invariant-loop-i l = IsBestFrom l.self-inside.spans.items l.w l.i l.best

abbrev pub decreases-loop-i : goal.decreases-loop-i
decreases-loop-i l = l.i
