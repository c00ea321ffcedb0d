use Rattle.std.proofs.Common.{◌-◌, length}
use Rattle.mz_pages.proofs.FreeRunLemmas.{Passed}
use Rattle.mz_pages.proofs.search.lowest_in.Given as goal

abbrev pub invariant-loop-i : goal.invariant-loop-i
invariant-loop-i l = Passed l.first l.out l.w l.al l.from

abbrev pub decreases-loop-i : goal.decreases-loop-i
decreases-loop-i l = length l.out - l.from
