use Rattle.mz_rack.specs.FreeStages.{PassedBy}
use Rattle.mz_rack.proofs.home.look_in_regions.Given as goal

-- the block wasn't found so far
abbrev pub invariant-loop-mag : goal.invariant-loop-mag
invariant-loop-mag g l = PassedBy (g.B.Book.account l.fn.book) (g.B.Book.account l.book)
