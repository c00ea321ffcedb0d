use Rattle.mz_rack.specs.FreeStages.{PassedBy}
use Rattle.mz_rack.proofs.home.find_home.Given as goal

-- the block wasn't found so far
abbrev pub invariant-loop : goal.invariant-loop
invariant-loop g l = PassedBy (g.B.Book.account l.fn.book) (g.B.Book.account l.book)
