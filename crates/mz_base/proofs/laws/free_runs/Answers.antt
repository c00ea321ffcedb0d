use Rattle.mz_base.proofs.FreeRunLemmas.{free_from_some, some_from_free, lowest_from_test, test_from_lowest}
use Rattle.mz_base.proofs.laws.free_runs.Goals as goal

pub returns-clause-some : goal.returns-clause-some
returns-clause-some c top w al taken whole = (some_from_free top taken w al whole, free_from_some top taken w al whole)

pub returns-clause-lowest : goal.returns-clause-lowest
returns-clause-lowest c top al taken r whole = (lowest_from_test top taken r al whole, test_from_lowest top taken r al whole)
