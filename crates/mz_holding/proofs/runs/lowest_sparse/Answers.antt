use Rattle.std.proofs.Common.{arith}
use Rattle.mz_holding.proofs.RunLemmas.{used_within}
use Rattle.mz_holding.proofs.runs.lowest_sparse.Goals as goal

pub overflow_mul-used : goal.overflow_mul-used
overflow_mul-used c =
    let fits = used_within c.held-item.result in
    let limit = c.held-item.result.sound.1 in
    let is = c.used.ensures in
    omega arith
