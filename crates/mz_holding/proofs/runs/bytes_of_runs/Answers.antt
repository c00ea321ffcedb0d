use Rattle.std.proofs.Common.{arith}
use Rattle.mz_holding.proofs.OrderLemmas.{total_fits, sum_from}
use Rattle.mz_holding.proofs.runs.bytes_of_runs.Goals as goal

pub overflow_add-all : goal.overflow_add-all
overflow_add-all c =
    let total = total_fits c.args.runs.now c.requires in
    let is = c.loop-held.invariant in
    let test = c.loop-held-test.true in
    let pages = c.pages.ensures in
    let next = sum_from c.args.runs.now c.loop-held.held-index c.held-item.result c.loop-held-test.true c.held-item.is in
    omega arith
