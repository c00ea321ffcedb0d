use Rattle.std.proofs.Common.{arith}
use Rattle.mz_holding.proofs.RunLemmas.{used_within}
use Rattle.mz_holding.proofs.QueryLemmas.{used_sum}
use Rattle.mz_holding.proofs.KeptLemmas.{size_fits}
use Rattle.mz_holding.proofs.holding.Holding.fill_run.Goals as goal

pub overflow_add-self : goal.overflow_add-self
overflow_add-self c =
    let hs = c.self.inside.runs.items in
    let all = c.self.invariant.all in
    let size = size_fits hs c.self.invariant.in_order in
    let is = used_sum hs in
    let own = used_within c.args.held in
    let limit = c.args.held.sound.1 in
    let same = c.used.ensures in
    omega arith
