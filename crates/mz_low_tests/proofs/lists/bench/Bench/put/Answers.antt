use Rattle.std.proofs.Common.{◌<◌, ◌≤◌, length, rules}
use Rattle.mz_low_tests.proofs.PlainLemmas.{alike_put}
use Rattle.mz_low_tests.proofs.lists.bench.Bench.put.Goals as goal

pub invariant_of-self : goal.invariant_of-self
invariant_of-self g c =
    let a = c.args.self.now.alike in
    let low : c.args.q < length c.args.self.now.plain.items = search rules in
    let some : 1 ≤ c.min-n.result = search rules in
    record { alike = alike_put _ _ _ c.args.q c.min-n.result a c.put.ensures.made low some }
