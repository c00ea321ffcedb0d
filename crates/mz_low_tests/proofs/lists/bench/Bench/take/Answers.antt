use Rattle.std.proofs.Common.{◌<◌, length, rules}
use Rattle.mz_low_tests.proofs.PlainLemmas.{alike_take}
use Rattle.mz_low_tests.proofs.lists.bench.Bench.take.Goals as goal

pub invariant_of-self : goal.invariant_of-self
invariant_of-self g c =
    let low : c.args.q < length c.args.self.now.plain.items = search rules in
    record { alike = alike_take _ _ _ c.args.q c.args.self.now.alike c.take.ensures.taken low }
