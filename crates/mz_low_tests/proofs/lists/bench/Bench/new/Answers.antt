use Rattle.mz_low_tests.proofs.PlainLemmas.{alike_new}
use Rattle.mz_low_tests.proofs.lists.bench.Bench.new.Goals as goal

pub invariant_of-result : goal.invariant_of-result
invariant_of-result g c = record {
  alike = alike_new c.args.quanta _ _ c.in_ok-lists.ensures (c.in_ok-plain.ensures.items_if_clones_equal (λ y e. e));
}
