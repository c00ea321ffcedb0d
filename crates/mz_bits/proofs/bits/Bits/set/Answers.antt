use Rattle.std.proofs.Common.{true, ◌∙◌}
use Rattle.mz_bits.proofs.RunLemmas.{with_run-one}
use Rattle.mz_bits.proofs.bits.Bits.set.Goals as goal

pub returns-clause-made : goal.returns-clause-made
returns-clause-made c = c.write.ensures.made ∙ with_run-one c.args.self.now c.args.i true c.requires
