use Rattle.mz_base.proofs.SpaceLemmas.{least_multiple_lem}
use Rattle.mz_base.proofs.laws.multiple_is_least.Goals as goal

pub returns : goal.returns
returns c = least_multiple_lem
