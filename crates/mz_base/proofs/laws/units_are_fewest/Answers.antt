use Rattle.mz_base.proofs.SpaceLemmas.{units_for_lem}
use Rattle.mz_base.proofs.laws.units_are_fewest.Goals as goal

pub returns : goal.returns
returns c = units_for_lem
