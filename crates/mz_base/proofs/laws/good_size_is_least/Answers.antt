use Rattle.mz_base.proofs.SizeLemmas.{good_size_of_lem}
use Rattle.mz_base.proofs.laws.good_size_is_least.Goals as goal

pub returns : goal.returns
returns c = good_size_of_lem
