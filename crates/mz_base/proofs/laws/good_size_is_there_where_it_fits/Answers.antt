use Rattle.mz_base.proofs.SizeLemmas.{good_size_within-is_some}
use Rattle.mz_base.proofs.laws.good_size_is_there_where_it_fits.Goals as goal

pub returns : goal.returns
returns c = good_size_within-is_some
