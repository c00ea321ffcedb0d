use Rattle.mz_base.proofs.IdleRunLemmas.{is_front_within-is}
use Rattle.mz_base.proofs.laws.front_is_of_an_idle_run.Goals as goal

pub returns : goal.returns
returns c = is_front_within-is
