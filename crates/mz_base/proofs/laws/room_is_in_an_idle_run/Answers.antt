use Rattle.mz_base.proofs.IdleRunLemmas.{has_room_within-is}
use Rattle.mz_base.proofs.laws.room_is_in_an_idle_run.Goals as goal

pub returns : goal.returns
returns c = has_room_within-is
