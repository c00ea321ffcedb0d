use Rattle.mz_events.proofs.FormLemmas.{cached_after}
use Rattle.mz_events.proofs.laws.separation.cached_runs_are_idle.Goals as goal

pub returns : goal.returns
returns c = cached_after
