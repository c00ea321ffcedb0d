use Rattle.std.proofs.Common.{refl}
use Rattle.mz_events.specs.Effect.{after}
use Rattle.mz_events.proofs.laws.entries.greatest_after_an_event.Goals as goal

pub returns : goal.returns
unfolding after
returns c p s d e = refl
