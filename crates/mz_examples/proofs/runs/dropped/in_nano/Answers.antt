use Rattle.std.proofs.Common.{refl}
use Rattle.mz_events.specs.declared.place.Place.TheVariants.{Nano}
use Rattle.mz_events.specs.State.{look_up, write}
use Rattle.mz_base.specs.Lists.{insert_by}
use Rattle.mz_events.specs.Room.{best_fit}
use Rattle.mz_events.specs.Effect.{write_all, after}
use Rattle.mz_events.specs.Rules.{keeps}
use Rattle.mz_events.specs.History.{after_all, by_ticket, first_breach}
use Rattle.mz_examples.proofs.runs.dropped.in_nano.Goals as goal

pub returns : goal.returns
unfolding look_up write insert_by best_fit write_all after keeps after_all by_ticket first_breach
returns c = (Nano, refl, refl)
