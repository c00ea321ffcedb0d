use Rattle.std.proofs.Common.{refl}
use Rattle.mz_events.specs.State.{look_up, write}
use Rattle.mz_base.specs.Lists.{insert_by}
use Rattle.mz_events.specs.Room.{best_fit}
use Rattle.mz_events.specs.Effect.{write_all, after}
use Rattle.mz_events.specs.Rules.{keeps}
use Rattle.mz_events.specs.History.{after_all, by_ticket, first_breach}
use Rattle.mz_examples.proofs.histories.edges.second_zone.Goals as goal

pub returns-clause-own : goal.returns-clause-own
unfolding look_up write insert_by best_fit write_all after keeps after_all by_ticket first_breach
returns-clause-own c = refl

pub returns-clause-block : goal.returns-clause-block
unfolding look_up write insert_by best_fit write_all after keeps after_all by_ticket first_breach
returns-clause-block c = refl

pub returns-clause-runs : goal.returns-clause-runs
unfolding look_up write insert_by best_fit write_all after keeps after_all by_ticket first_breach
returns-clause-runs c = refl
