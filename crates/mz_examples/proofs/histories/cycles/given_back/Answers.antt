use Rattle.std.proofs.Common.{refl}
use Rattle.mz_events.specs.State.{look_up, write}
use Rattle.mz_base.specs.Lists.{insert_by}
use Rattle.mz_events.specs.Room.{best_fit}
use Rattle.mz_events.specs.Effect.{write_all, after}
use Rattle.mz_events.specs.Rules.{keeps}
use Rattle.mz_events.specs.History.{after_all, by_ticket, first_breach}
use Rattle.mz_examples.specs.Cycles.{two_regions, given_back}
use Rattle.mz_examples.proofs.histories.cycles.given_back.Goals as goal

pub returns-clause-lawful : goal.returns-clause-lawful
unfolding look_up write insert_by best_fit write_all after keeps after_all by_ticket first_breach
returns-clause-lawful c = (c.lawful_without_breach.ensures two_regions given_back).0 refl

pub returns-clause-runs : goal.returns-clause-runs
unfolding look_up write insert_by best_fit write_all after keeps after_all by_ticket first_breach
returns-clause-runs c = refl
