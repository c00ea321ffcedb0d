use Rattle.std.proofs.Common.{refl}
use Rattle.mz_events.specs.State.{look_up, write}
use Rattle.mz_base.specs.Lists.{insert_by}
use Rattle.mz_events.specs.Room.{best_fit}
use Rattle.mz_events.specs.Effect.{write_all, after}
use Rattle.mz_events.specs.Rules.{keeps}
use Rattle.mz_events.specs.History.{after_all, by_ticket, first_breach}
use Rattle.mz_examples.specs.Zones.{regions_for_two_zones, other_ends}
use Rattle.mz_examples.proofs.histories.zones.other_zone_stays.Goals as goal

pub returns-clause-lawful : goal.returns-clause-lawful
unfolding look_up write insert_by best_fit write_all after keeps after_all by_ticket first_breach
returns-clause-lawful c = (c.lawful_without_breach.ensures regions_for_two_zones other_ends).0 refl

pub returns-clause-untouched : goal.returns-clause-untouched
unfolding look_up write insert_by best_fit write_all after keeps after_all by_ticket first_breach
returns-clause-untouched c = refl

pub returns-clause-ended : goal.returns-clause-ended
unfolding look_up write insert_by best_fit write_all after keeps after_all by_ticket first_breach
returns-clause-ended c = refl

pub returns-clause-stays : goal.returns-clause-stays
unfolding look_up write insert_by best_fit write_all after keeps after_all by_ticket first_breach
returns-clause-stays c = refl
