use Rattle.std.proofs.Common.{refl}
use Rattle.mz_examples.specs.RunsResized.{two_zones_for_two, with_opening}
use Rattle.mz_events.specs.State.{look_up, write}
use Rattle.mz_base.specs.Lists.{insert_by}
use Rattle.mz_events.specs.Room.{best_fit}
use Rattle.mz_events.specs.Effect.{write_all, after}
use Rattle.mz_events.specs.Rules.{keeps}
use Rattle.mz_events.specs.History.{after_all, by_ticket, first_breach}
use Rattle.mz_examples.proofs.runs.resized.moments.Goals as goal

pub returns-clause-lawful : goal.returns-clause-lawful
unfolding look_up write insert_by best_fit write_all after keeps after_all by_ticket first_breach
returns-clause-lawful c = (c.lawful_without_breach.ensures (two_zones_for_two) (with_opening)).0 refl

pub returns-clause-same_entries : goal.returns-clause-same_entries
unfolding look_up write insert_by best_fit write_all after keeps after_all by_ticket first_breach
returns-clause-same_entries c = refl

pub returns-clause-bounds : goal.returns-clause-bounds
unfolding look_up write insert_by best_fit write_all after keeps after_all by_ticket first_breach
returns-clause-bounds c = (refl, refl)

pub returns-clause-no_entry : goal.returns-clause-no_entry
unfolding look_up write insert_by best_fit write_all after keeps after_all by_ticket first_breach
returns-clause-no_entry c = (refl, refl)
