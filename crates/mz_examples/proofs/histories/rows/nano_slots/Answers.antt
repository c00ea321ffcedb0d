use Rattle.std.proofs.Common.{refl}
use Rattle.mz_events.specs.State.{look_up, write}
use Rattle.mz_base.specs.Lists.{insert_by}
use Rattle.mz_events.specs.Room.{best_fit}
use Rattle.mz_events.specs.Effect.{write_all, after}
use Rattle.mz_events.specs.Rules.{keeps}
use Rattle.mz_events.specs.History.{after_all, by_ticket, first_breach}
use Rattle.mz_examples.specs.Rows.{two_nano_pages, slots}
use Rattle.mz_examples.proofs.histories.rows.nano_slots.Goals as goal

pub returns-clause-lawful : goal.returns-clause-lawful
unfolding look_up write insert_by best_fit write_all after keeps after_all by_ticket first_breach
returns-clause-lawful c = (c.lawful_without_breach.ensures two_nano_pages slots).0 refl

pub returns-clause-live : goal.returns-clause-live
unfolding look_up write insert_by best_fit write_all after keeps after_all by_ticket first_breach
returns-clause-live c = refl

pub returns-clause-runs : goal.returns-clause-runs
unfolding look_up write insert_by best_fit write_all after keeps after_all by_ticket first_breach
returns-clause-runs c = refl

pub returns-clause-other_size : goal.returns-clause-other_size
unfolding look_up write insert_by best_fit write_all after keeps after_all by_ticket first_breach
returns-clause-other_size c = refl

pub returns-clause-overlap : goal.returns-clause-overlap
unfolding look_up write insert_by best_fit write_all after keeps after_all by_ticket first_breach
returns-clause-overlap c = refl

pub returns-clause-overlap_from_below : goal.returns-clause-overlap_from_below
unfolding look_up write insert_by best_fit write_all after keeps after_all by_ticket first_breach
returns-clause-overlap_from_below c = refl

pub returns-clause-two_pages : goal.returns-clause-two_pages
unfolding look_up write insert_by best_fit write_all after keeps after_all by_ticket first_breach
returns-clause-two_pages c = refl

pub returns-clause-outside : goal.returns-clause-outside
unfolding look_up write insert_by best_fit write_all after keeps after_all by_ticket first_breach
returns-clause-outside c = refl

pub returns-clause-no_nano : goal.returns-clause-no_nano
unfolding look_up write insert_by best_fit write_all after keeps after_all by_ticket first_breach
returns-clause-no_nano c = refl
