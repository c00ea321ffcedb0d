use Rattle.std.proofs.Common.{refl}
use Rattle.mz_events.specs.State.{look_up, write}
use Rattle.mz_base.specs.Lists.{insert_by}
use Rattle.mz_events.specs.Room.{best_fit}
use Rattle.mz_events.specs.Effect.{write_all, after}
use Rattle.mz_events.specs.Rules.{keeps}
use Rattle.mz_events.specs.History.{after_all, by_ticket, first_breach}
use Rattle.mz_examples.proofs.histories.spoiled.Goals as goal

pub returns-clause-in_turn : goal.returns-clause-in_turn
unfolding look_up write insert_by best_fit write_all after keeps after_all by_ticket first_breach
returns-clause-in_turn c = refl

pub returns-clause-duty_first : goal.returns-clause-duty_first
unfolding look_up write insert_by best_fit write_all after keeps after_all by_ticket first_breach
returns-clause-duty_first c = refl

pub returns-clause-existing : goal.returns-clause-existing
unfolding look_up write insert_by best_fit write_all after keeps after_all by_ticket first_breach
returns-clause-existing c = refl

pub returns-clause-takes_lowest : goal.returns-clause-takes_lowest
unfolding look_up write insert_by best_fit write_all after keeps after_all by_ticket first_breach
returns-clause-takes_lowest c = refl

pub returns-clause-takes_claimed : goal.returns-clause-takes_claimed
unfolding look_up write insert_by best_fit write_all after keeps after_all by_ticket first_breach
returns-clause-takes_claimed c = refl

pub returns-clause-backs_unused : goal.returns-clause-backs_unused
unfolding look_up write insert_by best_fit write_all after keeps after_all by_ticket first_breach
returns-clause-backs_unused c = refl

pub returns-clause-backs_allowed : goal.returns-clause-backs_allowed
unfolding look_up write insert_by best_fit write_all after keeps after_all by_ticket first_breach
returns-clause-backs_allowed c = refl

pub returns-clause-moves_in_by_duty : goal.returns-clause-moves_in_by_duty
unfolding look_up write insert_by best_fit write_all after keeps after_all by_ticket first_breach
returns-clause-moves_in_by_duty c = refl

pub returns-clause-moves_out_claimed : goal.returns-clause-moves_out_claimed
unfolding look_up write insert_by best_fit write_all after keeps after_all by_ticket first_breach
returns-clause-moves_out_claimed c = refl

pub returns-clause-fits_apart : goal.returns-clause-fits_apart
unfolding look_up write insert_by best_fit write_all after keeps after_all by_ticket first_breach
returns-clause-fits_apart c = refl

pub returns-clause-placed : goal.returns-clause-placed
unfolding look_up write insert_by best_fit write_all after keeps after_all by_ticket first_breach
returns-clause-placed c = refl

pub returns-clause-live_there : goal.returns-clause-live_there
unfolding look_up write insert_by best_fit write_all after keeps after_all by_ticket first_breach
returns-clause-live_there c = refl

pub returns-clause-no_room : goal.returns-clause-no_room
unfolding look_up write insert_by best_fit write_all after keeps after_all by_ticket first_breach
returns-clause-no_room c = refl

pub returns-clause-zone_changes : goal.returns-clause-zone_changes
unfolding look_up write insert_by best_fit write_all after keeps after_all by_ticket first_breach
returns-clause-zone_changes c = refl
