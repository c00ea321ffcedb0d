use Rattle.std.proofs.Common.{refl}
use Rattle.mz_events.specs.State.{look_up, write}
use Rattle.mz_base.specs.Lists.{insert_by}
use Rattle.mz_events.specs.Room.{best_fit}
use Rattle.mz_events.specs.Effect.{write_all, after}
use Rattle.mz_events.specs.Rules.{keeps}
use Rattle.mz_events.specs.History.{after_all, by_ticket, first_breach}
use Rattle.mz_examples.proofs.histories.rows.first_of_two.Goals as goal

pub returns-clause-length_before_claim : goal.returns-clause-length_before_claim
unfolding look_up write insert_by best_fit write_all after keeps after_all by_ticket first_breach
returns-clause-length_before_claim c = refl

pub returns-clause-extent_before_place : goal.returns-clause-extent_before_place
unfolding look_up write insert_by best_fit write_all after keeps after_all by_ticket first_breach
returns-clause-extent_before_place c = refl

pub returns-clause-use_before_leave : goal.returns-clause-use_before_leave
unfolding look_up write insert_by best_fit write_all after keeps after_all by_ticket first_breach
returns-clause-use_before_leave c = refl
