use Rattle.std.proofs.Common.{refl}
use Rattle.mz_events.specs.State.{look_up, write}
use Rattle.mz_base.specs.Lists.{insert_by}
use Rattle.mz_events.specs.Room.{best_fit}
use Rattle.mz_events.specs.Effect.{write_all, after}
use Rattle.mz_events.specs.Rules.{keeps}
use Rattle.mz_events.specs.History.{after_all, by_ticket, first_breach}
use Rattle.mz_examples.proofs.histories.cycles.left_out.Goals as goal

pub returns-clause-no_move : goal.returns-clause-no_move
unfolding look_up write insert_by best_fit write_all after keeps after_all by_ticket first_breach
returns-clause-no_move c = refl

pub returns-clause-no_back : goal.returns-clause-no_back
unfolding look_up write insert_by best_fit write_all after keeps after_all by_ticket first_breach
returns-clause-no_back c = refl

pub returns-clause-other : goal.returns-clause-other
unfolding look_up write insert_by best_fit write_all after keeps after_all by_ticket first_breach
returns-clause-other c = refl
