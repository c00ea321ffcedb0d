use Rattle.std.proofs.Common.{refl}
use Rattle.mz_examples.specs.Examples.{large}
use Rattle.mz_examples.proofs.MeetsTest.{meets}
use Rattle.mz_events.specs.State.{look_up, write}
use Rattle.mz_base.specs.Lists.{insert_by}
use Rattle.mz_events.specs.Room.{best_fit}
use Rattle.mz_events.specs.Effect.{write_all, after}
use Rattle.mz_events.specs.Rules.{keeps}
use Rattle.mz_events.specs.History.{after_all, by_ticket, first_breach}
use Rattle.mz_examples.proofs.runs.dropped.with_back_of_oldest.Goals as goal

pub returns-clause-dropped : goal.returns-clause-dropped
unfolding look_up write insert_by best_fit write_all after keeps after_all by_ticket first_breach
returns-clause-dropped c = (large, refl, (meets refl refl, refl))

pub returns-clause-left_out : goal.returns-clause-left_out
unfolding look_up write insert_by best_fit write_all after keeps after_all by_ticket first_breach
returns-clause-left_out c = λ d. let due = d.2 in (cc)

pub returns-clause-before : goal.returns-clause-before
unfolding look_up write insert_by best_fit write_all after keeps after_all by_ticket first_breach
returns-clause-before c = (large, refl, refl)
