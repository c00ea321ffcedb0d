use Rattle.std.proofs.Common.{refl, arith}
use Rattle.std.proofs.lemmas.Bool.{false≢true}
use Rattle.mz_events.specs.declared.event.Event.TheVariants as event
use Rattle.mz_examples.specs.Edges.{entry_of_other}
use Rattle.mz_examples.specs.Examples.{magazine, depot}
use Rattle.mz_examples.specs.RunsServed.{two_regions_for_two, other_before_move}
use Rattle.mz_examples.proofs.MeetsTest.{meets}
use Rattle.mz_events.specs.State.{look_up, write}
use Rattle.mz_base.specs.Lists.{insert_by}
use Rattle.mz_events.specs.Room.{best_fit}
use Rattle.mz_events.specs.Effect.{write_all, after}
use Rattle.mz_events.specs.Rules.{keeps}
use Rattle.mz_events.specs.History.{after_all, by_ticket, first_breach}
use Rattle.mz_examples.proofs.runs.dropped.with_other_caller_between.Goals as goal

pub returns-clause-lawful : goal.returns-clause-lawful
unfolding look_up write insert_by best_fit write_all after keeps after_all by_ticket first_breach
returns-clause-lawful c = (c.lawful_without_breach.ensures two_regions_for_two other_before_move).0 refl

pub returns-clause-dropped : goal.returns-clause-dropped
unfolding look_up write insert_by best_fit write_all after keeps after_all by_ticket first_breach
returns-clause-dropped c = (magazine, refl, (meets refl refl, refl))

pub returns-clause-done_by_other : goal.returns-clause-done_by_other
returns-clause-done_by_other c = λ dropped.
    false≢true (dropped.2.0.at_once (entry_of_other 10 (event.Move 0 magazine depot)) (10, omega arith, refl) (omega arith) (omega arith))
