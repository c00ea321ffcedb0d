use Rattle.std.proofs.Common.{refl}
use Rattle.mz_examples.specs.Examples.{magazine}
use Rattle.mz_examples.proofs.MeetsTest.{meets}
use Rattle.mz_events.specs.State.{look_up, write}
use Rattle.mz_base.specs.Lists.{insert_by}
use Rattle.mz_events.specs.Room.{best_fit}
use Rattle.mz_events.specs.Effect.{write_all, after}
use Rattle.mz_events.specs.Rules.{keeps}
use Rattle.mz_events.specs.History.{after_all, by_ticket, first_breach}
use Rattle.mz_examples.specs.Cycles.{two_regions}
use Rattle.mz_examples.specs.RunsServed.{own_before_move}
use Rattle.mz_examples.proofs.runs.dropped.with_move.Goals as goal

pub returns-clause-dropped : goal.returns-clause-dropped
unfolding look_up write insert_by best_fit write_all after keeps after_all by_ticket first_breach
returns-clause-dropped c = (magazine, refl, (meets refl refl, refl))

pub returns-clause-left_out : goal.returns-clause-left_out
unfolding look_up write insert_by best_fit write_all after keeps after_all by_ticket first_breach
returns-clause-left_out c = λ d. let due = d.2 in (cc)

pub returns-clause-between : goal.returns-clause-between
unfolding look_up write insert_by best_fit write_all after keeps after_all by_ticket first_breach
returns-clause-between c = λ d. let due = d.2.0.duty in (cc)

pub returns-clause-other_region : goal.returns-clause-other_region
unfolding look_up write insert_by best_fit write_all after keeps after_all by_ticket first_breach
returns-clause-other_region c = λ d. let due = d.2.0.duty in (cc)

pub returns-clause-more : goal.returns-clause-more
unfolding look_up write insert_by best_fit write_all after keeps after_all by_ticket first_breach
returns-clause-more c = λ d. let due = d.2.1.0.duty in (cc)

pub returns-clause-lawful : goal.returns-clause-lawful
unfolding look_up write insert_by best_fit write_all after keeps after_all by_ticket first_breach
returns-clause-lawful c = (c.lawful_without_breach.ensures two_regions own_before_move).0 refl
