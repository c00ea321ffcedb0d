use Rattle.std.proofs.Common.{refl}
use Rattle.mz_examples.specs.Examples.{magazine}
use Rattle.mz_events.specs.State.{look_up, write}
use Rattle.mz_base.specs.Lists.{insert_by}
use Rattle.mz_events.specs.Room.{best_fit}
use Rattle.mz_events.specs.Effect.{write_all, after}
use Rattle.mz_events.specs.Rules.{keeps}
use Rattle.mz_events.specs.History.{after_all, by_ticket, first_breach}
use Rattle.mz_examples.proofs.runs.dropped.end_alone.Goals as goal

pub returns-clause-dropped : goal.returns-clause-dropped
unfolding look_up write insert_by best_fit write_all after keeps after_all by_ticket first_breach
returns-clause-dropped c = (magazine, refl, refl)

pub returns-clause-other_size : goal.returns-clause-other_size
unfolding look_up write insert_by best_fit write_all after keeps after_all by_ticket first_breach
returns-clause-other_size c = λ d. let e = d.1 in (cc)

pub returns-clause-other_block : goal.returns-clause-other_block
unfolding look_up write insert_by best_fit write_all after keeps after_all by_ticket first_breach
returns-clause-other_block c = λ d. let e = d.1 in (cc)

pub returns-clause-nothing : goal.returns-clause-nothing
unfolding look_up write insert_by best_fit write_all after keeps after_all by_ticket first_breach
returns-clause-nothing c = λ d. d

pub returns-clause-more : goal.returns-clause-more
unfolding look_up write insert_by best_fit write_all after keeps after_all by_ticket first_breach
returns-clause-more c = λ d. let due = d.2.0.duty in (cc)
