use Rattle.std.proofs.Common.{refl}
use Rattle.mz_examples.proofs.MeetsTest.{meets}
use Rattle.mz_examples.specs.Examples.{profile_of}
use Rattle.mz_examples.specs.RunsServed.{both_go_back}
use Rattle.mz_events.specs.State.{look_up, write}
use Rattle.mz_base.specs.Lists.{insert_by}
use Rattle.mz_events.specs.Room.{best_fit}
use Rattle.mz_events.specs.Effect.{write_all, after}
use Rattle.mz_events.specs.Rules.{keeps}
use Rattle.mz_events.specs.History.{after_all, by_ticket, first_breach}
use Rattle.mz_examples.proofs.runs.served.flushes.Goals as goal

pub returns-clause-lawful : goal.returns-clause-lawful
unfolding look_up write insert_by best_fit write_all after keeps after_all by_ticket first_breach
returns-clause-lawful c = (c.lawful_without_breach.ensures (profile_of 8) both_go_back).0 refl

pub returns-clause-two : goal.returns-clause-two
unfolding look_up write insert_by best_fit write_all after keeps after_all by_ticket first_breach
returns-clause-two c = (refl, meets refl refl, (refl, meets refl refl, tt))

pub returns-clause-none : goal.returns-clause-none
returns-clause-none c = tt

pub returns-clause-not_oldest : goal.returns-clause-not_oldest
unfolding look_up write insert_by best_fit write_all after keeps after_all by_ticket first_breach
returns-clause-not_oldest c = λ f. let due = f.1.duty in (cc)

pub returns-clause-no_back : goal.returns-clause-no_back
returns-clause-no_back c = λ f. f

pub returns-clause-other_pages : goal.returns-clause-other_pages
returns-clause-other_pages c = λ f. let dry = f.0 in (cc)
