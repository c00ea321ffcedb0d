use Rattle.std.proofs.Common.{refl}
use Rattle.mz_events.specs.State.{look_up, write}
use Rattle.mz_base.specs.Lists.{insert_by}
use Rattle.mz_events.specs.Room.{best_fit}
use Rattle.mz_events.specs.Effect.{write_all, after}
use Rattle.mz_events.specs.Rules.{keeps}
use Rattle.mz_events.specs.History.{after_all, by_ticket, first_breach}
use Rattle.mz_examples.specs.Examples.{profile_of}
use Rattle.mz_examples.specs.Rows.{wide_reading, narrow_reading, overwritten}
use Rattle.mz_examples.proofs.histories.rows.either_reading.Goals as goal

pub returns-clause-wide : goal.returns-clause-wide
unfolding look_up write insert_by best_fit write_all after keeps after_all by_ticket first_breach
returns-clause-wide c = (c.lawful_without_breach.ensures (profile_of 64) wide_reading).0 refl

pub returns-clause-narrow : goal.returns-clause-narrow
unfolding look_up write insert_by best_fit write_all after keeps after_all by_ticket first_breach
returns-clause-narrow c = (c.lawful_without_breach.ensures (profile_of 64) narrow_reading).0 refl

pub returns-clause-overwritten : goal.returns-clause-overwritten
unfolding look_up write insert_by best_fit write_all after keeps after_all by_ticket first_breach
returns-clause-overwritten c = (c.lawful_without_breach.ensures (profile_of 64) overwritten).0 refl

pub returns-clause-neither : goal.returns-clause-neither
unfolding look_up write insert_by best_fit write_all after keeps after_all by_ticket first_breach
returns-clause-neither c = refl
