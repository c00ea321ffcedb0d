use Rattle.std.proofs.Common.{refl, ap}
use Rattle.std.proofs.lemmas.Bool.{false≢true}
use Rattle.mz_base.specs.Space.{block_at}
use Rattle.mz_events.specs.declared.event.Event.TheVariants as event
use Rattle.mz_examples.specs.Examples.{profile_of, entry_of, large}
use Rattle.mz_record.specs.Served as way
use Rattle.mz_examples.specs.RunsServed.{request_by}
use Rattle.mz_examples.specs.RunsServed.{on_five}
use Rattle.mz_examples.proofs.ServedTests.{best_is_served, begins_at}
use Rattle.mz_events.specs.State.{look_up, write}
use Rattle.mz_base.specs.Lists.{insert_by}
use Rattle.mz_events.specs.Room.{best_fit}
use Rattle.mz_events.specs.Effect.{write_all, after}
use Rattle.mz_events.specs.Rules.{keeps}
use Rattle.mz_events.specs.History.{after_all, by_ticket, first_breach}
use Rattle.mz_examples.proofs.runs.served.by_cache.Goals as goal

pub returns-clause-row : goal.returns-clause-row
unfolding look_up write insert_by best_fit write_all after keeps after_all by_ticket first_breach
returns-clause-row c = way.by_cache (entry_of 4 (event.New large 0 81920 16)) 0 81920 refl refl refl refl refl

pub returns-clause-three : goal.returns-clause-three
unfolding look_up write insert_by best_fit write_all after keeps after_all by_ticket first_breach
returns-clause-three c = way.by_cache (entry_of 8 (event.New large 81920 49152 16)) 81920 49152 refl refl refl refl refl

pub returns-clause-five : goal.returns-clause-five
unfolding look_up write insert_by best_fit write_all after keeps after_all by_ticket first_breach
returns-clause-five c = way.by_cache (entry_of 8 (event.New large 0 81920 16)) 0 81920 refl refl refl refl refl

pub returns-clause-lawful : goal.returns-clause-lawful
unfolding look_up write insert_by best_fit write_all after keeps after_all by_ticket first_breach
returns-clause-lawful c = (c.lawful_without_breach.ensures (profile_of 64) on_five).0 refl

pub returns-clause-not_best : goal.returns-clause-not_best
unfolding look_up write insert_by best_fit write_all after keeps after_all by_ticket first_breach
returns-clause-not_best c = λ s. let best = best_is_served (profile_of 64) on_five (request_by 0 40000) (entry_of 8 (event.New large 0 81920 16)) (block_at 0 81920) refl s in false≢true (ap (begins_at 0) best)

pub returns-clause-none_fits : goal.returns-clause-none_fits
unfolding look_up write insert_by best_fit write_all after keeps after_all by_ticket first_breach
returns-clause-none_fits c = λ s. let best = best_is_served (profile_of 64) on_five (request_by 0 100000) (entry_of 8 (event.New large 0 81920 16)) (block_at 0 81920) refl s in false≢true (ap (begins_at 0) best)
