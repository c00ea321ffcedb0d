use Rattle.std.proofs.Common.{refl, ◌∷◌, Some, take, drop}
use Rattle.std.proofs.lemmas.Bool.{false≢true}
use Rattle.mz_base.specs.Space.{block_at}
use Rattle.mz_events.specs.declared.event.Event.TheVariants as event
use Rattle.mz_examples.specs.Examples.{profile_of, entry_of, magazine, depot}
use Rattle.mz_record.specs.Served as way
use Rattle.mz_examples.specs.RunsServed.{request_by}
use Rattle.mz_examples.proofs.MeetsTest.{meets}
use Rattle.mz_examples.specs.RunsServed.{region_after_flush}
use Rattle.mz_examples.proofs.ServedTests.{served_in_order}
use Rattle.mz_events.specs.State.{look_up, write}
use Rattle.mz_base.specs.Lists.{insert_by}
use Rattle.mz_events.specs.Room.{best_fit}
use Rattle.mz_events.specs.Effect.{write_all, after}
use Rattle.mz_events.specs.Rules.{keeps}
use Rattle.mz_events.specs.History.{after_all, by_ticket, first_breach}
use Rattle.mz_examples.proofs.runs.served.by_fresh_region_after_flush.Goals as goal

pub returns-clause-lawful : goal.returns-clause-lawful
unfolding look_up write insert_by best_fit write_all after keeps after_all by_ticket first_breach
returns-clause-lawful c = (c.lawful_without_breach.ensures (profile_of 64) region_after_flush).0 refl

pub returns-clause-served : goal.returns-clause-served
unfolding look_up write insert_by best_fit write_all after keeps after_all by_ticket first_breach
returns-clause-served c = way.by_fresh_region _ 0 0 (take 2 (drop 4 region_after_flush)) (take 2 (drop 6 region_after_flush)) (drop 8 region_after_flush) refl refl refl (refl, meets refl refl, tt) refl refl

pub returns-clause-no_back : goal.returns-clause-no_back
returns-clause-no_back c = λ s. false≢true (served_in_order (profile_of 64) (request_by 0 100) (entry_of 4 (event.Full magazine 112 16) ∷ entry_of 5 (event.Full depot 112 16) ∷ entry_of 6 (event.Dry 0 64 64) ∷ drop 8 region_after_flush) region_after_flush (Some (block_at 0 112)) s)
