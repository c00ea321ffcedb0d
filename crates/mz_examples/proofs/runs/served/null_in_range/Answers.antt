use Rattle.std.proofs.Common.{refl, [], ◌∷◌, Some, None, take, drop}
use Rattle.std.proofs.lemmas.Bool.{false≢true}
use Rattle.mz_base.specs.Space.{block_at}
use Rattle.mz_events.specs.declared.event.Event.TheVariants as event
use Rattle.mz_examples.specs.Examples.{profile_of, entry_of, magazine, depot}
use Rattle.mz_record.specs.Served as way
use Rattle.mz_examples.specs.RunsServed.{request_by}
use Rattle.mz_examples.proofs.MeetsTest.{meets}
use Rattle.mz_examples.specs.RunsServed.{no_region}
use Rattle.mz_examples.proofs.ServedTests.{served_ends, null_is_settled}
use Rattle.mz_events.specs.State.{look_up, write}
use Rattle.mz_base.specs.Lists.{insert_by}
use Rattle.mz_events.specs.Room.{best_fit}
use Rattle.mz_events.specs.Effect.{write_all, after}
use Rattle.mz_events.specs.Rules.{keeps}
use Rattle.mz_events.specs.History.{after_all, by_ticket, first_breach}
use Rattle.mz_examples.proofs.runs.served.null_in_range.Goals as goal

pub returns-clause-lawful : goal.returns-clause-lawful
unfolding look_up write insert_by best_fit write_all after keeps after_all by_ticket first_breach
returns-clause-lawful c = (c.lawful_without_breach.ensures (profile_of 8) no_region).0 refl

pub returns-clause-none : goal.returns-clause-none
unfolding look_up write insert_by best_fit write_all after keeps after_all by_ticket first_breach
returns-clause-none c = way.null_in_range _ (take 2 (drop 4 no_region)) (take 2 (drop 6 no_region)) (entry_of 8 (event.Dry 0 64 64)) refl refl refl (refl, meets refl refl, tt) (record { event = refl; no_duty = refl }) refl

pub returns-clause-duty_left : goal.returns-clause-duty_left
unfolding look_up write insert_by best_fit write_all after keeps after_all by_ticket first_breach
returns-clause-duty_left c = λ s. let settled = null_is_settled (profile_of 8) no_region (request_by 0 100) (entry_of 4 (event.Full magazine 112 16) ∷ entry_of 5 (event.Full depot 112 16) ∷ []) (entry_of 6 (event.Dry 0 64 64)) s in (cc)

pub returns-clause-no_dry : goal.returns-clause-no_dry
returns-clause-no_dry c = λ s. false≢true (served_ends (profile_of 8) (request_by 0 100) (entry_of 4 (event.Full magazine 112 16) ∷ entry_of 5 (event.Full depot 112 16) ∷ []) no_region None s)

pub returns-clause-block : goal.returns-clause-block
returns-clause-block c = λ s. false≢true (served_ends (profile_of 8) (request_by 0 100) (drop 4 no_region) no_region (Some (block_at 0 112)) s)
