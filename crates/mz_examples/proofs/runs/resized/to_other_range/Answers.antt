use Rattle.std.proofs.Common.{refl, [], ◌++◌, take, inr}
use Rattle.std.proofs.lemmas.Bool.{false≢true}
use Rattle.mz_base.specs.Space.{block_at}
use Rattle.mz_record.specs.Served as way
use Rattle.mz_record.specs.Resized as size
use Rattle.mz_events.specs.declared.event.Event.TheVariants as event
use Rattle.mz_examples.specs.Examples.{profile_of, entry_of}
use Rattle.mz_examples.specs.RunsResized.{asks, makes_a, no_small_region}
use Rattle.mz_examples.proofs.UndisturbedTest.{undisturbed_by_test}
use Rattle.mz_examples.proofs.ResizedTests.{no_end_then_stays}
use Rattle.mz_events.specs.State.{look_up, write}
use Rattle.mz_base.specs.Lists.{insert_by}
use Rattle.mz_events.specs.Room.{best_fit}
use Rattle.mz_events.specs.Effect.{write_all, after}
use Rattle.mz_events.specs.Rules.{keeps}
use Rattle.mz_events.specs.History.{after_all, by_ticket, first_breach}
use Rattle.mz_examples.proofs.runs.resized.to_other_range.Goals as goal

pub returns-clause-lawful : goal.returns-clause-lawful
unfolding look_up write insert_by best_fit write_all after keeps after_all by_ticket first_breach
returns-clause-lawful c = (c.lawful_without_breach.ensures (profile_of 64) (makes_a ++ no_small_region)).0 refl

pub returns-clause-not_moved : goal.returns-clause-not_moved
unfolding look_up write insert_by best_fit write_all after keeps after_all by_ticket first_breach
returns-clause-not_moved c = inr (size.not_moved (size.between_ranges (λ same. (cc)) (λ same. (cc))) (record { served = way.null_in_range _ (take 2 no_small_region) [] (entry_of 6 (event.Dry 0 512 512)) refl refl refl tt (record { event = refl; no_duty = refl }) refl; undisturbed = undisturbed_by_test (profile_of 64) (makes_a ++ no_small_region) 0 no_small_region refl }) refl)

pub returns-clause-other_answer : goal.returns-clause-other_answer
unfolding look_up write insert_by best_fit write_all after keeps after_all by_ticket first_breach
returns-clause-other_answer c = λ done. false≢true (no_end_then_stays (profile_of 64) (makes_a ++ no_small_region) (asks 4 4 0 (block_at 0 48) 2000) (no_small_region) (block_at 0 48) done refl)
