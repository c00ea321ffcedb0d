use Rattle.std.proofs.Common.{refl, [], ◌++◌, inl, inr}
use Rattle.std.proofs.lemmas.Bool.{false≢true}
use Rattle.mz_base.specs.Space.{block_at}
use Rattle.mz_record.specs.Served as way
use Rattle.mz_record.specs.Resized as size
use Rattle.mz_events.specs.declared.event.Event.TheVariants as event
use Rattle.mz_examples.specs.Examples.{profile_of, entry_of, large}
use Rattle.mz_examples.specs.RunsResized.{asks, makes_c, makes_d, no_seven_pages}
use Rattle.mz_examples.proofs.UndisturbedTest.{undisturbed_by_test}
use Rattle.mz_examples.proofs.ResizedTests.{no_end_then_stays}
use Rattle.mz_events.specs.State.{look_up, write}
use Rattle.mz_base.specs.Lists.{insert_by}
use Rattle.mz_events.specs.Room.{best_fit}
use Rattle.mz_events.specs.Effect.{write_all, after}
use Rattle.mz_events.specs.Rules.{keeps}
use Rattle.mz_events.specs.History.{after_all, by_ticket, first_breach}
use Rattle.mz_examples.proofs.runs.resized.large.Goals as goal

pub returns-clause-stays : goal.returns-clause-stays
unfolding look_up write insert_by best_fit write_all after keeps after_all by_ticket first_breach
returns-clause-stays c = inl (size.still_large refl refl refl refl refl)

pub returns-clause-lawful : goal.returns-clause-lawful
unfolding look_up write insert_by best_fit write_all after keeps after_all by_ticket first_breach
returns-clause-lawful c = (c.lawful_without_breach.ensures (profile_of 8) (makes_c ++ no_seven_pages)).0 refl

pub returns-clause-not_moved : goal.returns-clause-not_moved
unfolding look_up write insert_by best_fit write_all after keeps after_all by_ticket first_breach
returns-clause-not_moved c = inr (size.not_moved (size.large refl refl refl) (record { served = way.null_in_large (entry_of 3 (event.Full large 7 1)) (entry_of 4 (event.Dry 0 7 1)) [] refl refl refl tt (record { event = refl; no_duty = refl }) refl; undisturbed = undisturbed_by_test (profile_of 8) (makes_c ++ no_seven_pages) 0 no_seven_pages refl }) refl)

pub returns-clause-just_stays : goal.returns-clause-just_stays
unfolding look_up write insert_by best_fit write_all after keeps after_all by_ticket first_breach
returns-clause-just_stays c = inl (size.still_large refl refl refl refl refl)

pub returns-clause-wastes_too_much : goal.returns-clause-wastes_too_much
unfolding look_up write insert_by best_fit write_all after keeps after_all by_ticket first_breach
returns-clause-wastes_too_much c = λ done. false≢true (no_end_then_stays (profile_of 8) (makes_d) (asks 3 3 0 (block_at 0 98304) 49152) ([]) (block_at 0 98304) done refl)

pub returns-clause-larger : goal.returns-clause-larger
unfolding look_up write insert_by best_fit write_all after keeps after_all by_ticket first_breach
returns-clause-larger c = λ done. false≢true (no_end_then_stays (profile_of 8) (makes_c) (asks 3 3 0 (block_at 0 81920) 100000) ([]) (block_at 0 81920) done refl)
