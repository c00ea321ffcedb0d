use Rattle.std.proofs.Common.{refl, [], drop, inl, inr}
use Rattle.mz_base.specs.Space.{block_at}
use Rattle.mz_record.specs.Served as way
use Rattle.mz_lawful.specs.Records.{entries_of}
use Rattle.mz_events.specs.declared.event.Event.TheVariants as event
use Rattle.mz_examples.specs.Examples.{profile_of, entry_of, large}
use Rattle.mz_examples.specs.RunsRows.{one_served, none_left, batch_in_4_pages}
use Rattle.mz_lines.specs.declared.answer.Answer.TheVariants as answers
use Rattle.mz_examples.proofs.UndisturbedTest.{undisturbed_by_test}
use Rattle.mz_examples.proofs.RunTests.{serves}
use Rattle.mz_events.specs.State.{look_up, write}
use Rattle.mz_base.specs.Lists.{insert_by}
use Rattle.mz_events.specs.Room.{best_fit}
use Rattle.mz_events.specs.Effect.{write_all, after}
use Rattle.mz_events.specs.Rules.{keeps}
use Rattle.mz_events.specs.History.{after_all, by_ticket, first_breach}
use Rattle.mz_events.specs.Separation.{by_address}
use Rattle.mz_record.specs.Zones.{by_page}
use Rattle.mz_lawful.specs.Standing.{by_index}
use Rattle.mz_examples.proofs.runs.rows.short_batch.Goals as goal

pub returns-clause-lawful : goal.returns-clause-lawful
unfolding look_up write insert_by best_fit write_all after keeps after_all by_ticket first_breach by_address by_page by_index
returns-clause-lawful c = record {
  trace = refl;
  history = (c.lawful_without_breach.ensures (profile_of 4) (entries_of (batch_in_4_pages (answers.Got 1)))).0 refl;
  fitting = (
    record { answer = refl; entries = inr (one_served, none_left, block_at 0 49152, refl, serves refl (way.by_fresh_run 0 (entry_of 0 (event.Full large 3 1)) [] (drop 1 one_served) refl refl refl tt refl refl), inl (record { served = way.null_in_large (entry_of 3 (event.Full large 3 1)) (entry_of 4 (event.Dry 0 3 1)) [] refl refl refl tt (record { event = refl; no_duty = refl }) refl; undisturbed = undisturbed_by_test (profile_of 4) (entries_of (batch_in_4_pages (answers.Got 1))) 0 none_left refl })); bytes = refl; in_turn = refl },
    tt,
  );
}

pub returns-clause-as_asked : goal.returns-clause-as_asked
unfolding look_up write insert_by best_fit write_all after keeps after_all by_ticket first_breach by_address by_page by_index
returns-clause-as_asked c = λ same. (cc)

pub returns-clause-none : goal.returns-clause-none
unfolding look_up write insert_by best_fit write_all after keeps after_all by_ticket first_breach by_address by_page by_index
returns-clause-none c = λ same. (cc)
