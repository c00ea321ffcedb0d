use Rattle.std.proofs.Common.{refl, [], take, drop}
use Rattle.std.specs.List.{flat_map}
use Rattle.mz_record.specs.Served as way
use Rattle.mz_lawful.specs.Records.{entries_of, entries_of_round}
use Rattle.mz_events.specs.declared.event.Event.TheVariants as event
use Rattle.mz_examples.specs.Examples.{magazine}
use Rattle.mz_examples.specs.Edges.{entry_of_other, two_callers}
use Rattle.mz_examples.specs.RunsRounds.{makes_block, finds_none, crossing, overtaking, run_of_rounds}
use Rattle.mz_examples.proofs.UndisturbedTest.{undisturbed_by_test}
use Rattle.mz_examples.proofs.RunTests.{serves}
use Rattle.mz_events.specs.State.{look_up, write}
use Rattle.mz_base.specs.Lists.{insert_by}
use Rattle.mz_events.specs.Room.{best_fit}
use Rattle.mz_events.specs.Effect.{write_all, after}
use Rattle.mz_events.specs.Rules.{keeps}
use Rattle.mz_events.specs.History.{after_all, by_ticket, first_breach}
use Rattle.mz_examples.proofs.runs.rounds.order.Goals as goal

pub returns-clause-lawful : goal.returns-clause-lawful
unfolding look_up write insert_by best_fit write_all after keeps after_all by_ticket first_breach
returns-clause-lawful c = (c.lawful_without_breach.ensures (two_callers) (flat_map entries_of_round crossing)).0 refl

pub returns-clause-in_order : goal.returns-clause-in_order
unfolding look_up write insert_by best_fit write_all after keeps after_all by_ticket first_breach
returns-clause-in_order c = record {
  trace = refl;
  history = (c.lawful_without_breach.ensures two_callers (entries_of (run_of_rounds crossing))).0 refl;
  fitting = (
    record { answer = refl; entries = serves refl (way.by_fresh_region _ 0 0 (take 2 (makes_block 0 1 3 4)) [] (drop 2 (makes_block 0 1 3 4)) refl refl refl tt refl refl); bytes = refl; in_turn = refl },
    (
      record { answer = refl; entries = record { served = way.null_in_range _ (take 2 (finds_none 2 5 6)) [] (entry_of_other 6 (event.Dry 0 512 512)) refl refl refl tt (record { event = refl; no_duty = refl }) refl; undisturbed = undisturbed_by_test two_callers (by_ticket (entries_of (run_of_rounds crossing))) 1 (finds_none 2 5 6) refl }; bytes = refl; in_turn = refl },
      (record { answer = refl; entries = (magazine, refl, refl); bytes = refl; in_turn = refl }, tt),
    ),
  );
}

pub returns-clause-lawful_too : goal.returns-clause-lawful_too
unfolding look_up write insert_by best_fit write_all after keeps after_all by_ticket first_breach
returns-clause-lawful_too c = (c.lawful_without_breach.ensures (two_callers) (flat_map entries_of_round overtaking)).0 refl

pub returns-clause-not_in_order : goal.returns-clause-not_in_order
unfolding look_up write insert_by best_fit write_all after keeps after_all by_ticket first_breach
returns-clause-not_in_order c = refl

pub returns-clause-within_record : goal.returns-clause-within_record
unfolding look_up write insert_by best_fit write_all after keeps after_all by_ticket first_breach
returns-clause-within_record c = refl

pub returns-clause-start_first : goal.returns-clause-start_first
unfolding look_up write insert_by best_fit write_all after keeps after_all by_ticket first_breach
returns-clause-start_first c = refl

pub returns-clause-start_late : goal.returns-clause-start_late
unfolding look_up write insert_by best_fit write_all after keeps after_all by_ticket first_breach
returns-clause-start_late c = refl
