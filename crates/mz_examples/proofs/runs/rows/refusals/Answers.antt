use Rattle.std.proofs.Common.{refl, [], ◌∷◌, take, drop}
use Rattle.mz_record.specs.Served as way
use Rattle.mz_lawful.specs.Records.{entries_of}
use Rattle.mz_events.specs.declared.event.Event.TheVariants as event
use Rattle.mz_examples.specs.Examples.{profile_of, entry_of, magazine, large}
use Rattle.mz_examples.specs.RunsRows.{first_block, row_refusals, held_and_bad_align}
use Rattle.mz_lines.specs.declared.answer.Answer.TheVariants as answers
use Rattle.mz_examples.proofs.UndisturbedTest.{undisturbed_by_test}
use Rattle.mz_examples.proofs.RunTests.{serves}
use Rattle.mz_events.specs.State.{look_up, write}
use Rattle.mz_base.specs.Lists.{insert_by}
use Rattle.mz_events.specs.Room.{best_fit}
use Rattle.mz_events.specs.Effect.{write_all, after}
use Rattle.mz_events.specs.Rules.{keeps}
use Rattle.mz_events.specs.History.{after_all, by_ticket, first_breach}
use Rattle.mz_events.specs.Separation.{by_address}
use Rattle.mz_record.specs.Zones.{by_page}
use Rattle.mz_lawful.specs.Standing.{by_index}
use Rattle.mz_examples.proofs.runs.rows.refusals.Goals as goal

pub returns-clause-lawful : goal.returns-clause-lawful
unfolding look_up write insert_by best_fit write_all after keeps after_all by_ticket first_breach by_address by_page by_index
returns-clause-lawful c = record {
  trace = refl;
  history = (c.lawful_without_breach.ensures (profile_of 64) (entries_of (row_refusals))).0 refl;
  fitting = (
    record { answer = refl; entries = refl; bytes = refl; in_turn = refl },
    (
      record { answer = refl; entries = refl; bytes = refl; in_turn = refl },
      (
        record { answer = refl; entries = serves refl (way.by_fresh_region _ 0 0 (take 2 (first_block 16)) [] (drop 2 (first_block 16)) refl refl refl tt refl refl); bytes = refl; in_turn = refl },
        (
          record { answer = refl; entries = refl; bytes = refl; in_turn = refl },
          (
            record { answer = refl; entries = refl; bytes = refl; in_turn = refl },
            (
              record { answer = refl; entries = (magazine, refl, refl); bytes = refl; in_turn = refl },
              (
                record { answer = refl; entries = record { served = way.null_in_large (entry_of 5 (event.Full large 1125899906842624 1)) (entry_of 6 (event.Dry 0 1125899906842624 1)) [] refl refl refl tt (record { event = refl; no_duty = refl }) refl; undisturbed = undisturbed_by_test (profile_of 64) (entries_of row_refusals) 0 (entry_of 5 (event.Full large 1125899906842624 1) ∷ entry_of 6 (event.Dry 0 1125899906842624 1) ∷ []) refl }; bytes = refl; in_turn = refl },
                tt,
              ),
            ),
          ),
        ),
      ),
    ),
  );
}

pub returns-clause-tail : goal.returns-clause-tail
unfolding look_up write insert_by best_fit write_all after keeps after_all by_ticket first_breach by_address by_page by_index
returns-clause-tail c = refl

pub returns-clause-overflow : goal.returns-clause-overflow
unfolding look_up write insert_by best_fit write_all after keeps after_all by_ticket first_breach by_address by_page by_index
returns-clause-overflow c = λ same. (cc)

pub returns-clause-held : goal.returns-clause-held
unfolding look_up write insert_by best_fit write_all after keeps after_all by_ticket first_breach by_address by_page by_index
returns-clause-held c = λ same. (cc)

pub returns-clause-wrong_size : goal.returns-clause-wrong_size
unfolding look_up write insert_by best_fit write_all after keeps after_all by_ticket first_breach by_address by_page by_index
returns-clause-wrong_size c = λ same. (cc)

pub returns-clause-other_size : goal.returns-clause-other_size
unfolding look_up write insert_by best_fit write_all after keeps after_all by_ticket first_breach by_address by_page by_index
returns-clause-other_size c = λ same. (cc)

pub returns-clause-held_first : goal.returns-clause-held_first
unfolding look_up write insert_by best_fit write_all after keeps after_all by_ticket first_breach by_address by_page by_index
returns-clause-held_first c = record {
  trace = refl;
  history = (c.lawful_without_breach.ensures (profile_of 64) (entries_of (held_and_bad_align answers.Held))).0 refl;
  fitting = (
    record { answer = refl; entries = serves refl (way.by_fresh_region _ 0 0 (take 2 (first_block 16)) [] (drop 2 (first_block 16)) refl refl refl tt refl refl); bytes = refl; in_turn = refl },
    (
      record { answer = refl; entries = refl; bytes = refl; in_turn = refl },
      tt,
    ),
  );
}

pub returns-clause-later_test : goal.returns-clause-later_test
unfolding look_up write insert_by best_fit write_all after keeps after_all by_ticket first_breach by_address by_page by_index
returns-clause-later_test c = λ same. (cc)
