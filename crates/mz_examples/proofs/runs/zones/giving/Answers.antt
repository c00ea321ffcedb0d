use Rattle.std.proofs.Common.{refl, [], ◌∷◌, take, drop}
use Rattle.mz_record.specs.Served as way
use Rattle.mz_lawful.specs.Records.{entries_of}
use Rattle.mz_examples.specs.Examples.{magazine}
use Rattle.mz_examples.specs.RunsRows.{name_a, first_block}
use Rattle.mz_examples.specs.RunsZones.{two_in_128, fills_given, gives, row_giving}
use Rattle.mz_lines.specs.declared.answer.Answer.TheVariants as answers
use Rattle.mz_lines.specs.declared.command.Command.TheVariants.{Free}
use Rattle.mz_examples.specs.Records.{record_of}
use Rattle.mz_examples.proofs.RunTests.{serves}
use Rattle.mz_events.specs.State.{look_up, write}
use Rattle.mz_base.specs.Lists.{insert_by}
use Rattle.mz_events.specs.Room.{best_fit}
use Rattle.mz_events.specs.Effect.{write_all, after}
use Rattle.mz_events.specs.Rules.{keeps}
use Rattle.mz_events.specs.History.{after_all, by_ticket, first_breach}
use Rattle.mz_events.specs.Separation.{by_address}
use Rattle.mz_record.specs.Zones.{by_page}
use Rattle.mz_lawful.specs.Standing.{by_index}
use Rattle.mz_examples.proofs.runs.zones.giving.Goals as goal

pub returns-clause-lawful : goal.returns-clause-lawful
unfolding look_up write insert_by best_fit write_all after keeps after_all by_ticket first_breach by_address by_page by_index
returns-clause-lawful c = record {
  trace = refl;
  history = (c.lawful_without_breach.ensures (two_in_128) (entries_of (row_giving))).0 refl;
  fitting = (
    record { answer = refl; entries = serves refl (way.by_fresh_region _ 0 0 (take 2 (first_block 608)) [] (drop 2 (first_block 608)) refl refl refl tt refl refl); bytes = refl; in_turn = refl },
    (
      record { answer = refl; entries = refl; bytes = refl; in_turn = refl },
      (
        record { answer = refl; entries = refl; bytes = refl; in_turn = refl },
        (
          record { answer = refl; entries = refl; bytes = refl; in_turn = refl },
          (
            record { answer = refl; entries = (magazine, refl, refl); bytes = refl; in_turn = refl },
            tt,
          ),
        ),
      ),
    ),
  );
}

pub returns-clause-tail : goal.returns-clause-tail
unfolding look_up write insert_by best_fit write_all after keeps after_all by_ticket first_breach by_address by_page by_index
returns-clause-tail c = refl

pub returns-clause-too_early : goal.returns-clause-too_early
unfolding look_up write insert_by best_fit write_all after keeps after_all by_ticket first_breach by_address by_page by_index
returns-clause-too_early c = λ same. (cc)

pub returns-clause-not_yet : goal.returns-clause-not_yet
unfolding look_up write insert_by best_fit write_all after keeps after_all by_ticket first_breach by_address by_page by_index
returns-clause-not_yet c = record {
  trace = refl;
  history = (c.lawful_without_breach.ensures (two_in_128) (entries_of (gives (fills_given answers.NotHeld ∷ []) (record_of (Free name_a) [] answers.NotHeld)))).0 refl;
  fitting = (
    record { answer = refl; entries = serves refl (way.by_fresh_region _ 0 0 (take 2 (first_block 608)) [] (drop 2 (first_block 608)) refl refl refl tt refl refl); bytes = refl; in_turn = refl },
    (
      record { answer = refl; entries = refl; bytes = refl; in_turn = refl },
      (
        record { answer = refl; entries = refl; bytes = refl; in_turn = refl },
        (
          record { answer = refl; entries = refl; bytes = refl; in_turn = refl },
          (
            record { answer = refl; entries = refl; bytes = refl; in_turn = refl },
            (
              record { answer = refl; entries = (magazine, refl, refl); bytes = refl; in_turn = refl },
              tt,
            ),
          ),
        ),
      ),
    ),
  );
}

pub returns-clause-given_away : goal.returns-clause-given_away
unfolding look_up write insert_by best_fit write_all after keeps after_all by_ticket first_breach by_address by_page by_index
returns-clause-given_away c = λ same. (cc)
