use Rattle.std.proofs.Common.{refl, [], ◌∷◌, take, drop}
use Rattle.mz_record.specs.Served as way
use Rattle.mz_lawful.specs.Records.{entries_of}
use Rattle.mz_examples.specs.Examples.{profile_of}
use Rattle.mz_examples.specs.RunsRows.{first_block, zeros, row_bytes, unknown_shown}
use Rattle.mz_examples.proofs.RunTests.{serves}
use Rattle.mz_events.specs.State.{look_up, write}
use Rattle.mz_base.specs.Lists.{insert_by}
use Rattle.mz_events.specs.Room.{best_fit}
use Rattle.mz_events.specs.Effect.{write_all, after}
use Rattle.mz_events.specs.Rules.{keeps}
use Rattle.mz_events.specs.History.{after_all, by_ticket, first_breach}
use Rattle.mz_events.specs.Separation.{by_address}
use Rattle.mz_record.specs.Zones.{by_page}
use Rattle.mz_lawful.specs.Standing.{by_index}
use Rattle.mz_examples.proofs.runs.rows.bytes.Goals as goal

pub returns-clause-lawful : goal.returns-clause-lawful
unfolding look_up write insert_by best_fit write_all after keeps after_all by_ticket first_breach by_address by_page by_index
returns-clause-lawful c = record {
  trace = refl;
  history = (c.lawful_without_breach.ensures (profile_of 64) (entries_of (row_bytes))).0 refl;
  fitting = (
    record { answer = refl; entries = serves refl (way.by_fresh_region _ 0 0 (take 2 (first_block 32)) [] (drop 2 (first_block 32)) refl refl refl tt refl refl); bytes = refl; in_turn = refl },
    (
      record { answer = record { shown = zeros 24; many = refl; bytes = refl }; entries = refl; bytes = refl; in_turn = refl },
      (
        record { answer = refl; entries = refl; bytes = refl; in_turn = refl },
        (
          record { answer = refl; entries = refl; bytes = refl; in_turn = refl },
          (
            record { answer = record { shown = 171 ∷ 171 ∷ []; many = refl; bytes = refl }; entries = refl; bytes = refl; in_turn = refl },
            (
              record { answer = refl; entries = refl; bytes = refl; in_turn = refl },
              (
                record { answer = record { shown = zeros 8; many = refl; bytes = refl }; entries = refl; bytes = refl; in_turn = refl },
                tt,
              ),
            ),
          ),
        ),
      ),
    ),
  );
}

pub returns-clause-tail : goal.returns-clause-tail
unfolding look_up write insert_by best_fit write_all after keeps after_all by_ticket first_breach by_address by_page by_index
returns-clause-tail c = refl

pub returns-clause-not_zero : goal.returns-clause-not_zero
unfolding look_up write insert_by best_fit write_all after keeps after_all by_ticket first_breach by_address by_page by_index
returns-clause-not_zero c = refl

pub returns-clause-too_few : goal.returns-clause-too_few
unfolding look_up write insert_by best_fit write_all after keeps after_all by_ticket first_breach by_address by_page by_index
returns-clause-too_few c = λ some. let many = some.many in let same = some.bytes in (cc)

pub returns-clause-past_end : goal.returns-clause-past_end
unfolding look_up write insert_by best_fit write_all after keeps after_all by_ticket first_breach by_address by_page by_index
returns-clause-past_end c = λ same. (cc)

pub returns-clause-not_filled : goal.returns-clause-not_filled
unfolding look_up write insert_by best_fit write_all after keeps after_all by_ticket first_breach by_address by_page by_index
returns-clause-not_filled c = refl

pub returns-clause-not_linked : goal.returns-clause-not_linked
unfolding look_up write insert_by best_fit write_all after keeps after_all by_ticket first_breach by_address by_page by_index
returns-clause-not_linked c = refl

pub returns-clause-past_known : goal.returns-clause-past_known
unfolding look_up write insert_by best_fit write_all after keeps after_all by_ticket first_breach by_address by_page by_index
returns-clause-past_known c = record {
  trace = refl;
  history = (c.lawful_without_breach.ensures (profile_of 64) (entries_of (unknown_shown))).0 refl;
  fitting = (
    record { answer = refl; entries = serves refl (way.by_fresh_region _ 0 0 (take 2 (first_block 32)) [] (drop 2 (first_block 32)) refl refl refl tt refl refl); bytes = refl; in_turn = refl },
    (
      record { answer = record { shown = 0 ∷ 99 ∷ []; many = refl; bytes = refl }; entries = refl; bytes = refl; in_turn = refl },
      tt,
    ),
  );
}
