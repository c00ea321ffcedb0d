use Rattle.std.proofs.Common.{arith, refl, [], Some, take, drop, inl, inr}
use Rattle.std.proofs.lemmas.Bool.{false≢true, leb-true}
use Rattle.mz_base.specs.Space.{block_at}
use Rattle.mz_record.specs.Served as way
use Rattle.mz_record.specs.Resized as size
use Rattle.mz_lawful.specs.Records.{entries_of}
use Rattle.mz_examples.specs.Examples.{profile_of, magazine}
use Rattle.mz_examples.specs.RunsRows.{first_block, new_at, end_at, row_realloc, resized_once, moves_without_need}
use Rattle.mz_lines.specs.declared.answer.Answer.TheVariants as answers
use Rattle.mz_examples.specs.RunsResized.{asks}
use Rattle.mz_examples.proofs.ResizedTests.{ends_then_moves, no_end_then_stays, stays_with_room}
use Rattle.mz_examples.proofs.RunTests.{serves}
use Rattle.mz_events.specs.State.{look_up, write}
use Rattle.mz_base.specs.Lists.{insert_by}
use Rattle.mz_events.specs.Room.{best_fit}
use Rattle.mz_events.specs.Effect.{write_all, after}
use Rattle.mz_events.specs.Rules.{keeps}
use Rattle.mz_events.specs.History.{after_all, by_ticket, first_breach}
use Rattle.mz_events.specs.Separation.{by_address}
use Rattle.mz_record.specs.Zones.{by_page}
use Rattle.mz_lawful.specs.Standing.{by_index}
use Rattle.mz_examples.proofs.runs.rows.realloc.Goals as goal

pub returns-clause-lawful : goal.returns-clause-lawful
unfolding look_up write insert_by best_fit write_all after keeps after_all by_ticket first_breach by_address by_page by_index
returns-clause-lawful c = record {
  trace = refl;
  history = (c.lawful_without_breach.ensures (profile_of 64) (entries_of (row_realloc))).0 refl;
  fitting = (
    record { answer = refl; entries = serves refl (way.by_fresh_region _ 0 0 (take 2 (first_block 48)) [] (drop 2 (first_block 48)) refl refl refl tt refl refl); bytes = refl; in_turn = refl },
    (
      record { answer = refl; entries = inl (size.in_place magazine (record { asked = omega arith; ranges = refl; not_large = λ same. (cc); in_region = refl }) (λ same. (cc)) refl refl); bytes = refl; in_turn = refl },
      (
        record { answer = refl; entries = serves refl (way.by_magazine _ 112 refl refl refl); bytes = refl; in_turn = refl },
        (
          record { answer = refl; entries = inr (size.moved (block_at 128 208) (new_at 6 128 208) (end_at 7 0 112) (size.hemmed_in (record { asked = omega arith; ranges = refl; not_large = λ same. (cc); in_region = refl }) (omega arith) (record { t = 6; not_before = leb-true _ _ refl; not_after = leb-true _ _ refl; within = leb-true _ _ refl; hemmed = (magazine, refl, refl, refl) })) refl (serves refl (way.by_magazine _ 128 refl refl refl)) (magazine, refl, refl) refl); bytes = refl; in_turn = refl },
          (
            record { answer = refl; entries = serves refl (way.by_magazine _ 0 refl refl refl); bytes = refl; in_turn = refl },
            tt,
          ),
        ),
      ),
    ),
  );
}

pub returns-clause-tail : goal.returns-clause-tail
unfolding look_up write insert_by best_fit write_all after keeps after_all by_ticket first_breach by_address by_page by_index
returns-clause-tail c = refl

pub returns-clause-old_size : goal.returns-clause-old_size
unfolding look_up write insert_by best_fit write_all after keeps after_all by_ticket first_breach by_address by_page by_index
returns-clause-old_size c = λ same. (cc)

pub returns-clause-without_need : goal.returns-clause-without_need
unfolding look_up write insert_by best_fit write_all after keeps after_all by_ticket first_breach by_address by_page by_index
returns-clause-without_need c = λ done. stays_with_room (profile_of 64) (by_ticket (entries_of (resized_once moves_without_need (answers.Block 48 112)))) 4 (block_at 0 48) 100 (record { asked = omega arith; ranges = refl; not_large = λ same. (cc); in_region = refl }) refl (ends_then_moves (profile_of 64) (by_ticket (entries_of (resized_once moves_without_need (answers.Block 48 112)))) (asks 4 4 0 (block_at 0 48) 100) moves_without_need (Some (block_at 48 112)) done refl)

pub returns-clause-left_out : goal.returns-clause-left_out
unfolding look_up write insert_by best_fit write_all after keeps after_all by_ticket first_breach by_address by_page by_index
returns-clause-left_out c = λ done. false≢true (no_end_then_stays (profile_of 64) (first_block 48) (asks 4 4 0 (block_at 0 48) 100) [] (block_at 0 48) done refl)
