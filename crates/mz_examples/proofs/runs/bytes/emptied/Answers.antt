use Rattle.std.proofs.Common.{refl, [], ◌∷◌, take, drop, inr}
use Rattle.mz_base.specs.Space.{block_at}
use Rattle.mz_record.specs.Served as way
use Rattle.mz_record.specs.Resized as size
use Rattle.mz_lawful.specs.Records.{entries_of}
use Rattle.mz_examples.specs.Examples.{profile_of, magazine}
use Rattle.mz_examples.specs.RunsRows.{first_block, new_at, end_at}
use Rattle.mz_examples.specs.RunsBytes.{emptied_shown}
use Rattle.mz_examples.proofs.RunTests.{serves}
use Rattle.mz_events.specs.State.{look_up, write}
use Rattle.mz_base.specs.Lists.{insert_by}
use Rattle.mz_events.specs.Room.{best_fit}
use Rattle.mz_events.specs.Effect.{write_all, after}
use Rattle.mz_events.specs.Rules.{keeps}
use Rattle.mz_events.specs.History.{after_all, by_ticket, first_breach}
use Rattle.mz_events.specs.Separation.{by_address}
use Rattle.mz_record.specs.Zones.{by_page}
use Rattle.mz_lawful.specs.Standing.{by_index}
use Rattle.mz_examples.proofs.runs.bytes.emptied.Goals as goal

pub returns-clause-lawful : goal.returns-clause-lawful
unfolding look_up write insert_by best_fit write_all after keeps after_all by_ticket first_breach by_address by_page by_index
returns-clause-lawful c = record {
  trace = refl;
  history = (c.lawful_without_breach.ensures (profile_of 64) (entries_of (emptied_shown 6 6))).0 refl;
  fitting = (
    record { answer = refl; entries = serves refl (way.by_fresh_region _ 0 0 (take 2 (first_block 48)) [] (drop 2 (first_block 48)) refl refl refl tt refl refl); bytes = refl; in_turn = refl },
    (
      record { answer = refl; entries = refl; bytes = refl; in_turn = refl },
      (
        record { answer = refl; entries = inr (size.moved (block_at 48 16) (new_at 4 48 16) (end_at 5 0 48) (size.to_nothing refl) refl (serves refl (way.by_magazine _ 48 refl refl refl)) (magazine, refl, refl) refl); bytes = refl; in_turn = refl },
        (
          record { answer = record { shown = 9 ∷ 0 ∷ []; many = refl; bytes = refl }; entries = refl; bytes = refl; in_turn = refl },
          (
            record { answer = refl; entries = refl; bytes = refl; in_turn = refl },
            (
              record { answer = record { shown = 6 ∷ 6 ∷ []; many = refl; bytes = refl }; entries = refl; bytes = refl; in_turn = refl },
              tt,
            ),
          ),
        ),
      ),
    ),
  );
}

pub returns-clause-earlier_byte : goal.returns-clause-earlier_byte
unfolding look_up write insert_by best_fit write_all after keeps after_all by_ticket first_breach by_address by_page by_index
returns-clause-earlier_byte c = refl
