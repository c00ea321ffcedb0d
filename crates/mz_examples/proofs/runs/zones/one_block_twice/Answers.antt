use Rattle.std.proofs.Common.{refl, [], ◌∷◌, take, drop}
use Rattle.mz_record.specs.Served as way
use Rattle.mz_lawful.specs.Records.{entries_of}
use Rattle.mz_examples.specs.Examples.{magazine}
use Rattle.mz_examples.specs.Edges.{two_callers}
use Rattle.mz_examples.specs.RunsZones.{made_by_other, one_after_the_other}
use Rattle.mz_examples.proofs.RunTests.{serves}
use Rattle.mz_events.specs.State.{look_up, write}
use Rattle.mz_base.specs.Lists.{insert_by}
use Rattle.mz_events.specs.Room.{best_fit}
use Rattle.mz_events.specs.Effect.{write_all, after}
use Rattle.mz_events.specs.Rules.{keeps}
use Rattle.mz_events.specs.History.{after_all, by_ticket, first_breach}
use Rattle.mz_examples.proofs.runs.zones.one_block_twice.Goals as goal

pub returns-clause-lawful : goal.returns-clause-lawful
unfolding look_up write insert_by best_fit write_all after keeps after_all by_ticket first_breach
returns-clause-lawful c = record {
  trace = refl;
  history = (c.lawful_without_breach.ensures (two_callers) (entries_of (one_after_the_other (3 ∷ 3 ∷ [])))).0 refl;
  fitting = (
    record { answer = refl; entries = serves refl (way.by_magazine _ 0 refl refl refl); bytes = refl; in_turn = refl },
    (
      record { answer = refl; entries = refl; bytes = refl; in_turn = refl },
      (
        record { answer = refl; entries = serves refl (way.by_fresh_region _ 0 0 (take 2 (made_by_other)) [] (drop 2 (made_by_other)) refl refl refl tt refl refl); bytes = refl; in_turn = refl },
        (
          record { answer = refl; entries = refl; bytes = refl; in_turn = refl },
          (
            record { answer = refl; entries = (magazine, refl, refl); bytes = refl; in_turn = refl },
            (
              record { answer = record { shown = 3 ∷ 3 ∷ []; many = refl; bytes = refl }; entries = refl; bytes = refl; in_turn = refl },
              tt,
            ),
          ),
        ),
      ),
    ),
  );
}

pub returns-clause-other_bytes : goal.returns-clause-other_bytes
unfolding look_up write insert_by best_fit write_all after keeps after_all by_ticket first_breach
returns-clause-other_bytes c = refl

pub returns-clause-any_bytes : goal.returns-clause-any_bytes
unfolding look_up write insert_by best_fit write_all after keeps after_all by_ticket first_breach
returns-clause-any_bytes c = refl
