use Rattle.std.proofs.Common.{refl, [], ◌∷◌, take, drop}
use Rattle.mz_record.specs.Served as way
use Rattle.mz_lawful.specs.Records.{entries_of}
use Rattle.mz_events.specs.declared.event.Event.TheVariants as event
use Rattle.mz_events.specs.declared.place.Place.TheVariants as place
use Rattle.mz_examples.specs.Examples.{entry_of}
use Rattle.mz_examples.specs.Rows.{second}
use Rattle.mz_examples.specs.RunsZones.{two_zones_in_64, row_asks}
use Rattle.mz_examples.proofs.RunTests.{serves}
use Rattle.mz_events.specs.State.{look_up, write}
use Rattle.mz_base.specs.Lists.{insert_by}
use Rattle.mz_events.specs.Room.{best_fit}
use Rattle.mz_events.specs.Effect.{write_all, after}
use Rattle.mz_events.specs.Rules.{keeps}
use Rattle.mz_events.specs.History.{after_all, by_ticket, first_breach}
use Rattle.mz_examples.proofs.runs.zones.round_lines.Goals as goal

pub returns-clause-lawful : goal.returns-clause-lawful
unfolding look_up write insert_by best_fit write_all after keeps after_all by_ticket first_breach
returns-clause-lawful c = record {
  trace = refl;
  history = (c.lawful_without_breach.ensures (two_zones_in_64) (entries_of (row_asks))).0 refl;
  fitting = (
    record { answer = refl; entries = refl; bytes = refl; in_turn = refl },
    (
      record { answer = refl; entries = refl; bytes = refl; in_turn = refl },
      (
        record { answer = refl; entries = refl; bytes = refl; in_turn = refl },
        (
          record { answer = refl; entries = refl; bytes = refl; in_turn = refl },
          (
            record { answer = refl; entries = refl; bytes = refl; in_turn = refl },
            (
              record { answer = refl; entries = refl; bytes = refl; in_turn = refl },
              (
                record { answer = refl; entries = serves refl (way.by_fresh_region _ 0 0 (take 2 (entry_of 1 (event.Full second 16 16) ∷ entry_of 2 (event.Full (place.TinyDepot 1) 16 16) ∷ entry_of 3 (event.Take second 0 64) ∷ entry_of 4 (event.New second 0 16 16) ∷ [])) [] (drop 2 (entry_of 1 (event.Full second 16 16) ∷ entry_of 2 (event.Full (place.TinyDepot 1) 16 16) ∷ entry_of 3 (event.Take second 0 64) ∷ entry_of 4 (event.New second 0 16 16) ∷ [])) refl refl refl tt refl refl); bytes = refl; in_turn = refl },
                (
                  record { answer = refl; entries = refl; bytes = refl; in_turn = refl },
                  (
                    record { answer = refl; entries = refl; bytes = refl; in_turn = refl },
                    (
                      record { answer = refl; entries = refl; bytes = refl; in_turn = refl },
                      (
                        record { answer = refl; entries = refl; bytes = refl; in_turn = refl },
                        (
                          record { answer = refl; entries = refl; bytes = refl; in_turn = refl },
                          tt,
                        ),
                      ),
                    ),
                  ),
                ),
              ),
            ),
          ),
        ),
      ),
    ),
  );
}

pub returns-clause-later_test : goal.returns-clause-later_test
unfolding look_up write insert_by best_fit write_all after keeps after_all by_ticket first_breach
returns-clause-later_test c = λ same. (cc)

pub returns-clause-not_full : goal.returns-clause-not_full
unfolding look_up write insert_by best_fit write_all after keeps after_all by_ticket first_breach
returns-clause-not_full c = λ same. (cc)

pub returns-clause-other_zone : goal.returns-clause-other_zone
unfolding look_up write insert_by best_fit write_all after keeps after_all by_ticket first_breach
returns-clause-other_zone c = λ same. (cc)

pub returns-clause-inside : goal.returns-clause-inside
unfolding look_up write insert_by best_fit write_all after keeps after_all by_ticket first_breach
returns-clause-inside c = λ same. (cc)
