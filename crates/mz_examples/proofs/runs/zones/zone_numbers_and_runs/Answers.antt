use Rattle.std.proofs.Common.{refl, [], ◌∷◌, take, drop}
use Rattle.mz_record.specs.Served as way
use Rattle.mz_lawful.specs.Records.{entries_of}
use Rattle.mz_events.specs.declared.event.Event.TheVariants as event
use Rattle.mz_examples.specs.Examples.{entry_of}
use Rattle.mz_examples.specs.Rows.{second}
use Rattle.mz_examples.specs.RunsZones.{two_zones_in_64, opened_as_2, destroyed, in_ascending_order, in_descending_order}
use Rattle.mz_events.specs.declared.place.Place.TheVariants as place
use Rattle.mz_examples.proofs.RunTests.{serves}
use Rattle.mz_events.specs.State.{look_up, write}
use Rattle.mz_base.specs.Lists.{insert_by}
use Rattle.mz_events.specs.Room.{best_fit}
use Rattle.mz_events.specs.Effect.{write_all, after}
use Rattle.mz_events.specs.Rules.{keeps}
use Rattle.mz_events.specs.History.{after_all, by_ticket, first_breach}
use Rattle.mz_events.specs.Separation.{by_address}
use Rattle.mz_record.specs.Zones.{by_page}
use Rattle.mz_lawful.specs.Standing.{by_index}
use Rattle.mz_examples.proofs.runs.zones.zone_numbers_and_runs.Goals as goal

pub returns-clause-lawful_number : goal.returns-clause-lawful_number
unfolding look_up write insert_by best_fit write_all after keeps after_all by_ticket first_breach by_address by_page by_index
returns-clause-lawful_number c = (c.lawful_without_breach.ensures (record two_zones_in_64 { zones = 3 }) (entries_of opened_as_2)).0 refl

pub returns-clause-not_lowest : goal.returns-clause-not_lowest
unfolding look_up write insert_by best_fit write_all after keeps after_all by_ticket first_breach by_address by_page by_index
returns-clause-not_lowest c = λ same. (cc)

pub returns-clause-ascending : goal.returns-clause-ascending
unfolding look_up write insert_by best_fit write_all after keeps after_all by_ticket first_breach by_address by_page by_index
returns-clause-ascending c = record {
  trace = refl;
  history = (c.lawful_without_breach.ensures (record two_zones_in_64 { pages = 128 }) (entries_of (destroyed in_ascending_order))).0 refl;
  fitting = (
    record { answer = refl; entries = refl; bytes = refl; in_turn = refl },
    (
      record { answer = refl; entries = refl; bytes = refl; in_turn = refl },
      (
        record { answer = refl; entries = serves refl (way.by_fresh_region _ 0 0 (take 2 (entry_of 1 (event.Full second 16 16) ∷ entry_of 2 (event.Full (place.TinyDepot 1) 16 16) ∷ entry_of 3 (event.Take second 0 64) ∷ entry_of 4 (event.New second 0 16 16) ∷ [])) [] (drop 2 (entry_of 1 (event.Full second 16 16) ∷ entry_of 2 (event.Full (place.TinyDepot 1) 16 16) ∷ entry_of 3 (event.Take second 0 64) ∷ entry_of 4 (event.New second 0 16 16) ∷ [])) refl refl refl tt refl refl); bytes = refl; in_turn = refl },
        (
          record { answer = refl; entries = serves refl (way.by_fresh_run 64 (entry_of 5 (event.Full (place.Large 1) 3 1)) [] (drop 1 (entry_of 5 (event.Full (place.Large 1) 3 1) ∷ entry_of 6 (event.Take (place.Large 1) 64 3) ∷ entry_of 7 (event.New (place.Large 1) 1048576 49152 16) ∷ [])) refl refl refl tt refl refl); bytes = refl; in_turn = refl },
          (
            record { answer = refl; entries = ((place.Large 1), refl, refl); bytes = refl; in_turn = refl },
            (
              record { answer = refl; entries = (second, refl, refl); bytes = refl; in_turn = refl },
              (
                record { answer = refl; entries = refl; bytes = refl; in_turn = refl },
                tt,
              ),
            ),
          ),
        ),
      ),
    ),
  );
}

pub returns-clause-lawful_order : goal.returns-clause-lawful_order
unfolding look_up write insert_by best_fit write_all after keeps after_all by_ticket first_breach by_address by_page by_index
returns-clause-lawful_order c = (c.lawful_without_breach.ensures (record two_zones_in_64 { pages = 128 }) (entries_of (destroyed in_descending_order))).0 refl

pub returns-clause-descending : goal.returns-clause-descending
unfolding look_up write insert_by best_fit write_all after keeps after_all by_ticket first_breach by_address by_page by_index
returns-clause-descending c = λ same. (cc)

pub returns-clause-left_out : goal.returns-clause-left_out
unfolding look_up write insert_by best_fit write_all after keeps after_all by_ticket first_breach by_address by_page by_index
returns-clause-left_out c = λ same. (cc)
