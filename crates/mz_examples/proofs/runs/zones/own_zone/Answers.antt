use Rattle.std.proofs.Common.{refl, [], ◌∷◌, take, drop}
use Rattle.mz_record.specs.Served as way
use Rattle.mz_lawful.specs.Records.{entries_of}
use Rattle.mz_events.specs.declared.event.Event.TheVariants as event
use Rattle.mz_events.specs.declared.place.Place.TheVariants as place
use Rattle.mz_examples.specs.Examples.{entry_of}
use Rattle.mz_examples.specs.Rows.{second}
use Rattle.mz_examples.specs.RunsZones.{two_zones_in_64, freed_in_own, ends_in_second}
use Rattle.mz_lines.specs.declared.answer.Answer.TheVariants as answers
use Rattle.mz_examples.proofs.RunTests.{serves}
use Rattle.mz_events.specs.State.{look_up, write}
use Rattle.mz_base.specs.Lists.{insert_by}
use Rattle.mz_events.specs.Room.{best_fit}
use Rattle.mz_events.specs.Effect.{write_all, after}
use Rattle.mz_events.specs.Rules.{keeps}
use Rattle.mz_events.specs.History.{after_all, by_ticket, first_breach}
use Rattle.mz_events.specs.Separation.{by_address}
use Rattle.mz_record.specs.Zones.{by_page}
use Rattle.mz_lawful.specs.Standing.{by_index}
use Rattle.mz_examples.proofs.runs.zones.own_zone.Goals as goal

pub returns-clause-lawful : goal.returns-clause-lawful
unfolding look_up write insert_by best_fit write_all after keeps after_all by_ticket first_breach by_address by_page by_index
returns-clause-lawful c = record {
  trace = refl;
  history = (c.lawful_without_breach.ensures (two_zones_in_64) (entries_of (freed_in_own ends_in_second answers.Done))).0 refl;
  fitting = (
    record { answer = refl; entries = refl; bytes = refl; in_turn = refl },
    (
      record { answer = refl; entries = refl; bytes = refl; in_turn = refl },
      (
        record { answer = refl; entries = serves refl (way.by_fresh_region _ 0 0 (take 2 (entry_of 1 (event.Full second 16 16) ∷ entry_of 2 (event.Full (place.TinyDepot 1) 16 16) ∷ entry_of 3 (event.Take second 0 64) ∷ entry_of 4 (event.New second 0 16 16) ∷ [])) [] (drop 2 (entry_of 1 (event.Full second 16 16) ∷ entry_of 2 (event.Full (place.TinyDepot 1) 16 16) ∷ entry_of 3 (event.Take second 0 64) ∷ entry_of 4 (event.New second 0 16 16) ∷ [])) refl refl refl tt refl refl); bytes = refl; in_turn = refl },
        (
          record { answer = refl; entries = (second, refl, refl); bytes = refl; in_turn = refl },
          tt,
        ),
      ),
    ),
  );
}

pub returns-clause-denied : goal.returns-clause-denied
unfolding look_up write insert_by best_fit write_all after keeps after_all by_ticket first_breach by_address by_page by_index
returns-clause-denied c = λ same. (cc)

pub returns-clause-with_no : goal.returns-clause-with_no
unfolding look_up write insert_by best_fit write_all after keeps after_all by_ticket first_breach by_address by_page by_index
returns-clause-with_no c = λ dropped. let other = dropped.1 in (cc)
