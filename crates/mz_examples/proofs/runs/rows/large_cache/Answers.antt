use Rattle.std.proofs.Common.{◌≡◌, ℕ, arith, refl, ap, [], ◌∷◌, drop}
use Rattle.std.proofs.lemmas.Bool.{false≢true}
use Rattle.mz_base.specs.Space.{block_at}
use Rattle.mz_record.specs.Served as way
use Rattle.mz_lawful.specs.Records.{entries_of}
use Rattle.mz_events.specs.declared.event.Event.TheVariants as event
use Rattle.mz_examples.specs.Examples.{profile_of, entry_of, large}
use Rattle.mz_examples.specs.RunsRows.{takes_three, row_large_cache, serves_from_six}
use Rattle.mz_examples.proofs.ServedTests.{begins_at, best_is_served}
use Rattle.mz_examples.proofs.RunTests.{size_answered, serves}
use Rattle.mz_events.specs.State.{look_up, write}
use Rattle.mz_base.specs.Lists.{insert_by}
use Rattle.mz_events.specs.Room.{best_fit}
use Rattle.mz_events.specs.Effect.{write_all, after}
use Rattle.mz_events.specs.Rules.{keeps}
use Rattle.mz_events.specs.History.{after_all, by_ticket, first_breach}
use Rattle.mz_events.specs.Separation.{by_address}
use Rattle.mz_record.specs.Zones.{by_page}
use Rattle.mz_lawful.specs.Standing.{by_index}
use Rattle.mz_examples.proofs.runs.rows.large_cache.Goals as goal

pub returns-clause-lawful : goal.returns-clause-lawful
unfolding look_up write insert_by best_fit write_all after keeps after_all by_ticket first_breach by_address by_page by_index
returns-clause-lawful c = record {
  trace = refl;
  history = (c.lawful_without_breach.ensures (profile_of 64) (entries_of (row_large_cache))).0 refl;
  fitting = (
    record { answer = refl; entries = serves refl (way.by_fresh_run 0 (entry_of 0 (event.Full large 5 1)) [] (drop 1 (entry_of 0 (event.Full large 5 1) ∷ entry_of 1 (event.Take large 0 5) ∷ entry_of 2 (event.New large 0 81920 16) ∷ [])) refl refl refl tt refl refl); bytes = refl; in_turn = refl },
    (
      record { answer = refl; entries = (large, refl, refl); bytes = refl; in_turn = refl },
      (
        record { answer = refl; entries = serves refl (way.by_cache (entry_of 4 (event.New large 0 81920 16)) 0 81920 refl refl refl refl refl); bytes = refl; in_turn = refl },
        (
          record { answer = refl; entries = serves refl (way.by_fresh_run 5 (entry_of 5 (event.Full large 6 1)) [] (drop 1 (entry_of 5 (event.Full large 6 1) ∷ entry_of 6 (event.Take large 5 6) ∷ entry_of 7 (event.New large 81920 98304 16) ∷ [])) refl refl refl tt refl refl); bytes = refl; in_turn = refl },
          (
            record { answer = refl; entries = (large, refl, refl); bytes = refl; in_turn = refl },
            (
              record { answer = refl; entries = serves refl (way.by_fresh_run 11 (entry_of 9 (event.Full large 3 1)) [] (drop 1 (takes_three)) refl refl refl tt refl refl); bytes = refl; in_turn = refl },
              tt,
            ),
          ),
        ),
      ),
    ),
  );
}

pub returns-clause-tail : goal.returns-clause-tail
unfolding look_up write insert_by best_fit write_all after keeps after_all by_ticket first_breach by_address by_page by_index
returns-clause-tail c = refl

pub returns-clause-asked_size : goal.returns-clause-asked_size
unfolding look_up write insert_by best_fit write_all after keeps after_all by_ticket first_breach by_address by_page by_index
returns-clause-asked_size c = λ same. let sizes : ◌≡◌ {A = ℕ} 49152 81920 = ap size_answered same in omega (arith, sizes)

pub returns-clause-wastes : goal.returns-clause-wastes
unfolding look_up write insert_by best_fit write_all after keeps after_all by_ticket first_breach by_address by_page by_index
returns-clause-wastes c = λ s. let best = best_is_served (profile_of 64) (entries_of serves_from_six) (record { caller = 0; zone = 0; bytes = 40000; align = 16 }) (entry_of 9 (event.New large 81920 98304 16)) (block_at 81920 98304) refl s.served in false≢true (ap (begins_at 5) best)
