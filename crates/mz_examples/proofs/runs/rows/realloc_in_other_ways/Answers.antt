use Rattle.std.proofs.Common.{refl, [], take, drop, inl, inr, arith}
use Rattle.std.proofs.lemmas.Bool.{false≢true}
use Rattle.mz_base.specs.Space.{block_at}
use Rattle.mz_record.specs.Served as way
use Rattle.mz_record.specs.Resized as size
use Rattle.mz_lawful.specs.Records.{entries_of}
use Rattle.mz_events.specs.declared.event.Event.TheVariants as event
use Rattle.mz_lines.specs.declared.answer.Answer.TheVariants as answers
use Rattle.mz_examples.specs.Examples.{profile_of, entry_of, magazine}
use Rattle.mz_examples.specs.RunsRows.{first_block, renamed, not_moved, no_small_region}
use Rattle.mz_examples.specs.RunsResized.{asks}
use Rattle.mz_examples.proofs.UndisturbedTest.{undisturbed_by_test}
use Rattle.mz_examples.proofs.ResizedTests.{no_end_then_stays}
use Rattle.mz_examples.proofs.RunTests.{serves}
use Rattle.mz_events.specs.State.{look_up, write}
use Rattle.mz_base.specs.Lists.{insert_by}
use Rattle.mz_events.specs.Room.{best_fit}
use Rattle.mz_events.specs.Effect.{write_all, after}
use Rattle.mz_events.specs.Rules.{keeps}
use Rattle.mz_events.specs.History.{after_all, by_ticket, first_breach}
use Rattle.mz_examples.proofs.runs.rows.realloc_in_other_ways.Goals as goal

pub returns-clause-renamed : goal.returns-clause-renamed
unfolding look_up write insert_by best_fit write_all after keeps after_all by_ticket first_breach
returns-clause-renamed c = record {
  trace = refl;
  history = (c.lawful_without_breach.ensures (profile_of 64) (entries_of (renamed answers.NotHeld))).0 refl;
  fitting = (
    record { answer = refl; entries = serves refl (way.by_fresh_region _ 0 0 (take 2 (first_block 48)) [] (drop 2 (first_block 48)) refl refl refl tt refl refl); bytes = refl; in_turn = refl },
    (
      record { answer = refl; entries = inl (size.same_size (omega arith) refl refl refl); bytes = refl; in_turn = refl },
      (
        record { answer = refl; entries = refl; bytes = refl; in_turn = refl },
        (
          record { answer = refl; entries = (magazine, refl, refl); bytes = refl; in_turn = refl },
          tt,
        ),
      ),
    ),
  );
}

pub returns-clause-old_name : goal.returns-clause-old_name
unfolding look_up write insert_by best_fit write_all after keeps after_all by_ticket first_breach
returns-clause-old_name c = λ same. (cc)

pub returns-clause-not_moved : goal.returns-clause-not_moved
unfolding look_up write insert_by best_fit write_all after keeps after_all by_ticket first_breach
returns-clause-not_moved c = record {
  trace = refl;
  history = (c.lawful_without_breach.ensures (profile_of 64) (entries_of (not_moved no_small_region answers.Null))).0 refl;
  fitting = (
    record { answer = refl; entries = serves refl (way.by_fresh_region _ 0 0 (take 2 (first_block 48)) [] (drop 2 (first_block 48)) refl refl refl tt refl refl); bytes = refl; in_turn = refl },
    (
      record { answer = refl; entries = inr (size.not_moved (size.between_ranges (λ same. (cc)) (λ same. (cc))) (record { served = way.null_in_range _ (take 2 no_small_region) [] (entry_of 6 (event.Dry 0 512 512)) refl refl refl tt (record { event = refl; no_duty = refl }) refl; undisturbed = undisturbed_by_test (profile_of 64) (entries_of (not_moved no_small_region answers.Null)) 0 no_small_region refl }) refl); bytes = refl; in_turn = refl },
      (
        record { answer = refl; entries = (magazine, refl, refl); bytes = refl; in_turn = refl },
        tt,
      ),
    ),
  );
}

pub returns-clause-not_null : goal.returns-clause-not_null
unfolding look_up write insert_by best_fit write_all after keeps after_all by_ticket first_breach
returns-clause-not_null c = λ same. (cc)

pub returns-clause-made_up_null : goal.returns-clause-made_up_null
unfolding look_up write insert_by best_fit write_all after keeps after_all by_ticket first_breach
returns-clause-made_up_null c = λ done. false≢true (no_end_then_stays (profile_of 64) (by_ticket (entries_of (not_moved [] answers.Null))) (asks 4 5 0 (block_at 0 48) 2000) [] (block_at 0 48) done refl)
