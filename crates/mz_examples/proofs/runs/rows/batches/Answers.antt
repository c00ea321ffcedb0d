use Rattle.std.proofs.Common.{◌≤◌, arith, refl, sym, ◌∙◌, List, [], ◌++◌, take, drop, inr}
use Rattle.mz_base.specs.Space.{block_at}
use Rattle.mz_record.specs.Served as way
use Rattle.mz_lawful.specs.Records.{entries_of}
use Rattle.mz_events.specs.declared.event.Event.TheVariants as event
use Rattle.mz_examples.specs.Examples.{profile_of, entry_of, magazine}
use Rattle.mz_events.specs.declared.entry.Entry.{Entry}
use Rattle.mz_record.specs.Served.{Request}
use Rattle.mz_examples.specs.RunsRows.{first_block, new_at, end_at, batch, three_served, three_dropped}
use Rattle.mz_lines.specs.declared.answer.Answer.TheVariants as answers
use Rattle.mz_examples.proofs.RunTests.{no_null, nothing_dropped, serves, all_served, dropped_alone}
use Rattle.mz_events.specs.State.{look_up, write}
use Rattle.mz_base.specs.Lists.{insert_by}
use Rattle.mz_events.specs.Room.{best_fit}
use Rattle.mz_events.specs.Effect.{write_all, after}
use Rattle.mz_events.specs.Rules.{keeps}
use Rattle.mz_events.specs.History.{after_all, by_ticket, first_breach}
use Rattle.mz_events.specs.Separation.{by_address}
use Rattle.mz_record.specs.Zones.{by_page}
use Rattle.mz_lawful.specs.Standing.{by_index}
use Rattle.mz_examples.proofs.runs.rows.batches.Goals as goal

pub returns-clause-lawful : goal.returns-clause-lawful
unfolding look_up write insert_by best_fit write_all after keeps after_all by_ticket first_breach by_address by_page by_index
returns-clause-lawful c = record {
  trace = refl;
  history = (c.lawful_without_breach.ensures (profile_of 64) (entries_of (batch three_served (answers.Got 3) three_dropped (answers.Freed 3)))).0 refl;
  fitting = (
    record { answer = refl; entries = inr (first_block 16, new_at 4 16 16 ++ new_at 5 32 16, block_at 0 16, refl, serves refl (way.by_fresh_region _ 0 0 (take 2 (first_block 16)) [] (drop 2 (first_block 16)) refl refl refl tt refl refl), inr (new_at 4 16 16, new_at 5 32 16, block_at 16 16, refl, serves refl (way.by_magazine _ 16 refl refl refl), inr (new_at 5 32 16, [], block_at 32 16, refl, serves refl (way.by_magazine _ 32 refl refl refl), refl))); bytes = refl; in_turn = refl },
    (
      record { answer = refl; entries = (end_at 6 0 16, end_at 7 16 16 ++ end_at 8 32 16, refl, (magazine, refl, refl), (end_at 7 16 16, end_at 8 32 16, refl, (magazine, refl, refl), (end_at 8 32 16, [], refl, (magazine, refl, refl), refl))); bytes = refl; in_turn = refl },
      tt,
    ),
  );
}

pub returns-clause-count : goal.returns-clause-count
unfolding look_up write insert_by best_fit write_all after keeps after_all by_ticket first_breach by_address by_page by_index
returns-clause-count c = λ same. (cc)

pub returns-clause-stops_early : goal.returns-clause-stops_early
unfolding look_up write insert_by best_fit write_all after keeps after_all by_ticket first_breach by_address by_page by_index
returns-clause-stops_early c = λ done.
    let es : List Entry = first_block 16 ++ new_at 4 16 16 in
    let h : List Entry = entries_of (batch es (answers.Got 2) (end_at 5 0 16 ++ end_at 6 16 16) (answers.Freed 2)) in
    let q : Request = record { caller = 0; zone = 0; bytes = 16; align = 16 } in
    let three : 3 ≤ 2 = all_served (profile_of 64) h q 3 es (no_null (profile_of 64) h q es refl) done in
    omega (arith, three)

pub returns-clause-one_left : goal.returns-clause-one_left
unfolding look_up write insert_by best_fit write_all after keeps after_all by_ticket first_breach by_address by_page by_index
returns-clause-one_left c = λ done.
    let h : List Entry = entries_of (batch three_served (answers.Got 3) (end_at 6 0 16 ++ end_at 7 16 16) (answers.Freed 3)) in
    let one = dropped_alone (profile_of 64) h (block_at 0 16) (entry_of 6 (event.End magazine 0 16)) (end_at 7 16 16) done.0 done.1 refl done.2 done.3 in
    let two = dropped_alone (profile_of 64) h (block_at 16 16) (entry_of 7 (event.End magazine 16 16)) [] done.4.0 done.4.1 refl (sym one.others ∙ done.4.2) done.4.3 in
    nothing_dropped (profile_of 64) h (block_at 32 16) done.4.4.0 done.4.4.1 (sym two.others ∙ done.4.4.2) done.4.4.3

pub returns-clause-other_order : goal.returns-clause-other_order
unfolding look_up write insert_by best_fit write_all after keeps after_all by_ticket first_breach by_address by_page by_index
returns-clause-other_order c = λ done.
    let h : List Entry = entries_of (batch three_served (answers.Got 3) (end_at 6 0 16 ++ end_at 7 32 16 ++ end_at 8 16 16) (answers.Freed 3)) in
    let one = dropped_alone (profile_of 64) h (block_at 0 16) (entry_of 6 (event.End magazine 0 16)) (end_at 7 32 16 ++ end_at 8 16 16) done.0 done.1 refl done.2 done.3 in
    let two = dropped_alone (profile_of 64) h (block_at 16 16) (entry_of 7 (event.End magazine 32 16)) (end_at 8 16 16) done.4.0 done.4.1 refl (sym one.others ∙ done.4.2) done.4.3 in
    let other = two.event in
    (cc)
