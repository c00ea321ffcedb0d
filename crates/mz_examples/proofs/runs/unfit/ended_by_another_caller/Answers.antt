use Rattle.std.proofs.Common.{◌≡◌, refl, [], take, drop, inl, arith}
use Rattle.mz_lines.specs.declared.answer.Answer.{Answer}
use Rattle.mz_lines.specs.declared.answer.Answer.TheVariants as answers
use Rattle.mz_record.specs.Served as way
use Rattle.mz_record.specs.Resized as size
use Rattle.mz_lawful.specs.Records.{entries_of}
use Rattle.mz_examples.specs.Edges.{two_callers}
use Rattle.mz_examples.specs.RunsRows.{first_block}
use Rattle.mz_examples.specs.RunsUnfit.{ended_by_other}
use Rattle.mz_examples.proofs.RunTests.{serves}
use Rattle.core.specs.Fmt.{digits}
use Rattle.mz_words.specs.Kinds.{word_text}
use Rattle.mz_events.specs.State.{look_up, write}
use Rattle.mz_base.specs.Lists.{insert_by}
use Rattle.mz_events.specs.Room.{best_fit}
use Rattle.mz_events.specs.Effect.{write_all, after}
use Rattle.mz_events.specs.Rules.{keeps}
use Rattle.mz_events.specs.History.{after_all, by_ticket, first_breach}
use Rattle.mz_events.specs.Separation.{by_address}
use Rattle.mz_record.specs.Zones.{by_page}
use Rattle.mz_lawful.specs.Standing.{by_index}
use Rattle.mz_examples.proofs.runs.unfit.ended_by_another_caller.Goals as goal

not_done : ◌≡◌ {A = Answer} answers.Done answers.NotHeld → ⊥
not_done same = cc

pub returns-clause-lawful : goal.returns-clause-lawful
unfolding word_text digits look_up write insert_by best_fit write_all after keeps after_all by_ticket first_breach by_address by_page by_index
returns-clause-lawful c = (c.lawful_without_breach.ensures two_callers (entries_of ended_by_other)).0 refl

pub returns-clause-unfit : goal.returns-clause-unfit
unfolding word_text digits look_up write insert_by best_fit write_all after keeps after_all by_ticket first_breach by_address by_page by_index
returns-clause-unfit c = record {
  index = 3;
  here = _;
  at = refl;
  unfit = λ fits. not_done fits.answer;
  fitting = (
    record { answer = refl; entries = serves refl (way.by_fresh_region _ 0 0 (take 2 (first_block 48)) [] (drop 2 (first_block 48)) refl refl refl tt refl refl); bytes = refl; in_turn = refl },
    (
      record { answer = refl; entries = serves refl (way.by_magazine _ 0 refl refl refl); bytes = refl; in_turn = refl },
      (record { answer = refl; entries = inl (size.same_size (omega arith) refl refl refl); bytes = refl; in_turn = refl }, tt),
    ),
  );
  number = refl;
}
