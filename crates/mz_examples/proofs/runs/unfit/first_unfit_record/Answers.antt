use Rattle.std.proofs.Common.{◌≡◌, ℕ, refl, ap, arith}
use Rattle.mz_lines.specs.declared.answer.Answer.{Answer}
use Rattle.mz_lines.specs.declared.answer.Answer.TheVariants as answers
use Rattle.core.specs.Fmt.{digits}
use Rattle.mz_words.specs.Kinds.{word_text}
use Rattle.mz_events.specs.State.{look_up, write}
use Rattle.mz_base.specs.Lists.{insert_by}
use Rattle.mz_events.specs.Room.{best_fit}
use Rattle.mz_events.specs.Effect.{write_all, after}
use Rattle.mz_events.specs.Rules.{keeps}
use Rattle.mz_events.specs.History.{after_all, by_ticket, first_breach}
use Rattle.mz_events.specs.Separation.{by_address}
use Rattle.mz_record.specs.Zones.{by_page}
use Rattle.mz_lawful.specs.Standing.{by_index}
use Rattle.mz_examples.proofs.runs.unfit.first_unfit_record.Goals as goal

-- the size of the block of an answer
abbrev size_told : Answer → ℕ
size_told (answers.Block a s) = s
size_told _ = 0

other_block : ◌≡◌ {A = Answer} (answers.Block 0 128) (answers.Block 0 112) → ⊥
other_block same = let sizes : 128 ≡ 112 = ap size_told same in omega (arith, sizes)

no_null : ◌≡◌ {A = Answer} (answers.Block 0 112) answers.Null → ⊥
no_null same = cc

pub returns-clause-answer : goal.returns-clause-answer
unfolding word_text digits look_up write insert_by best_fit write_all after keeps after_all by_ticket first_breach by_address by_page by_index
returns-clause-answer c = record { index = 0; here = _; at = refl; unfit = λ fits. other_block fits.answer; fitting = tt; number = refl }

pub returns-clause-left_out : goal.returns-clause-left_out
unfolding word_text digits look_up write insert_by best_fit write_all after keeps after_all by_ticket first_breach by_address by_page by_index
returns-clause-left_out c = record { index = 0; here = _; at = refl; unfit = λ fits. no_null fits.answer; fitting = tt; number = refl }
