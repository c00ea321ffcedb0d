use Rattle.std.proofs.Common.{refl}
use Rattle.core.specs.Fmt.{digits}
use Rattle.mz_words.specs.Kinds.{word_text}
use Rattle.mz_events.specs.State.{look_up, write}
use Rattle.mz_base.specs.Lists.{insert_by}
use Rattle.mz_events.specs.Room.{best_fit}
use Rattle.mz_events.specs.Effect.{write_all, after}
use Rattle.mz_events.specs.Rules.{keeps}
use Rattle.mz_events.specs.History.{after_all, by_ticket, first_breach}
use Rattle.mz_events.specs.Separation.{by_address}
use Rattle.mz_record.specs.Zones.{by_page}
use Rattle.mz_lawful.specs.Standing.{by_index}
use Rattle.mz_examples.proofs.runs.unfit.first_wrong_lines.Goals as goal

pub returns-clause-none : goal.returns-clause-none
unfolding word_text digits look_up write insert_by best_fit write_all after keeps after_all by_ticket first_breach by_address by_page by_index
returns-clause-none c = refl

pub returns-clause-number : goal.returns-clause-number
unfolding word_text digits look_up write insert_by best_fit write_all after keeps after_all by_ticket first_breach by_address by_page by_index
returns-clause-number c = refl

pub returns-clause-missing : goal.returns-clause-missing
unfolding word_text digits look_up write insert_by best_fit write_all after keeps after_all by_ticket first_breach by_address by_page by_index
returns-clause-missing c = refl

pub returns-clause-left_over : goal.returns-clause-left_over
unfolding word_text digits look_up write insert_by best_fit write_all after keeps after_all by_ticket first_breach by_address by_page by_index
returns-clause-left_over c = refl
