use Rattle.std.proofs.Common.{ap, ◌∙◌, refl, inl, inr}
use Rattle.mz_words.specs.Kinds.{word_fits}
use Rattle.mz_lines.specs.Answers.{answer_fits}
use Rattle.mz_run.proofs.told.answer.Goals as goal

pub returns-in-Block-clause-fits : goal.returns-in-Block-clause-fits
unfolding word_fits
returns-in-Block-clause-fits c = ap answer_fits c.in-Block.is ∙ rw (c.number.ensures, c.number-in-Block.ensures) refl

pub returns-in-Bytes-clause-fits : goal.returns-in-Bytes-clause-fits
unfolding word_fits
returns-in-Bytes-clause-fits c = ap answer_fits c.in-Bytes.is ∙ rw c.bytes.ensures refl

pub returns-in-Zone-clause-fits : goal.returns-in-Zone-clause-fits
unfolding word_fits
returns-in-Zone-clause-fits c = ap answer_fits c.in-Zone.is ∙ rw c.zone.ensures refl

pub returns-in-HasLive-clause-fits : goal.returns-in-HasLive-clause-fits
unfolding word_fits
returns-in-HasLive-clause-fits c = elim c.in-HasLive.is [
  | inl is ↦ ap answer_fits is ∙ rw c.number-in-HasLive.ensures refl
  | inr (inl is) ↦ ap answer_fits is ∙ rw c.number-in-HasLive.ensures refl
  | inr (inr is) ↦ ap answer_fits is ∙ rw c.number-in-HasLive.ensures refl
]

pub returns-in-WrongSize-clause-fits : goal.returns-in-WrongSize-clause-fits
unfolding word_fits
returns-in-WrongSize-clause-fits c = elim c.in-WrongSize.is [
  | inl is ↦ ap answer_fits is ∙ rw c.number-in-WrongSize.ensures refl
  | inr is ↦ ap answer_fits is ∙ rw c.number-in-WrongSize.ensures refl
]
