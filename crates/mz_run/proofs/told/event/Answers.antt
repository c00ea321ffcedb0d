use Rattle.std.proofs.Common.{ap, ◌∙◌, refl, inl, inr}
use Rattle.mz_words.specs.Kinds.{word_fits}
use Rattle.mz_lines.specs.Events.{event_fits}
use Rattle.mz_run.proofs.told.event.Goals as goal

pub returns-in-Take : goal.returns-in-Take
unfolding word_fits
returns-in-Take c = elim c.in-Take.is [
  | inl is ↦ ap event_fits is ∙ rw (c.place-in-Take.ensures, c.number-in-Take.ensures, c.number-in-Take-2.ensures) refl
  | inr is ↦ ap event_fits is ∙ rw (c.place-in-Take.ensures, c.number-in-Take.ensures, c.number-in-Take-2.ensures) refl
]

pub returns-in-Move : goal.returns-in-Move
unfolding word_fits
returns-in-Move c = ap event_fits c.in-Move.is ∙ rw (c.number.ensures, c.place.ensures, c.place-in-Move.ensures) refl

pub returns-in-New : goal.returns-in-New
unfolding word_fits
returns-in-New c = ap event_fits c.in-New.is ∙ rw (c.place-in-New.ensures, c.number-in-New.ensures, c.number-in-New-2.ensures, c.number-in-New-3.ensures) refl

pub returns-in-End : goal.returns-in-End
unfolding word_fits
returns-in-End c = ap event_fits c.in-End.is ∙ rw (c.place-in-End.ensures, c.number-in-End.ensures, c.number-in-End-2.ensures) refl

pub returns-in-Size : goal.returns-in-Size
unfolding word_fits
returns-in-Size c = ap event_fits c.in-Size.is ∙ rw (c.place-in-Size.ensures, c.number-in-Size.ensures, c.number-in-Size-2.ensures, c.number-in-Size-3.ensures) refl

pub returns-in-Full : goal.returns-in-Full
unfolding word_fits
returns-in-Full c = ap event_fits c.in-Full.is ∙ rw (c.place-in-Full.ensures, c.number-in-Full.ensures, c.number-in-Full-2.ensures) refl

pub returns-in-Dry : goal.returns-in-Dry
unfolding word_fits
returns-in-Dry c = ap event_fits c.in-Dry.is ∙ rw (c.small.ensures, c.number-in-Dry.ensures, c.number-in-Dry-2.ensures) refl

pub returns-in-No : goal.returns-in-No
unfolding word_fits
returns-in-No c = ap event_fits c.in-No.is ∙ rw (c.place-in-No.ensures, c.small-in-No.ensures, c.number-in-No.ensures, c.number-in-No-2.ensures) refl

pub returns-in-Open : goal.returns-in-Open
unfolding word_fits
returns-in-Open c = elim c.in-Open.is [
  | inl is ↦ ap event_fits is ∙ rw c.small-in-Open.ensures refl
  | inr is ↦ ap event_fits is ∙ rw c.small-in-Open.ensures refl
]
