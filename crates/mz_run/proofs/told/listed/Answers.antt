use Rattle.std.proofs.Common.{refl}
use Rattle.mz_words.specs.Kinds.{word_fits}
use Rattle.mz_run.proofs.told.listed.Goals as goal

pub returns : goal.returns
unfolding word_fits
returns c = rw (c.number.ensures, c.number-2.ensures, c.requires, c.zone.ensures) refl
