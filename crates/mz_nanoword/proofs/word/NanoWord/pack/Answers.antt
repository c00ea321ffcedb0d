use Rattle.std.proofs.Common.{refl}
use Rattle.mz_nanoword.specs.Words.{pack_of}
use Rattle.mz_nanoword.proofs.Packed.{word_of-pack_of}
use Rattle.mz_nanoword.proofs.word.NanoWord.pack.Goals as goal

pub returns-clause-value : goal.returns-clause-value
unfolding pack_of
returns-clause-value c = refl

pub returns-clause-fields : goal.returns-clause-fields
unfolding pack_of
returns-clause-fields c = word_of-pack_of c.args.self.now c.requires
