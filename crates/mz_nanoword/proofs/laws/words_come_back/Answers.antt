use Rattle.mz_nanoword.proofs.Packed.{word_of-fits, pack_of-word_of}
use Rattle.mz_nanoword.proofs.laws.words_come_back.Goals as goal

pub returns : goal.returns
returns c = record { same = pack_of-word_of; fit = word_of-fits }
