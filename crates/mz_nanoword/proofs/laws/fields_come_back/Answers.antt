use Rattle.mz_nanoword.proofs.Packed.{word_of-pack_of, pack_of-small}
use Rattle.mz_nanoword.proofs.laws.fields_come_back.Goals as goal

pub returns : goal.returns
returns c = record { same = word_of-pack_of; small = pack_of-small }
