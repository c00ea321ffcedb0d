use Rattle.std.proofs.Common.{refl, arith, ◌^◌, ◌<◌}
use Rattle.mz_nanoword.specs.Words.{pack_of, word_of}
use Rattle.mz_nanoword.proofs.Packed.{word_of-fits, pack_of-word_of}
use Rattle.mz_nanoword.proofs.word.NanoWord.unpack.Goals as goal

pub returns : goal.returns
unfolding pack_of word_of
returns c =
    let small : c.args.w < 2 ^ 63 = omega arith
    in (small, refl, word_of-fits c.args.w small, pack_of-word_of c.args.w)
