use Rattle.std.proofs.Common.{◌/◌, ◌^◌, ◌<◌, arith}
use Rattle.mz_lists.proofs.WordLemmas.{none_left, first_left}
use Rattle.mz_lists.proofs.words.first_set.Goals as goal

pub returns-then-rest-eq0 : goal.returns-then-rest-eq0
returns-then-rest-eq0 c = none_left c.args.word c.args.i c.if-rest-eq0.true

pub returns : goal.returns
returns c =
    let some : 0 < c.args.word / 2 ^ c.args.i = omega arith in
    first_left c.args.word c.args.i _ c.requires c.ranges.word.fits some c.from.ensures
