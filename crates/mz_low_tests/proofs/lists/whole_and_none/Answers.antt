use Rattle.std.proofs.Common.{◌≡◌, ap, arith}
use Rattle.mz_lists.specs.Members.{ListsView}
use Rattle.mz_low_tests.proofs.PlainLemmas.{none_in, one_in}
use Rattle.mz_low_tests.proofs.lists.whole_and_none.Goals as goal

pub put-requires : goal.put-requires
put-requires g c =
    let all : c.in_ok-lists.lists.quanta ≡ c.args.quanta = ap (λ (v : ListsView). v.quanta) c.in_ok-lists.ensures in
    (omega arith, (none_in c.args.quanta 0 _ c.in_ok-lists.ensures, (c.requires.quanta, omega arith)))

pub take-requires : goal.take-requires
take-requires g c = (omega arith, one_in 0 c.args.quanta _ _ c.put.ensures.made)
