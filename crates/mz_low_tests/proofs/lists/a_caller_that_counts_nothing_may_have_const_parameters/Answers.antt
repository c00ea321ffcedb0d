use Rattle.std.proofs.Common.{◌≡◌, ap, arith}
use Rattle.mz_lists.specs.Members.{ListsView}
use Rattle.mz_low_tests.proofs.PlainLemmas.{none_in}
use Rattle.mz_low_tests.proofs.lists.a_caller_that_counts_nothing_may_have_const_parameters.Goals as goal

pub put-requires : goal.put-requires
put-requires g c =
    let all : c.in_ok-lists.lists.quanta ≡ 100 = ap (λ (v : ListsView). v.quanta) c.in_ok-lists.ensures in
    (omega arith, (none_in 100 40 _ c.in_ok-lists.ensures, (omega arith, (omega arith, omega arith))))
