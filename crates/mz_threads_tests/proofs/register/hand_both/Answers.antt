use Rattle.std.proofs.Common.{sym, subst}
use Rattle.mz_register.specs.HandIn.{AreAll}
use Rattle.mz_threads_tests.specs.contracts.toy.ToyKeep.TheImpl.{ghosts}
use Rattle.mz_threads_tests.proofs.TwoPasses.{both_are_all, is_in}
use Rattle.mz_threads_tests.proofs.register.hand_both.Goals as goal

pub hand_in-requires : goal.hand_in-requires
hand_in-requires c =
    let r = c.args.register in
    subst (λ passes. AreAll r.table.shared.table_id r.opening.profile passes) (sym c.in_ok-both.ensures)
    (both_are_all r.table.shared.table_id r.opening.profile c.args.first c.args.second c.requires.callers c.requires.first c.requires.second)

pub returns : goal.returns
returns c = is_in ghosts.keeping _ _ _ c.in-Ok.ensures.ok
