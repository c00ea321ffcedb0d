use Rattle.mz_zone_tests.specs.Tested.{at_book}
use Rattle.mz_zone_tests.proofs.Tested.{ready_as, ready_settled, settled_so}
use Rattle.mz_zone_tests.proofs.nano.settle_first.Goals as goal

pub returns : goal.returns
returns c = λ nano p ready.
    ready_as _ _ p 0 (ready_settled _ _ p 0 (ready_as (at_book _ nano) _ p 1 ready c.act_as.ensures) (settled_so _ _ 0 5 _ c.settle.ensures.settles)) c.act_as-2.ensures
