use Rattle.mz_zone_tests.proofs.Tested.{ready_with, handed_with}
use Rattle.mz_zone_tests.proofs.steps.make_room.Goals as goal

pub returns-clause-ready : goal.returns-clause-ready
returns-clause-ready c = ready_with _ _ _ _ c.requires c.in_ok-reserve.ensures.ok

pub returns-clause-held : goal.returns-clause-held
returns-clause-held c = λ b h. handed_with _ _ _ b h c.in_ok-reserve.ensures.ok
