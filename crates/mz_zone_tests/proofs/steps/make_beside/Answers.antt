use Rattle.mz_zone_tests.proofs.Tested.{can_at, handed, ready_then}
use Rattle.mz_zone_tests.proofs.BackInHand.{still_handed}
use Rattle.mz_zone_tests.proofs.steps.make_beside.Goals as goal

pub malloc-requires : goal.malloc-requires
malloc-requires g c = record { can = can_at _ c.args.zone.now 40 c.in_ok-make_room.ensures.ready }

pub returns-in-Ok-clause-ready : goal.returns-in-Ok-clause-ready
returns-in-Ok-clause-ready g c = ready_then _ _ _ 40 _ c.in_ok-make_room.ensures.ready c.in-Ok.ensures.answers.goes

pub returns-in-Ok-clause-made : goal.returns-in-Ok-clause-made
returns-in-Ok-clause-made g c = handed c.of_hands.ensures _ _ _ _ _ _ c.in-Ok.ensures.answers

pub returns-in-Ok-clause-held : goal.returns-in-Ok-clause-held
returns-in-Ok-clause-held g c = λ b h. still_handed c.of_hands.ensures _ _ _ _ _ _ b c.in-Ok.ensures.answers (c.in_ok-make_room.ensures.held b h)

pub returns-in-Err-clause-ready : goal.returns-in-Err-clause-ready
returns-in-Err-clause-ready g c = ready_then _ _ _ 40 _ c.in_ok-make_room.ensures.ready c.in-Err.ensures.answers.goes
