use Rattle.mz_zone_tests.proofs.Tested.{can_at, handed, ready_then}
use Rattle.mz_zone_tests.proofs.steps.make.Goals as goal

pub malloc-requires : goal.malloc-requires
malloc-requires g c = record { can = can_at _ c.args.zone.now 40 c.in_ok-make_room.ensures.ready }

pub returns-in-Ok : goal.returns-in-Ok
returns-in-Ok g c = record {
  ready = ready_then _ _ _ 40 _ c.in_ok-make_room.ensures.ready c.in-Ok.ensures.answers.goes;
  held = c.marked.ensures _ (handed c.of_hands.ensures _ _ _ _ _ _ c.in-Ok.ensures.answers);
}

pub returns-in-Err : goal.returns-in-Err
returns-in-Err g c = record { ready = ready_then _ _ _ 40 _ c.in_ok-make_room.ensures.ready c.in-Err.ensures.answers.goes; held = tt }
