use Rattle.std.proofs.Common.{◌*◌, vec_len, arith}
use Rattle.mz_zone.proofs.Freed.{can_fewer}
use Rattle.mz_zone_tests.proofs.Tested.{can_at, ready_then}
use Rattle.mz_zone_tests.proofs.BackInHand.{all_with}
use Rattle.mz_zone_tests.proofs.steps.free_all.Goals as goal

pub batch_free-requires-clause-can : goal.batch_free-requires-clause-can
batch_free-requires-clause-can g c =
    can_fewer _ _ _ 120 (40 * vec_len c.args.all) (let few = c.requires.few in omega arith) (can_at _ c.args.zone.now 120 c.in_ok-make_room.ensures.ready)

pub batch_free-requires-clause-blocks : goal.batch_free-requires-clause-blocks
batch_free-requires-clause-blocks g c = all_with _ _ c.args.all.items c.in_ok-make_room.ensures.held c.requires.blocks

pub returns-in-Ok : goal.returns-in-Ok
returns-in-Ok g c = ready_then _ _ _ 120 _ c.in_ok-make_room.ensures.ready c.in-Ok.ensures.frees.goes

pub returns : goal.returns
returns g c = ready_then _ _ _ 120 _ c.in_ok-make_room.ensures.ready c.in-Err.ensures.frees.goes
