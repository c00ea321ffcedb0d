use Rattle.std.proofs.Common.{arith}
use Rattle.mz_zone.proofs.Freed.{can_fewer}
use Rattle.mz_zone_tests.proofs.Tested.{can_at, handed, ready_then, ready_for_more}
use Rattle.mz_zone_tests.proofs.nano.make_one.Goals as goal

pub malloc-requires : goal.malloc-requires
malloc-requires g c = record { can = can_fewer _ _ _ 80 40 (omega arith) (can_at _ c.args.zone.now 80 c.requires) }

pub free-requires-clause-can : goal.free-requires-clause-can
free-requires-clause-can g c = can_at _ c.args.zone.now 40 (ready_for_more _ _ _ _ c.requires c.in-Ok.ensures.answers.goes c.in-Ok.ensures.answers.few)

pub free-requires-clause-block : goal.free-requires-clause-block
free-requires-clause-block g c = handed c.of_hands.ensures _ _ _ _ _ _ c.in-Ok.ensures.answers

pub returns-else-frees-clause-ready : goal.returns-else-frees-clause-ready
returns-else-frees-clause-ready g c = ready_then _ _ _ 80 _ c.requires c.in-Ok.ensures.answers.goes

pub returns-in_default-clause-ready : goal.returns-in_default-clause-ready
returns-in_default-clause-ready g c = ready_then _ _ _ 80 _ c.requires c.malloc.ensures.answers.goes

pub returns-in-Ok-free-clause-ready : goal.returns-in-Ok-free-clause-ready
returns-in-Ok-free-clause-ready g c =
    ready_then _ _ _ 40 _ (ready_for_more _ _ _ _ c.requires c.in-Ok.ensures.answers.goes c.in-Ok.ensures.answers.few) c.free.ensures.frees.goes
