use Rattle.mz_book.specs.contracts.plain.PlainBookBook.TheImpl.{ghosts}
use Rattle.mz_rack.specs.contracts.keeper.Keeper.{the_row}
use Rattle.mz_rack.specs.contracts.keeper.KeeperKeep.TheImpl as keep
use Rattle.std.proofs.Common.{subst}
use Rattle.std.specs.Prelude.{IfSome}
use Rattle.mz_zone.specs.Calling.{IsHandedIn, seen}
use Rattle.mz_zone_tests.proofs.Tested.{can_at, ready_then, some_handed}
use Rattle.mz_zone_tests.proofs.BackInHand.{back_from_free}
use Rattle.mz_zone_tests.proofs.steps.free.Goals as goal

pub free-requires-clause-can : goal.free-requires-clause-can
free-requires-clause-can g c = can_at _ c.args.zone.now 40 c.in_ok-make_room.ensures.ready

pub free-requires-clause-block : goal.free-requires-clause-block
free-requires-clause-block g c =
    c.in_ok-make_room.ensures.held c.in-Some.b (subst (λ o. IfSome o (IsHandedIn (seen ((ghosts the_row keep.ghosts keep.dict).account) c.args.at.now))) c.in-Some.is c.requires.held)

pub returns-in-Ok : goal.returns-in-Ok
returns-in-Ok g c = record { ready = ready_then _ _ _ 40 _ c.in_ok-make_room.ensures.ready c.in-Ok.ensures.frees.goes; held = tt }

pub returns-in-Err : goal.returns-in-Err
returns-in-Err g c =
    let there = c.in_ok-make_room.ensures.held c.in-Some.b (subst (λ o. IfSome o (IsHandedIn (seen ((ghosts the_row keep.ghosts keep.dict).account) c.args.at.now))) c.in-Some.is c.requires.held) in
    record {
      ready = ready_then _ _ _ 40 _ c.in_ok-make_room.ensures.ready c.in-Err.ensures.frees.goes;
      held = some_handed _ c.come_back.result.0 _ c.come_back.ensures (back_from_free c.of_hands.ensures _ _ _ _ _ c.in-Err.ensures.frees there);
    }
