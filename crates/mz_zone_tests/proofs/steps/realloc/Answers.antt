use Rattle.mz_book.specs.contracts.plain.PlainBookBook.TheImpl.{ghosts}
use Rattle.mz_rack.specs.contracts.keeper.Keeper.{the_row}
use Rattle.mz_rack.specs.contracts.keeper.KeeperKeep.TheImpl as keep
use Rattle.std.proofs.Common.{subst}
use Rattle.std.specs.Prelude.{Ok, Err, Some, IfSome}
use Rattle.mz_zone.specs.Calling.{AtView, IsHandedIn, seen}
use Rattle.mz_zone_tests.proofs.Tested.{can_at, ready_then}
use Rattle.mz_zone_tests.proofs.BackInHand.{realloc_goes, some_back}
use Rattle.mz_zone_tests.proofs.steps.realloc.Goals as goal

pub realloc-requires-clause-can : goal.realloc-requires-clause-can
realloc-requires-clause-can g c = can_at _ c.args.zone.now 40 c.in_ok-make_room.ensures.ready

pub realloc-requires-clause-block : goal.realloc-requires-clause-block
realloc-requires-clause-block g c =
    c.in_ok-make_room.ensures.held c.in-Some.b (subst (λ o. IfSome o (IsHandedIn (seen ((ghosts the_row keep.ghosts keep.dict).account) c.args.at.now))) c.in-Some.is c.requires.held)

pub returns-in-Ok : goal.returns-in-Ok
returns-in-Ok g c =
    let v : AtView = seen ((ghosts the_row keep.ghosts keep.dict).account) c.make_room.new.at in
    let w : AtView = seen ((ghosts the_row keep.ghosts keep.dict).account) c.realloc.new.at in
    record {
      ready = ready_then v w _ 40 _ c.in_ok-make_room.ensures.ready (realloc_goes v w c.args.zone.now.zone c.args.n (Some c.in-Some.b) (Ok c.in-Ok.new) c.in-Ok.ensures.reallocs).1;
      held = c.marked.ensures w c.in-Ok.ensures.handed;
    }

pub returns-in-Err : goal.returns-in-Err
returns-in-Err g c =
    let v : AtView = seen ((ghosts the_row keep.ghosts keep.dict).account) c.make_room.new.at in
    let w : AtView = seen ((ghosts the_row keep.ghosts keep.dict).account) c.realloc.new.at in
    let there : IsHandedIn v c.in-Some.b =
    c.in_ok-make_room.ensures.held c.in-Some.b (subst (λ o. IfSome o (IsHandedIn (seen ((ghosts the_row keep.ghosts keep.dict).account) c.args.at.now))) c.in-Some.is c.requires.held) in
    record {
      ready = ready_then v w _ 40 _ c.in_ok-make_room.ensures.ready (realloc_goes v w c.args.zone.now.zone c.args.n (Some c.in-Some.b) (Err c.in-Err.fault) c.in-Err.ensures.reallocs).1;
      held = some_back c.of_hands.ensures v w c.args.zone.now.zone c.args.n c.in-Some.b c.in-Err.fault c.unchanged.result.0 c.in-Err.ensures.reallocs c.unchanged.ensures there;
    }
