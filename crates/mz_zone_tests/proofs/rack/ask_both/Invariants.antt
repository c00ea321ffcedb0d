use Rattle.mz_book.specs.contracts.plain.PlainBookBook.TheImpl.{ghosts}
use Rattle.mz_rack.specs.contracts.keeper.Keeper.{the_row}
use Rattle.mz_rack.specs.contracts.keeper.KeeperKeep.TheImpl as keep
use Rattle.mz_rack.specs.Serving.{CanServe}
use Rattle.mz_zone_tests.proofs.rack.ask_both.Given as goal

-- the next requests can be made in both zones
abbrev pub invariant-loop-caller : goal.invariant-loop-caller
invariant-loop-caller g l =
    let s = (ghosts the_row keep.ghosts keep.dict).account l.book in
    CanServe s l.first.profile l.first.zone 0 × CanServe s l.second.profile l.second.zone 0
