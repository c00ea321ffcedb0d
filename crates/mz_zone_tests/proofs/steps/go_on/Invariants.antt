use Rattle.mz_book.specs.contracts.plain.PlainBookBook.TheImpl.{ghosts}
use Rattle.mz_rack.specs.contracts.keeper.Keeper.{the_row}
use Rattle.mz_rack.specs.contracts.keeper.KeeperKeep.TheImpl as keep
use Rattle.mz_zone.specs.Calling.{seen}
use Rattle.mz_zone_tests.specs.Tested.{IsLeft}
use Rattle.mz_zone_tests.proofs.steps.go_on.Given as goal

-- the next step can be done
abbrev pub invariant-loop-zone : goal.invariant-loop-zone
invariant-loop-zone g l = IsLeft (seen ((ghosts the_row keep.ghosts keep.dict).account) l.at) l.first.profile l.held
