use Rattle.std.proofs.Common.{refl, arith}
use Rattle.mz_rack.proofs.stock.Stock.make.Goals as goal

pub blanks-requires : goal.blanks-requires
blanks-requires c = (omega arith, (4, refl))

pub blanks-requires-2 : goal.blanks-requires-2
blanks-requires-2 c = (omega arith, (9, refl))
