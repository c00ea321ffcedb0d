use Rattle.std.proofs.Common.{None, ap}
use Rattle.mz_magazine.specs.Row.{RowView}
use Rattle.mz_magazine.specs.Keeping.{keeping_of}
use Rattle.mz_magazine.proofs.magazine.Magazine.make.Goals as goal

pub returns : goal.returns
returns g c = ap (λ (v : RowView). keeping_of g.row.Q g.row.N c.args.depot v None) c.in_ok-make.ensures
