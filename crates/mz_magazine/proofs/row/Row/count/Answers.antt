use Rattle.std.proofs.Common.{length, ap, ◌∙◌}
use Rattle.mz_magazine.specs.Row.{RowView}
use Rattle.mz_magazine.proofs.row.Row.count.Goals as goal

pub returns : goal.returns
returns g c = (c.self.invariant.0).counted ∙ ap (λ (v : RowView). length v.live) c.self.view_is
