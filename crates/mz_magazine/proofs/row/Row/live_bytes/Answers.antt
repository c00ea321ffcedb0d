use Rattle.std.proofs.Common.{ap, ◌∙◌}
use Rattle.mz_base.specs.Lists.{size_sum}
use Rattle.mz_magazine.specs.Row.{RowView}
use Rattle.mz_magazine.proofs.row.Row.live_bytes.Goals as goal

pub returns : goal.returns
returns g c = (c.self.invariant.0).sum ∙ ap (λ (v : RowView). size_sum v.live) c.self.view_is
