use Rattle.std.proofs.Common.{length, ap, ◌∙◌}
use Rattle.mz_events.specs.Standing.{RegionsKept}
use Rattle.mz_magazine.proofs.magazine.Magazine.count.Goals as goal

pub returns : goal.returns
returns g c = c.count.ensures ∙ ap (λ (v : RegionsKept). length v.kept.live) c.self.view_is
