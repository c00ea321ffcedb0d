use Rattle.std.proofs.Common.{ap, ◌∙◌}
use Rattle.mz_base.specs.Lists.{size_at}
use Rattle.mz_events.specs.Standing.{RegionsKept}
use Rattle.mz_magazine.proofs.magazine.Magazine.size_at.Goals as goal

pub returns : goal.returns
returns g c = c.size_at.ensures ∙ ap (λ (v : RegionsKept). size_at v.kept.live c.args.a) c.self.view_is
