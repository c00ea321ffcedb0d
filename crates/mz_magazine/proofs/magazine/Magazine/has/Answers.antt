use Rattle.std.proofs.Common.{◌+◌, sym, ap, ◌∙◌}
use Rattle.mz_events.specs.Standing.{RegionsKept}
use Rattle.mz_magazine.proofs.KeepingRuns.{lies_runs}
use Rattle.std.specs.List.{list_any}
use Rattle.mz_base.specs.Room.{lies_in}
use Rattle.mz_magazine.proofs.magazine.Magazine.has.Goals as goal

pub returns : goal.returns
returns g c = λ whole.
    let i = c.self.inside in
    c.has.ensures ∙ sym (lies_runs g.row.Q g.row.N i.row.firsts c.args.a (c.args.a + 1) whole (c.len-regions.ensures.is).aligned) ∙ ap (λ (v : RegionsKept). list_any (λ r. lies_in r c.args.a (c.args.a + 1)) v.kept.runs) c.self.view_is
