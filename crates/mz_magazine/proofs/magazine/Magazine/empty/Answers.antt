use Rattle.std.proofs.Common.{◌*◌, sym, ap, ◌∙◌}
use Rattle.mz_events.specs.Standing.{RegionsKept}
use Rattle.mz_magazine.proofs.KeepingRuns.{lowest_empty}
use Rattle.std.specs.Prelude.{find}
use Rattle.std.specs.Option.{option_map}
use Rattle.mz_base.specs.declared.range.TheConstants.{PAGE}
use Rattle.mz_events.specs.Duties.{is_unused}
use Rattle.mz_magazine.proofs.magazine.Magazine.empty.Goals as goal

pub returns : goal.returns
returns g c = λ whole.
    let i = c.self.inside in
    c.empty.ensures ∙ sym (lowest_empty g.row.Q g.row.N i.row.live i.row.firsts whole (c.len-regions.ensures.is).aligned) ∙ ap (λ (v : RegionsKept). option_map (λ r. r.first * PAGE) (find (is_unused v.kept.live) v.kept.runs)) c.self.view_is
